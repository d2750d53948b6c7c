-- What a growth is lent: the pairs of an accepted topology; of the three lists what acceptance says of their lengths, and what stands in them afterwards. Assumes nothing.
use mathlib.Core.Path.{◌≡◌, sym, ap, ap₂, ◌∙◌}
use Rattle.std.specs.Prelude.{Ok}
use mathlib.Core.Bool.{false}
use mathlib.Core.List.{List}
use Prim.Native.Nat.{ℕ, ◌≤◌}
use borrow.Author.Tests.{leb-true}
use lib.ListN.{length, replicate}
use Rattle.base.specs.Checks.{side_limit}
use Rattle.base.specs.Sets.{count_below}
use Rattle.base.proofs.Checks.{both-passed, passed}
use Rattle.base.proofs.Sets.{count-cong}
use Rattle.mask.specs.Mask.{in_mask, words_needed, mask_words, IsMask}
use Rattle.mask.proofs.Masks.{mask_is, mask-length, mask-none}
use Rattle.side.specs.Side.{side_holds}
use Rattle.side.specs.Views.{holds, pairs}
use Rattle.dual_topology.specs.declared.AbtmDualTopology.{AbtmDualTopology}
use Rattle.dual_topology.specs.declared.inner.Topology.{Topology}
use Rattle.dual_topology.specs.Views.{AcceptedFrom}
use Rattle.graph.specs.Network.{Network, in_region, region_words, frontier_words}
use Rattle.graph.proofs.Networks.{region-at}
use Rattle.growth.specs.Lent.{masks_room}

-- an accepted topology pairs what the lent one does
pub pairs-same : (t : AbtmDualTopology) (a : Topology) → AcceptedFrom t a → pairs a.rows ≡ holds t.rows
pairs-same t a e =
    ap₂ (λ p i. side_holds p.now i.now a.rows.masks.now) e.0.2 e.0.3
    ∙ ap (λ m. side_holds t.rows.row_word_ptr.now t.rows.word_indices.now m.now) e.0.4

pub masks-fit : (n region frontier scratch : ℕ) → masks_room n region frontier scratch ≡ Ok tt
    → (words_needed n ≤ region) × (words_needed n ≤ frontier) × (words_needed n ≤ scratch)
unfolding masks_room
masks-fit n region frontier scratch e =
    let a = both-passed _ _ e in
    let b = both-passed _ _ a.1 in
    (leb-true _ _ (passed _ _ a.0), leb-true _ _ (passed _ _ b.0), leb-true _ _ (passed _ _ b.1))

pub region-length : (g : Network) (seeds : List ℕ) (h : ℕ) → length (region_words g seeds h) ≡ words_needed g.nodes
unfolding region_words
region-length g seeds h = mask-length g.nodes _

pub frontier-length : (g : Network) (seeds : List ℕ) (h : ℕ) → length (frontier_words g seeds h) ≡ words_needed g.nodes
unfolding frontier_words
frontier-length g seeds h = mask-length g.nodes _

pub scratch-zero : (n : ℕ) (part : List ℕ) → part ≡ mask_words n (λ i. false) → part ≡ replicate {A = ℕ} (words_needed n) 0
scratch-zero n part e = e ∙ sym (mask-none n)

pub region_is : (g : Network) (seeds : List ℕ) (h : ℕ) → g.nodes ≤ side_limit → IsMask g.nodes (region_words g seeds h)
unfolding region_words
region_is g seeds h l = mask_is g.nodes _ l

-- the region's nodes, counted in its words
pub region-count : (g : Network) (seeds region : List ℕ) (h : ℕ) → region ≡ region_words g seeds h → count_below g.nodes (in_mask region) ≡ count_below g.nodes (in_region g (in_mask seeds) h)
region-count g seeds region h e = count-cong g.nodes (in_mask region) (in_region g (in_mask seeds) h) (λ i l. ap (λ (w : List ℕ). in_mask w i) e ∙ region-at g seeds h i l)
