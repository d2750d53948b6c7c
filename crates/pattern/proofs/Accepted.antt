-- What acceptance gives a pattern: a square topology, a mask of its length, lists that reach their needed lengths. Assumes nothing.
use mathlib.Core.Path.{◌≡◌, sym, ap, ap₂, ◌∙◌, subst}
use Rattle.std.specs.Prelude.{Ok}
use Rattle.std.proofs.Common.{Bor}
use mathlib.Core.Bool.{Bool}
use mathlib.Core.List.{List}
use Prim.Native.Nat.{ℕ, ◌^◌, ◌≤◌, ◌<◌}
use borrow.Author.Tests.{eqb-true, leb-true, ltb-true}
use lib.ListN.{length, get_or}
use Rattle.base.specs.Checks.{Check}
use Rattle.base.specs.Sets.{count_below}
use Rattle.base.proofs.Checks.{both-passed, passed}
use Rattle.mask.specs.declared.DofMask.{DofMask}
use Rattle.mask.specs.Mask.{in_mask, IsMask}
use Rattle.mask.proofs.Masks.{accepted-length}
use Rattle.mask.specs.Views.{nodes as members}
use Rattle.side.specs.declared.AbtmTopology.{AbtmTopology}
use Rattle.side.specs.declared.inner.Side.{Side}
use Rattle.side.specs.Side.{side_holds}
use Rattle.side.specs.Views.{holds, pairs, AcceptedFrom as AcceptedSide}
use Rattle.dual_topology.specs.Check.{topology_check, IsTopology}
use Rattle.dual_topology.proofs.Accepted.{accepted-topology}
use Rattle.pattern.specs.declared.inner.Local.{Local}
use Rattle.pattern.specs.Pattern.{region_check, pattern_room, pattern_check, pairs_inside, stats_of_pattern}
use Rattle.pattern.specs.Steps.{region_kept, room_for, stats_by_counts}
use Rattle.pattern.specs.Views.{AcceptedFrom}
use Rattle.pattern.specs.declared.RegionKept.{RegionKept}
use Rattle.pattern.specs.declared.AbtmLocalSubmatrixPatternStats.{AbtmLocalSubmatrixPatternStats}

pub record Accepts (n : ℕ) (ptr idx masks ptr2 idx2 masks2 region : List ℕ) : Type 0 where
  pub topology : IsTopology n n ptr idx masks ptr2 idx2 masks2
  pub mask : IsMask n region

pub accepted-region : (nrows ncols : ℕ) (ptr idx masks : List ℕ) (pairs nrows2 ncols2 : ℕ) (ptr2 idx2 masks2 : List ℕ) (pairs2 len : ℕ) (region : List ℕ)
    → ((k : ℕ) → get_or masks k 0 < 2 ^ 64) → ((k : ℕ) → get_or masks2 k 0 < 2 ^ 64) → ((k : ℕ) → get_or region k 0 < 2 ^ 64)
    → region_check (topology_check nrows ncols ptr idx masks pairs nrows2 ncols2 ptr2 idx2 masks2 pairs2) nrows ncols len region ≡ Ok tt
    → Accepts nrows ptr idx masks ptr2 idx2 masks2 region
unfolding region_check
accepted-region nrows ncols ptr idx masks pairs nrows2 ncols2 ptr2 idx2 masks2 pairs2 len region fits fits2 fits3 e =
    let a = both-passed _ _ e in
    let b = both-passed _ _ a.0 in
    let t = accepted-topology nrows ncols ptr idx masks pairs nrows2 ncols2 ptr2 idx2 masks2 pairs2 fits fits2 b.0 in
    let square : nrows ≡ ncols = eqb-true _ _ (passed _ _ b.1) in
    record {
      topology = subst (λ (n : ℕ). IsTopology nrows n ptr idx masks ptr2 idx2 masks2) (sym square) t.topology;
      mask = (accepted-length nrows len region t.topology.rows.shape.few_rows fits3 a.1).1;
    }

-- what is left to check of an accepted topology is the rest of the whole check, however the topology's part c is made
pub local-check : (c : Check) (nrows ncols n m len : ℕ) (words : List ℕ) → c ≡ Ok tt → n ≡ nrows → m ≡ ncols → region_check (Ok tt) n m len words ≡ region_check c nrows ncols len words
local-check c nrows ncols n m len words e a b = ap₂ (λ (x y : ℕ). region_check (Ok tt) x y len words) a b ∙ ap (λ (k : Check). region_check k nrows ncols len words) (sym e)

-- an accepted region speaks of what was lent
pub record Lent (rows : AbtmTopology) (region : DofMask) (l : Local) : Type 0 where
  pub sized : l.region.len ≡ rows.nrows
  pub nodes : members l.region ≡ in_mask region.words.now
  pub stored : pairs l.rows ≡ holds rows

pub lent : (rows : AbtmTopology) (region : DofMask) (side : Side) (l : Local) → AcceptedSide rows side → AcceptedFrom side region l → Lent rows region l
lent rows region side l a b =
    record {
      sized = b.1 ∙ a.0;
      nodes = ap (λ (w : Bor (List ℕ)). in_mask w.now) b.2;
      stored = ap pairs b.0 ∙ ap₂ (λ (x y : Bor (List ℕ)). side_holds x.now y.now side.masks.now) a.2 a.3 ∙ ap (λ (z : Bor (List ℕ)). side_holds rows.row_word_ptr.now rows.word_indices.now z.now) a.4;
    }

-- so what is said of it is said of them
pub lent-as : {A : Type 0} (rows : AbtmTopology) (region : DofMask) (l : Local) → Lent rows region l → (f : ℕ → (ℕ → Bool) → (ℕ → ℕ → Bool) → A)
    → f l.region.len (members l.region) (pairs l.rows) ≡ f rows.nrows (in_mask region.words.now) (holds rows)
lent-as rows region l e f =
    ap (λ (n : ℕ). f n (members l.region) (pairs l.rows)) e.sized ∙ ap₂ (λ (p : ℕ → Bool) (s : ℕ → ℕ → Bool). f rows.nrows p s) e.nodes e.stored

module _ (n : ℕ) (p : ℕ → Bool) (s : ℕ → ℕ → Bool) (nodes ptr cols : List ℕ) where
  pub record Fits : Type 0 where
    pub nodes_room : count_below n p ≤ length nodes
    pub ptr_room : count_below n p < length ptr
    pub columns_room : pairs_inside n p s ≤ length cols

  pub room_fits : pattern_room n p s nodes ptr cols ≡ Ok tt → Fits
  unfolding pattern_room
  room_fits e =
      let a = both-passed _ _ e in
      let b = both-passed _ _ a.1 in
      record { nodes_room = leb-true _ _ (passed _ _ a.0); ptr_room = ltb-true _ _ (passed _ _ b.0); columns_room = leb-true _ _ (passed _ _ b.1) }

  -- the counts decide as the definitions do
  pub room_is : (members kept : ℕ) → members ≡ count_below n p → kept ≡ pairs_inside n p s → room_for members kept (length nodes) (length ptr) (length cols) ≡ pattern_room n p s nodes ptr cols
  unfolding room_for pattern_room
  room_is members kept e k = ap₂ (λ (m h : ℕ). room_for m h (length nodes) (length ptr) (length cols)) e k

  pub stats_are : (stats : AbtmLocalSubmatrixPatternStats) (counts : RegionKept) → stats ≡ stats_by_counts n counts → counts ≡ region_kept n p s → stats ≡ stats_of_pattern n p s
  stats_are stats counts e k = e ∙ ap (stats_by_counts n) k

-- a whole call that was accepted
pub accepted-pattern : (nrows ncols : ℕ) (ptr idx masks : List ℕ) (pairs nrows2 ncols2 : ℕ) (ptr2 idx2 masks2 : List ℕ) (pairs2 len : ℕ) (region : List ℕ) (s : ℕ → ℕ → Bool) (nodes starts cols : List ℕ)
    → ((k : ℕ) → get_or masks k 0 < 2 ^ 64) → ((k : ℕ) → get_or masks2 k 0 < 2 ^ 64) → ((k : ℕ) → get_or region k 0 < 2 ^ 64)
    → pattern_check (topology_check nrows ncols ptr idx masks pairs nrows2 ncols2 ptr2 idx2 masks2 pairs2) nrows ncols len region s nodes starts cols ≡ Ok tt
    → Accepts nrows ptr idx masks ptr2 idx2 masks2 region × Fits nrows (in_mask region) s nodes starts cols
unfolding pattern_check
accepted-pattern nrows ncols ptr idx masks pairs nrows2 ncols2 ptr2 idx2 masks2 pairs2 len region s nodes starts cols fits fits2 fits3 e =
    let a = both-passed _ _ e in
    (accepted-region nrows ncols ptr idx masks pairs nrows2 ncols2 ptr2 idx2 masks2 pairs2 len region fits fits2 fits3 a.0, room_fits nrows (in_mask region) s nodes starts cols a.1)
