-- Field growth on words: what is closed in place, the closed seeds, the blocks counted. Assumes nothing.
use mathlib.Core.Path.{◌≡◌, sym, ap, ap₂, ◌∙◌}
use mathlib.Core.Bool.{Bool, ◌&&◌}
use mathlib.Core.List.{List}
use Prim.Native.Nat.{ℕ, suc, ◌<◌}
use native.Mathlib.Omega.{arith}
use lib.Dec.{eqb}
use lib.ListN.{length, get_or}
use Rattle.base.specs.Sets.{count_below}
use Rattle.base.proofs.Sets.{any-cong, count-cong}
use Rattle.mask.specs.Mask.{in_mask, mask_words}
use Rattle.mask.proofs.Masks.{mask-holds, mask-cong}
use Rattle.dof_layout.specs.Layout.{start_of, total_of, block_of}
use Rattle.dof_layout.proofs.Layouts.{block-is, in-block, start-suc, start-mono}
use Rattle.graph.specs.Network.{Network, Whole, field_network, holding, closed, block_within, in_region, region_words}
use Rattle.graph.proofs.Networks.{hop-start}
use Rattle.growth.specs.Visits.{grown_by}
use Rattle.growth.specs.declared.Grown.{Grown}
use Rattle.field_region.specs.Closure.{closed_words}
use Rattle.field_region.specs.Growth.{blocks_grown_by}

-- closed in place: what stood there was the words of a set
pub closed_after : (components x y : List ℕ) (p : ℕ → Bool) → x ≡ closed_words components y → y ≡ mask_words (total_of components) p → x ≡ mask_words (total_of components) (closed (total_of components) (block_of components) p)
unfolding holding
closed_after components x y p h q =
    h
    ∙ mask-cong n (closed n (block_of components) (in_mask y)) (closed n (block_of components) p)
    (λ i l. any-cong n _ _ (λ j k. ap (λ (v : Bool). eqb (block_of components j) (block_of components i) && v) (ap (λ (w : List ℕ). in_mask w j) q ∙ mask-holds n p j k)))
  where
    n : ℕ
    n = total_of components

-- the closed seeds, counted in their words
pub closed-count : (g : Network) (whole : Whole g) (seeds region : List ℕ) (r : ℕ) → region ≡ mask_words g.nodes (closed g.nodes g.block (in_mask seeds))
    → r ≡ count_below g.nodes (in_mask region) → r ≡ count_below g.nodes (in_region g (in_mask seeds) 0)
closed-count g whole seeds region r e er =
    er
    ∙ count-cong g.nodes (in_mask region) (in_region g (in_mask seeds) 0)
    (λ i l. ap (λ (w : List ℕ). in_mask w i) e ∙ mask-holds g.nodes (closed g.nodes g.block (in_mask seeds)) i l ∙ sym (hop-start g whole (in_mask seeds) i))

pub blocks-grown : (g : Network) (seeds : List ℕ) (h r : ℕ) (x : Grown) → r ≡ count_below g.nodes (in_region g (in_mask seeds) 0) → x ≡ grown_by g seeds h
    → record { closed_seeds = r; grown = x } ≡ blocks_grown_by g seeds h
blocks-grown g seeds h r x er ex = ap₂ (λ (a : ℕ) (b : Grown). record { closed_seeds = a; grown = b }) er ex

-- a region holds a block if it holds its first node
module _ (components : List ℕ) (s : ℕ → ℕ → Bool) (filled : (b : ℕ) → b < length components → 0 < get_or components b 0) where
  first_block : (b : ℕ) → b < length components → block_of components (start_of components b) ≡ b
  first_block b l = block-is components b (start_of components b) l (in-block components b (start_of components b) (omega arith) (omega (arith, start-suc components b, filled b l)))

  start-below : (b : ℕ) → b < length components → start_of components b < total_of components
  start-below b l = omega (arith, start-suc components b, filled b l, start-mono components (suc b) (length components) (omega arith))

  pub block-count : (seeds region : List ℕ) (h r : ℕ) → region ≡ region_words (field_network components s) seeds h
      → r ≡ count_below (length components) (λ b. in_mask region (start_of components b))
      → r ≡ count_below (length components) (block_within (field_network components s) (in_mask seeds) h)
  unfolding region_words
  block-count seeds region h r e er =
      er
      ∙ count-cong (length components) (λ b. in_mask region (start_of components b)) (block_within (field_network components s) (in_mask seeds) h)
      (λ b l.
      ap (λ (w : List ℕ). in_mask w (start_of components b)) e
      ∙ mask-holds (total_of components) (in_region (field_network components s) (in_mask seeds) h) (start_of components b) (start-below b l)
      ∙ ap (block_within (field_network components s) (in_mask seeds) h) (first_block b l))
