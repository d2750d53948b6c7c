-- Document 01's entries (0,1), (1,2) as walks: distances from the computed tests by `distance-iff`, the walk itself, a node without a
-- distance, and that plain and field networks are whole, as the laws ask. Assumes nothing.
use mathlib.Core.Path.{subst}
use mathlib.Core.Bool.{Bool, ◌&&◌, ◌||◌}
use mathlib.Core.List.{[], ◌∷◌}
use Prim.Native.Nat.{ℕ, ◌+◌}
use native.Mathlib.Omega.{arith}
use lib.Dec.{T, eqb}
use Rattle.base.specs.Sets.{any_below, first_below, sum_below}
use Rattle.word.specs.Bits.{bit_at}
use Rattle.mask.specs.Mask.{in_mask}
use Rattle.dof_layout.specs.Layout.{start_of, block_of}
use Rattle.graph.specs.Distance.{Walk, here, next, Distance, within, exactly, any_at}
use Rattle.graph.specs.Network.{Network, Whole, plain_network, field_network, holding, linked, seeded}
use Rattle.graph.proofs.Distances.{distance-iff, walk-within, within-mono, rest-within}
use Rattle.graph.proofs.Networks.{plain-whole, field-whole}

abbrev first : ℕ → ℕ → Bool
first i j = eqb i 0 && eqb j 1

abbrev entries : ℕ → ℕ → Bool
entries i j = first i j || (eqb i 1 && eqb j 2)

abbrev plain : Network
plain = plain_network 3 entries

-- blocks of 2 and 1
abbrev field : Network
field = field_network (2 ∷ 1 ∷ []) entries

-- without the entry (1,2)
abbrev cut : Network
cut = plain_network 3 first

pub record Chain : Type 0 where
  -- seed 0: two links lead to node 2, and no fewer
  pub walk : Walk 3 (linked plain) (seeded plain (in_mask (1 ∷ []))) 2 2
  pub far : Distance 3 (linked plain) (seeded plain (in_mask (1 ∷ []))) 2 2
  -- seed 1: block 1 is one link from block 0, which holds it
  pub near : Distance 2 (linked field) (seeded field (in_mask (2 ∷ []))) 1 1
  -- seed 0, one entry: no links lead to node 2
  pub none : (k : ℕ) → Walk 3 (linked cut) (seeded cut (in_mask (1 ∷ []))) k 2 → ⊥
  pub plain_holds : Whole plain
  pub field_holds : Whole field

pub chain : Chain
unfolding any_below first_below sum_below bit_at in_mask start_of block_of within exactly any_at holding linked
chain = record {
  walk = next {b = 2} (next {b = 1} (here {b = 0} (omega arith) tt) (omega arith) tt) (omega arith) tt;
  far = (distance-iff 3 (linked plain) (seeded plain (in_mask (1 ∷ []))) 2 2 (omega arith)).0 tt;
  near = (distance-iff 2 (linked field) (seeded field (in_mask (2 ∷ []))) 1 1 (omega arith)).0 tt;
  none = λ k w.
      subst (λ (v : Bool). T v) (rest-within 3 (linked cut) (seeded cut (in_mask (1 ∷ []))) 2 (k + 2) 2 (λ t. t) (omega arith) (omega arith))
      (within-mono 3 (linked cut) (seeded cut (in_mask (1 ∷ []))) k (k + 2) 2 (omega arith) (walk-within 3 (linked cut) (seeded cut (in_mask (1 ∷ []))) w).1);
  plain_holds = plain-whole 3 entries;
  field_holds = field-whole (2 ∷ 1 ∷ []) entries;
}
