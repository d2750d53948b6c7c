-- Small topologies by computing the definitions: a side with a repeated entry, document 01's entries (0,1), (1,2), and refusals 1 and 9. Assumes nothing.
use mathlib.Core.Path.{◌≡◌, refl}
use Rattle.std.specs.Prelude.{Ok, Err}
use Rattle.base.specs.Checks.{Check}
use Rattle.base.specs.declared.Refusal.TheVariants.{OverLimit, BadTopology}
use mathlib.Core.Bool.{Bool}
use mathlib.Core.List.{List, [], ◌∷◌}
use Prim.Native.Nat.{ℕ}
use Rattle.base.specs.Checks.{must, ◌then◌}
use Rattle.base.specs.Lists.{is_in, join_below, list_from}
use Rattle.base.specs.Sets.{first_below, every_below, sum_below, members_from}
use Rattle.word.specs.Bits.{bit_at, word_from}
use Rattle.csr32.specs.Matrix.{stored}
use Rattle.side.specs.Side.{flip, words_of_row, masks_of_row, side_words, side_masks, side_ptr, pair_count, mask_for, row_holds}
use Rattle.side.specs.Check.{limit_check, fault_check, bits_in, lists_agree, is_word_inside, good_word, words_fault, side_fault, side_check}
use Rattle.side.specs.declared.Fault.{Fault}
use Rattle.agreement.specs.Agreement.{turned}
use Rattle.dual_topology.specs.Check.{first_fault, sides_agree, topology_fault, topology_check}

-- 2 by 130, entries (0,129), (0,0), (0,129), (1,64): the repeated one is one pair
abbrev peaks : ℕ → ℕ → Bool
peaks = stored (0 ∷ 3 ∷ 4 ∷ []) (129 ∷ 0 ∷ 129 ∷ 64 ∷ [])

-- entries (0,1), (1,2), side 3
abbrev chain : ℕ → ℕ → Bool
chain = stored (0 ∷ 1 ∷ 2 ∷ 2 ∷ []) (1 ∷ 2 ∷ [])

-- their topology as it is handed in, and with one mask or word changed
abbrev chain_check : List ℕ → List ℕ → Check
chain_check masks masks2 = topology_check 3 3 (0 ∷ 1 ∷ 2 ∷ 2 ∷ []) (0 ∷ 0 ∷ []) masks 2 3 3 (0 ∷ 0 ∷ 1 ∷ 2 ∷ []) (0 ∷ 0 ∷ []) masks2 2

pub record Topologies : Type 0 where
  pub words : side_words 2 130 peaks ≡ 0 ∷ 2 ∷ 1 ∷ []
  pub masks : side_masks 2 130 peaks ≡ 1 ∷ 2 ∷ 1 ∷ []
  pub pointers : side_ptr 2 130 peaks ≡ 0 ∷ 2 ∷ 3 ∷ []
  pub pairs : pair_count 2 130 peaks ≡ 3
  pub chain_masks : side_masks 3 3 chain ≡ 2 ∷ 4 ∷ []
  pub chain_columns : side_masks 3 3 (flip chain) ≡ 1 ∷ 2 ∷ []
  pub chain_starts : side_ptr 3 3 (flip chain) ≡ 0 ∷ 0 ∷ 1 ∷ 2 ∷ []
  pub accepted : chain_check (2 ∷ 4 ∷ []) (1 ∷ 2 ∷ []) ≡ Ok tt
  pub not_turned : chain_check (2 ∷ 4 ∷ []) (1 ∷ 1 ∷ []) ≡ Err BadTopology
  pub zero_word : side_check 1 1 (0 ∷ 1 ∷ []) (0 ∷ []) (0 ∷ []) 0 ≡ Err BadTopology
  pub which_word : side_fault 2 65 (0 ∷ 1 ∷ 3 ∷ []) (0 ∷ 1 ∷ 1 ∷ []) (1 ∷ 1 ∷ 1 ∷ []) 3 ≡ Err (Fault.Word (record { row = 1; position = 2 }))
  pub past_the_columns : side_check 1 65 (0 ∷ 1 ∷ []) (1 ∷ []) (2 ∷ []) 1 ≡ Err BadTopology
  pub last_column : side_check 1 65 (0 ∷ 1 ∷ []) (1 ∷ []) (1 ∷ []) 1 ≡ Ok tt
  pub too_wide : side_check 0 1048577 (0 ∷ []) [] [] 0 ≡ Err OverLimit
  pub widest : side_check 0 1048576 (0 ∷ []) [] [] 0 ≡ Ok tt

pub topologies : Topologies
unfolding stored is_in join_below list_from members_from sum_below first_below every_below bit_at word_from words_of_row masks_of_row mask_for row_holds limit_check fault_check bits_in lists_agree is_word_inside good_word words_fault side_fault side_check turned first_fault sides_agree topology_fault topology_check must ◌then◌
topologies = record {
  words = refl;
  masks = refl;
  pointers = refl;
  pairs = refl;
  chain_masks = refl;
  chain_columns = refl;
  chain_starts = refl;
  accepted = refl;
  not_turned = refl;
  zero_word = refl;
  which_word = refl;
  past_the_columns = refl;
  last_column = refl;
  too_wide = refl;
  widest = refl;
}
