-- Small plans and refusals 22, 10, 23, 24 and 25 by computing the definitions that the contract of `prepare_local_numeric_plan` cites, the checks
-- of the matrix and of the topology included. Assumes nothing.
use mathlib.Core.Path.{◌≡◌, refl}
use Rattle.std.specs.Prelude.{Result, Ok, Err}
use Rattle.base.specs.Checks.{Check}
use Rattle.base.specs.declared.Refusal.{Refusal}
use Rattle.base.specs.declared.Refusal.TheVariants.{NotSquare, SidesDiffer, PairWithoutEntry, EntryWithoutPair, ListTooShort}
use mathlib.Core.Bool.{Bool, true, false}
use mathlib.Core.List.{List, [], ◌∷◌}
use Prim.Native.Nat.{ℕ}
use lib.Ieee.{Float, binary64, of_bits}
use lib.ListN.{length, replicate}
use Rattle.base.specs.Checks.{must, must_be, ◌then◌, checks_below}
use Rattle.base.specs.Lists.{is_in, list_from, join_below}
use Rattle.base.specs.Sets.{any_below, first_below, every_below, sum_below, members_from}
use Rattle.word.specs.Bits.{bit_at, word_from}
use Rattle.csr32.specs.Matrix.{matrix_check, stored}
use Rattle.mask.specs.Mask.{in_mask, clean, shape_check, length_check}
use Rattle.side.specs.Side.{words_of_row, masks_of_row, mask_for, row_holds, side_holds}
use Rattle.side.specs.Check.{limit_check, fault_check, bits_in, lists_agree, is_word_inside, good_word, words_fault, side_fault}
use Rattle.agreement.specs.Agreement.{turned}
use Rattle.dual_topology.specs.Check.{first_fault, sides_agree, topology_fault, topology_check}
use Rattle.pattern.specs.Pattern.{local_row, pattern_columns, pattern_ptr, pairs_inside, pattern_room, region_check, nodes_left, ptr_left, columns_left}
use Rattle.binding.specs.Binding.{row_faults, binding_check}
use Rattle.sources.specs.Sources.{entries_in}
use Rattle.gather.specs.Plan.{plan_sources, plan_ptr}
use Rattle.numeric_plan.specs.Plan.{pair_entries, plan_room, sides_check, plan_inputs, plan_check, plan_answer, source_ptr_left, sources_left}
use Rattle.numeric_plan.specs.declared.AbtmLocalNumericPlanStats.{AbtmLocalNumericPlanStats}

-- side 3, the pairs (0,0), (0,1), (1,1), (1,2), (2,0)
abbrev topology : Check
topology =
    topology_check 3 3 (0 ∷ 1 ∷ 2 ∷ 3 ∷ []) (0 ∷ 0 ∷ 0 ∷ []) (3 ∷ 6 ∷ 1 ∷ []) 5 3 3 (0 ∷ 1 ∷ 2 ∷ 3 ∷ []) (0 ∷ 0 ∷ 0 ∷ []) (5 ∷ 3 ∷ 2 ∷ []) 5

abbrev holds : ℕ → ℕ → Bool
holds = side_holds (0 ∷ 1 ∷ 2 ∷ 3 ∷ []) (0 ∷ 0 ∷ 0 ∷ []) (3 ∷ 6 ∷ 1 ∷ [])

-- 2 by 3 without a pair
abbrev flat : Check
flat = topology_check 2 3 (0 ∷ 0 ∷ 0 ∷ []) [] [] 0 3 2 (0 ∷ 0 ∷ 0 ∷ 0 ∷ []) [] [] 0

-- 1.0, the value of every entry
abbrev unit : Float
unit = of_bits binary64 0x3ff0_0000_0000_0000

-- the lent lists of the pattern, longer than needed and with other content
abbrev nodes : List ℕ
nodes = 21 ∷ 22 ∷ 23 ∷ 24 ∷ []

abbrev local_ptr : List ℕ
local_ptr = 31 ∷ 32 ∷ 33 ∷ 34 ∷ 35 ∷ []

abbrev columns : List ℕ
columns = 41 ∷ 42 ∷ 43 ∷ 44 ∷ 45 ∷ 46 ∷ []

-- those of the sources
abbrev starts : List ℕ
starts = 51 ∷ 52 ∷ 53 ∷ 54 ∷ 55 ∷ 56 ∷ 57 ∷ []

abbrev entries : List ℕ
entries = 61 ∷ 62 ∷ 63 ∷ 64 ∷ 65 ∷ 66 ∷ 67 ∷ []

-- a matrix as row_ptr and col_idx, a region, and the lists of the sources
module _ (ptr cols region source_ptr sources : List ℕ) where
  abbrev lists : List (List ℕ)
  lists = pair_entries 3 (in_mask region) holds ptr cols

  abbrev check : Check
  check =
      plan_check (plan_inputs (matrix_check 3 3 ptr cols (replicate (length cols) unit)) topology 3 3 3 3 3 region holds (stored ptr cols)) 3 (in_mask region) holds lists nodes local_ptr columns source_ptr sources

  abbrev answer : Result AbtmLocalNumericPlanStats Refusal
  answer = plan_answer check 3 (in_mask region) lists

  abbrev nodes_of : List ℕ
  nodes_of = nodes_left check 3 (in_mask region) nodes

  abbrev ptr_of : List ℕ
  ptr_of = ptr_left check 3 (in_mask region) holds local_ptr

  abbrev columns_of : List ℕ
  columns_of = columns_left check 3 (in_mask region) holds columns

  abbrev starts_of : List ℕ
  starts_of = source_ptr_left check lists source_ptr

  abbrev sources_of : List ℕ
  sources_of = sources_left check lists sources

-- the entries (0,1), (0,0), (0,1), (1,2), (1,1), (2,0): one repeated, two rows unsorted
abbrev row_ptr : List ℕ
row_ptr = 0 ∷ 3 ∷ 5 ∷ 6 ∷ []

abbrev col_idx : List ℕ
col_idx = 1 ∷ 0 ∷ 1 ∷ 2 ∷ 1 ∷ 0 ∷ []

-- the answer to another matrix, by region
abbrev bound : List ℕ → List ℕ → List ℕ → Result AbtmLocalNumericPlanStats Refusal
bound ptr cols region = answer ptr cols region starts entries

-- members, pairs, sources, duplicates, whether it is direct, bytes
abbrev stats : ℕ → ℕ → ℕ → ℕ → Bool → ℕ → AbtmLocalNumericPlanStats
stats members pairs terms duplicates direct bytes = record {
  local_nodes = members;
  local_nnz = pairs;
  source_terms = terms;
  duplicate_source_terms = duplicates;
  direct_source_map = direct;
  plan_bytes = bytes;
}

pub record Plans : Type 0 where
  -- nodes 0 and 1: the repeated entry gives the pair (0,1) two sources, in stored order; past the needed part the lists are as they were
  pub front_answer : answer row_ptr col_idx (3 ∷ []) starts entries ≡ Ok (stats 2 3 4 1 false 64)
  pub front_nodes : nodes_of row_ptr col_idx (3 ∷ []) starts entries ≡ 0 ∷ 1 ∷ 23 ∷ 24 ∷ []
  pub front_ptr : ptr_of row_ptr col_idx (3 ∷ []) starts entries ≡ 0 ∷ 2 ∷ 3 ∷ 34 ∷ 35 ∷ []
  pub front_columns : columns_of row_ptr col_idx (3 ∷ []) starts entries ≡ 0 ∷ 1 ∷ 1 ∷ 44 ∷ 45 ∷ 46 ∷ []
  pub front_starts : starts_of row_ptr col_idx (3 ∷ []) starts entries ≡ 0 ∷ 1 ∷ 3 ∷ 4 ∷ 55 ∷ 56 ∷ 57 ∷ []
  pub front_sources : sources_of row_ptr col_idx (3 ∷ []) starts entries ≡ 1 ∷ 0 ∷ 2 ∷ 4 ∷ 65 ∷ 66 ∷ 67 ∷ []
  -- nodes 1 and 2: one source for each pair, by rising column and not as the row stands
  pub part_answer : answer row_ptr col_idx (6 ∷ []) starts entries ≡ Ok (stats 2 2 2 0 true 48)
  pub part_starts : starts_of row_ptr col_idx (6 ∷ []) starts entries ≡ 0 ∷ 1 ∷ 2 ∷ 54 ∷ 55 ∷ 56 ∷ 57 ∷ []
  pub part_sources : sources_of row_ptr col_idx (6 ∷ []) starts entries ≡ 4 ∷ 3 ∷ 63 ∷ 64 ∷ 65 ∷ 66 ∷ 67 ∷ []
  -- no nodes: direct, and one pointer is written
  pub none_answer : answer row_ptr col_idx (0 ∷ []) (51 ∷ []) [] ≡ Ok (stats 0 0 0 0 true 8)
  pub none_starts : starts_of row_ptr col_idx (0 ∷ []) (51 ∷ []) [] ≡ 0 ∷ []
  -- exact lists
  pub exact_starts : starts_of row_ptr col_idx (3 ∷ []) (51 ∷ 52 ∷ 53 ∷ 54 ∷ []) (61 ∷ 62 ∷ 63 ∷ 64 ∷ []) ≡ 0 ∷ 1 ∷ 3 ∷ 4 ∷ []
  pub exact_sources : sources_of row_ptr col_idx (3 ∷ []) (51 ∷ 52 ∷ 53 ∷ 54 ∷ []) (61 ∷ 62 ∷ 63 ∷ 64 ∷ []) ≡ 1 ∷ 0 ∷ 2 ∷ 4 ∷ []
  -- each one too short: 25, and nothing is written
  pub short_starts : answer row_ptr col_idx (3 ∷ []) (51 ∷ 52 ∷ 53 ∷ []) entries ≡ Err ListTooShort
  pub short_sources : answer row_ptr col_idx (3 ∷ []) starts (61 ∷ 62 ∷ 63 ∷ []) ≡ Err ListTooShort
  pub kept_nodes : nodes_of row_ptr col_idx (3 ∷ []) starts (61 ∷ 62 ∷ 63 ∷ []) ≡ nodes
  pub kept_starts : starts_of row_ptr col_idx (3 ∷ []) starts (61 ∷ 62 ∷ 63 ∷ []) ≡ starts
  pub kept_sources : sources_of row_ptr col_idx (3 ∷ []) starts (61 ∷ 62 ∷ 63 ∷ []) ≡ 61 ∷ 62 ∷ 63 ∷ []
  -- 22: a matrix of side 2; 10: both 2 by 3
  pub other_sides : plan_inputs (matrix_check 2 2 (0 ∷ 0 ∷ 0 ∷ []) [] []) topology 2 2 3 3 3 (7 ∷ []) holds (stored (0 ∷ 0 ∷ 0 ∷ []) []) ≡ Err SidesDiffer
  pub not_square : plan_inputs (matrix_check 2 3 (0 ∷ 0 ∷ 0 ∷ []) [] []) flat 2 3 2 3 2 (0 ∷ []) (side_holds (0 ∷ 0 ∷ 0 ∷ []) [] []) (stored (0 ∷ 0 ∷ 0 ∷ []) []) ≡ Err NotSquare
  -- 23: no entry (0,1); 24: an entry (1,0)
  pub no_entry : bound (0 ∷ 1 ∷ 3 ∷ 4 ∷ []) (0 ∷ 2 ∷ 1 ∷ 0 ∷ []) (3 ∷ []) ≡ Err PairWithoutEntry
  pub no_pair : bound (0 ∷ 3 ∷ 6 ∷ 7 ∷ []) (1 ∷ 0 ∷ 1 ∷ 2 ∷ 1 ∷ 0 ∷ 0 ∷ []) (3 ∷ []) ≡ Err EntryWithoutPair
  -- outside the region neither is asked for
  pub entry_outside : bound (0 ∷ 1 ∷ 3 ∷ 4 ∷ []) (0 ∷ 2 ∷ 1 ∷ 0 ∷ []) (6 ∷ []) ≡ Ok (stats 2 2 2 0 true 48)
  pub pair_outside : bound (0 ∷ 3 ∷ 6 ∷ 7 ∷ []) (1 ∷ 0 ∷ 1 ∷ 2 ∷ 1 ∷ 0 ∷ 0 ∷ []) (6 ∷ []) ≡ Ok (stats 2 2 2 0 true 48)
  -- an entry (0,2) and no entry (1,1): the earlier row decides; so too with no entry (0,1) and an entry (1,0)
  pub pair_first : bound (0 ∷ 4 ∷ 5 ∷ 6 ∷ []) (1 ∷ 0 ∷ 1 ∷ 2 ∷ 2 ∷ 0 ∷ []) (7 ∷ []) ≡ Err EntryWithoutPair
  pub entry_first : bound (0 ∷ 1 ∷ 4 ∷ 5 ∷ []) (0 ∷ 2 ∷ 1 ∷ 0 ∷ 0 ∷ []) (7 ∷ []) ≡ Err PairWithoutEntry
  -- an entry (1,0) and no entry (1,1): in one row 23 comes first
  pub one_row : bound (0 ∷ 3 ∷ 5 ∷ 6 ∷ []) (1 ∷ 0 ∷ 1 ∷ 0 ∷ 2 ∷ 0 ∷ []) (7 ∷ []) ≡ Err PairWithoutEntry
  -- and both come before 25
  pub before_room : answer (0 ∷ 1 ∷ 3 ∷ 4 ∷ []) (0 ∷ 2 ∷ 1 ∷ 0 ∷ []) (3 ∷ []) [] [] ≡ Err PairWithoutEntry

pub plans : Plans
unfolding must must_be ◌then◌ checks_below is_in list_from join_below any_below every_below first_below sum_below members_from bit_at word_from in_mask clean shape_check length_check matrix_check stored words_of_row masks_of_row mask_for row_holds limit_check fault_check bits_in lists_agree is_word_inside good_word words_fault side_fault turned first_fault sides_agree topology_fault topology_check local_row pattern_columns pattern_ptr pairs_inside pattern_room region_check row_faults binding_check entries_in plan_sources plan_ptr pair_entries plan_room sides_check plan_inputs plan_check of_bits
plans = record {
  front_answer = refl;
  front_nodes = refl;
  front_ptr = refl;
  front_columns = refl;
  front_starts = refl;
  front_sources = refl;
  part_answer = refl;
  part_starts = refl;
  part_sources = refl;
  none_answer = refl;
  none_starts = refl;
  exact_starts = refl;
  exact_sources = refl;
  short_starts = refl;
  short_sources = refl;
  kept_nodes = refl;
  kept_starts = refl;
  kept_sources = refl;
  other_sides = refl;
  not_square = refl;
  no_entry = refl;
  no_pair = refl;
  entry_outside = refl;
  pair_outside = refl;
  pair_first = refl;
  entry_first = refl;
  one_row = refl;
  before_room = refl;
}
