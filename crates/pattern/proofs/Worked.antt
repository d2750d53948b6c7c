-- Small patterns and refusals 10, 11 and 25 by computing the definitions that the contract of `extract_local_submatrix_pattern` cites, the
-- check of the topology included. Assumes nothing.
use mathlib.Core.Path.{◌≡◌, refl}
use Rattle.std.specs.Prelude.{Result, Ok, Err}
use Rattle.base.specs.Checks.{Check}
use Rattle.base.specs.declared.Refusal.{Refusal}
use Rattle.base.specs.declared.Refusal.TheVariants.{NotSquare, ListTooShort, WrongLength}
use mathlib.Core.Bool.{Bool}
use mathlib.Core.List.{List, [], ◌∷◌}
use Prim.Native.Nat.{ℕ}
use Rattle.base.specs.Checks.{must, must_be, ◌then◌}
use Rattle.base.specs.Lists.{is_in, list_from, join_below}
use Rattle.base.specs.Sets.{first_below, every_below, sum_below, members_from}
use Rattle.word.specs.Bits.{bit_at, word_from}
use Rattle.csr32.specs.Matrix.{stored}
use Rattle.mask.specs.Mask.{in_mask, clean, shape_check, length_check}
use Rattle.side.specs.Side.{words_of_row, masks_of_row, side_masks, mask_for, row_holds, side_holds}
use Rattle.side.specs.Check.{limit_check, fault_check, bits_in, lists_agree, is_word_inside, good_word, words_fault, side_fault}
use Rattle.agreement.specs.Agreement.{turned}
use Rattle.dual_topology.specs.Check.{first_fault, sides_agree, topology_fault, topology_check}
use Rattle.pattern.specs.declared.AbtmLocalSubmatrixPatternStats.{AbtmLocalSubmatrixPatternStats}
use Rattle.pattern.specs.Pattern.{local_row, pattern_columns, pattern_ptr, pairs_inside, pattern_room, region_check, pattern_check, pattern_answer, nodes_left, ptr_left, columns_left}

-- side 3, entries (0,1), (0,0), (0,1), (1,2): three pairs
abbrev topology : Check
topology = topology_check 3 3 (0 ∷ 1 ∷ 2 ∷ 2 ∷ []) (0 ∷ 0 ∷ []) (3 ∷ 4 ∷ []) 3 3 3 (0 ∷ 1 ∷ 2 ∷ 3 ∷ []) (0 ∷ 0 ∷ 0 ∷ []) (1 ∷ 1 ∷ 2 ∷ []) 3

abbrev holds : ℕ → ℕ → Bool
holds = side_holds (0 ∷ 1 ∷ 2 ∷ 2 ∷ []) (0 ∷ 0 ∷ []) (3 ∷ 4 ∷ [])

-- 2 by 3 without a pair
abbrev flat : Check
flat = topology_check 2 3 (0 ∷ 0 ∷ 0 ∷ []) [] [] 0 3 2 (0 ∷ 0 ∷ 0 ∷ 0 ∷ []) [] [] 0

-- the lent lists, longer than needed and with other content
abbrev nodes : List ℕ
nodes = 21 ∷ 22 ∷ 23 ∷ 24 ∷ []

abbrev ptr : List ℕ
ptr = 31 ∷ 32 ∷ 33 ∷ 34 ∷ 35 ∷ []

abbrev columns : List ℕ
columns = 41 ∷ 42 ∷ 43 ∷ 44 ∷ []

-- a region of `len` nodes, with a list for the columns
abbrev check : ℕ → List ℕ → List ℕ → Check
check len region lent = pattern_check topology 3 3 len region holds nodes ptr lent

abbrev answer : ℕ → List ℕ → List ℕ → Result AbtmLocalSubmatrixPatternStats Refusal
answer len region lent = pattern_answer (check len region lent) 3 (in_mask region) holds

abbrev nodes_of : List ℕ → List ℕ
nodes_of region = nodes_left (check 3 region columns) 3 (in_mask region) nodes

abbrev ptr_of : List ℕ → List ℕ
ptr_of region = ptr_left (check 3 region columns) 3 (in_mask region) holds ptr

abbrev columns_of : List ℕ → List ℕ → List ℕ
columns_of region lent = columns_left (check 3 region lent) 3 (in_mask region) holds lent

-- members, pairs, words, candidate bits, bytes
abbrev stats : ℕ → ℕ → ℕ → ℕ → ℕ → AbtmLocalSubmatrixPatternStats
stats members pairs words bits bytes = record {
  global_nodes = 3;
  local_nodes = members;
  local_nnz = pairs;
  topology_words_visited = words;
  candidate_neighbor_bits = bits;
  kept_neighbor_bits = pairs;
  mapping_scratch_bytes = 12;
  pattern_bytes = bytes;
}

pub record Patterns : Type 0 where
  -- the repeated entry is one pair
  pub masks : side_masks 3 3 (stored (0 ∷ 3 ∷ 4 ∷ 4 ∷ []) (1 ∷ 0 ∷ 1 ∷ 2 ∷ [])) ≡ 3 ∷ 4 ∷ []
  -- nodes 1 and 2: the pair (1,2) is numbered (0,1), and past the needed part the lists are as they were
  pub part_answer : answer 3 (6 ∷ []) columns ≡ Ok (stats 2 1 1 1 24)
  pub part_nodes : nodes_of (6 ∷ []) ≡ 1 ∷ 2 ∷ 23 ∷ 24 ∷ []
  pub part_ptr : ptr_of (6 ∷ []) ≡ 0 ∷ 1 ∷ 1 ∷ 34 ∷ 35 ∷ []
  pub part_columns : columns_of (6 ∷ []) columns ≡ 1 ∷ 42 ∷ 43 ∷ 44 ∷ []
  -- nodes 0 and 1: a candidate bit is not kept
  pub front_answer : answer 3 (3 ∷ []) columns ≡ Ok (stats 2 2 2 3 28)
  pub front_columns : columns_of (3 ∷ []) columns ≡ 0 ∷ 1 ∷ 43 ∷ 44 ∷ []
  -- all three nodes: by rising column, and not in stored order
  pub all_ptr : ptr_of (7 ∷ []) ≡ 0 ∷ 2 ∷ 3 ∷ 3 ∷ 35 ∷ []
  pub all_columns : columns_of (7 ∷ []) columns ≡ 0 ∷ 1 ∷ 2 ∷ 44 ∷ []
  -- no nodes: one pointer is written
  pub none_answer : answer 3 (0 ∷ []) [] ≡ Ok (stats 0 0 0 0 4)
  pub none_nodes : nodes_of (0 ∷ []) ≡ nodes
  pub none_ptr : ptr_of (0 ∷ []) ≡ 0 ∷ 32 ∷ 33 ∷ 34 ∷ 35 ∷ []
  -- exactly enough columns, and one too few: then nothing is written
  pub enough : columns_of (7 ∷ []) (41 ∷ 42 ∷ 43 ∷ []) ≡ 0 ∷ 1 ∷ 2 ∷ []
  pub no_room : answer 3 (7 ∷ []) (41 ∷ 42 ∷ []) ≡ Err ListTooShort
  pub kept_columns : columns_of (7 ∷ []) (41 ∷ 42 ∷ []) ≡ 41 ∷ 42 ∷ []
  pub kept_nodes : nodes_left (check 3 (7 ∷ []) (41 ∷ 42 ∷ [])) 3 (in_mask (7 ∷ [])) nodes ≡ nodes
  -- other refusals
  pub not_square : pattern_check flat 2 3 4 (0 ∷ []) holds nodes ptr columns ≡ Err NotSquare
  pub mask_4 : answer 4 (7 ∷ []) [] ≡ Err (WrongLength 3 4)

pub patterns : Patterns
unfolding must must_be ◌then◌ is_in list_from join_below first_below every_below sum_below members_from bit_at word_from stored in_mask clean shape_check length_check words_of_row masks_of_row mask_for row_holds limit_check fault_check bits_in lists_agree is_word_inside good_word words_fault side_fault turned first_fault sides_agree topology_fault topology_check local_row pattern_columns pattern_ptr pairs_inside pattern_room region_check pattern_check
patterns = record {
  masks = refl;
  part_answer = refl;
  part_nodes = refl;
  part_ptr = refl;
  part_columns = refl;
  front_answer = refl;
  front_columns = refl;
  all_ptr = refl;
  all_columns = refl;
  none_answer = refl;
  none_nodes = refl;
  none_ptr = refl;
  enough = refl;
  no_room = refl;
  kept_columns = refl;
  kept_nodes = refl;
  not_square = refl;
  mask_4 = refl;
}
