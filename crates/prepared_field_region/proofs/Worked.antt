-- Document 01's job, the entries (0,1), (1,2) of side 3 in blocks of one node, prepared from seed 0 by one hop, and one small case of each refusal,
-- by computing the definitions that the contracts cite. Assumes nothing.
use mathlib.Core.Path.{◌≡◌, refl}
use Rattle.std.specs.Prelude.{Result, Ok, Err}
use Rattle.base.specs.Checks.{Check}
use Rattle.base.specs.declared.Refusal.{Refusal}
use Rattle.base.specs.declared.Refusal.TheVariants.{NotFinite, BitPastLength, TotalNotSides, NoRanks, OwnerOutOfRange, ListTooShort, BadPointers, WrongLength}
use mathlib.Core.Bool.{Bool, true, false}
use mathlib.Core.List.{List, [], ◌∷◌}
use Prim.Native.Nat.{ℕ}
use lib.Ieee.{Float, inf, fin}
use lib.IntN.{pos}
use Rattle.base.specs.Checks.{must, must_be, ◌then◌, checks_below}
use Rattle.base.specs.Lists.{is_in, same_list, list_from, join_below}
use Rattle.base.specs.Sets.{any_below, first_below, every_below, sum_below, members_from}
use Rattle.word.specs.Bits.{bit_at, word_from}
use Rattle.csr32.specs.Matrix.{matrix_check, stored}
use Rattle.mask.specs.Mask.{in_mask, mask_words, clean, shape_check, length_check}
use Rattle.twins.specs.Keys.{same_key}
use Rattle.dof_layout.specs.Layout.{start_of, offsets_of, block_of, is_kind_code, block_check, blocks_check, layout_check}
use Rattle.dof_layout.specs.Answers.{square_check}
use Rattle.side.specs.Side.{flip, words_of_row, masks_of_row}
use Rattle.side.specs.Check.{side_room}
use Rattle.side.specs.Built.{built_ptr, built_words, built_masks}
use Rattle.graph.specs.Distance.{within, exactly, any_at, farthest_to, completed}
use Rattle.graph.specs.Network.{holding, linked, region_words, frontier_words}
use Rattle.growth.specs.Lent.{masks_room, region_left, frontier_left, scratch_left}
use Rattle.field_region.specs.Owners.{same_owner, owner_check, owned_check, owners_check, owners_answer, owners_list}
use Rattle.pattern.specs.Pattern.{local_row, pattern_columns, pattern_ptr, pairs_inside}
use Rattle.sources.specs.Sources.{entries_in}
use Rattle.gather.specs.Plan.{plan_sources, plan_ptr}
use Rattle.numeric_plan.specs.Plan.{pair_entries}
use Rattle.cutting.specs.Cut.{network_of, region_of, lists_of}
use Rattle.prepared_field_region.specs.Prepared.{local_room, prepare_room, prepare_inputs, prepare_check, block_owners_check, prepared_of, prepare_answer, prepared_nodes, prepared_ptr, prepared_columns, prepared_source_ptr, prepared_sources}
use Rattle.prepared_field_region.specs.declared.PreparedFieldAwareLocalRegion.{PreparedFieldAwareLocalRegion}

abbrev one : Float
one = fin false 1 (pos 0)

abbrev row_ptr : List ℕ
row_ptr = 0 ∷ 1 ∷ 2 ∷ 2 ∷ []

abbrev col_idx : List ℕ
col_idx = 1 ∷ 2 ∷ []

abbrev blocks : List ℕ
blocks = 1 ∷ 1 ∷ 1 ∷ []

abbrev square : Check
square = square_check (1 ∷ 1 ∷ 1 ∷ []) (0 ∷ 1 ∷ 2 ∷ []) (0 ∷ 0 ∷ 0 ∷ []) blocks (0 ∷ 1 ∷ 2 ∷ 3 ∷ []) 3 3

-- the call with these values, this mask of `len` nodes, and a list of `sources` numbers for the sources; the other lists are one longer than needed
abbrev call : List Float → ℕ → List ℕ → ℕ → Check
call values len seeds sources = prepare_check (prepare_inputs (matrix_check 3 3 row_ptr col_idx values) square 3 len seeds) (prepare_room 3 3 2 5 3 3 5 3 3 5 3 2 2 2 4 5 3 4 sources)

abbrev check : Check
check = call (one ∷ one ∷ []) 3 (1 ∷ []) 3

abbrev prepared : PreparedFieldAwareLocalRegion
prepared = prepared_of 3 3 row_ptr col_idx blocks (1 ∷ []) 1

abbrev region : ℕ → Bool
region = region_of row_ptr col_idx blocks (1 ∷ []) 1

abbrev answer : List Float → ℕ → List ℕ → ℕ → Result PreparedFieldAwareLocalRegion Refusal
answer values len seeds sources = prepare_answer (call values len seeds sources) prepared

-- owners for two ranks, and a list for three blocks or one shorter
abbrev owned : List ℕ → ℕ → List ℕ → Check
owned owners ranks out =
    block_owners_check (matrix_check 3 3 row_ptr col_idx (one ∷ one ∷ [])) square (owners_check (1 ∷ 1 ∷ 1 ∷ []) (0 ∷ 1 ∷ 2 ∷ []) (0 ∷ 0 ∷ 0 ∷ []) blocks (0 ∷ 1 ∷ 2 ∷ 3 ∷ []) owners ranks out)

pub record Job : Type 0 where
  pub accepted : check ≡ Ok tt
  -- the topology of the two pairs: zero past its own words, and past the needed part as it was
  pub row_pointers : built_ptr check 3 3 (stored row_ptr col_idx) (11 ∷ 12 ∷ 13 ∷ 14 ∷ 15 ∷ []) ≡ 0 ∷ 1 ∷ 2 ∷ 2 ∷ 15 ∷ []
  pub row_words : built_words check 3 3 (stored row_ptr col_idx) 2 (11 ∷ 12 ∷ 13 ∷ []) ≡ 0 ∷ 0 ∷ 13 ∷ []
  pub row_masks : built_masks check 3 3 (stored row_ptr col_idx) 2 (11 ∷ 12 ∷ 13 ∷ []) ≡ 2 ∷ 4 ∷ 13 ∷ []
  pub column_masks : built_masks check 3 3 (flip (stored row_ptr col_idx)) 2 (11 ∷ 12 ∷ 13 ∷ []) ≡ 1 ∷ 2 ∷ 13 ∷ []
  pub topology_nnz : prepared.topology.structural_nnz ≡ 2
  -- region 0 and 1, frontier 1
  pub inside : region_left check (network_of row_ptr col_idx blocks) (1 ∷ []) 1 (21 ∷ 22 ∷ []) ≡ 3 ∷ 22 ∷ []
  pub edge : frontier_left check (network_of row_ptr col_idx blocks) (1 ∷ []) 1 (21 ∷ 22 ∷ []) ≡ 2 ∷ 22 ∷ []
  pub spent : scratch_left check 3 (21 ∷ 22 ∷ []) ≡ 0 ∷ 22 ∷ []
  pub hops : prepared.growth.hops_completed ≡ 1
  -- one pair inside, zero past the answer up to the needed length
  pub members : prepared_nodes check 3 region (31 ∷ 32 ∷ 33 ∷ 34 ∷ []) ≡ 0 ∷ 1 ∷ 0 ∷ 34 ∷ []
  pub pointers : prepared_ptr check 3 region (stored row_ptr col_idx) (31 ∷ 32 ∷ 33 ∷ 34 ∷ 35 ∷ []) ≡ 0 ∷ 1 ∷ 1 ∷ 0 ∷ 35 ∷ []
  pub columns : prepared_columns check 3 region (stored row_ptr col_idx) 2 (31 ∷ 32 ∷ 33 ∷ []) ≡ 1 ∷ 0 ∷ 33 ∷ []
  pub source_pointers : prepared_source_ptr check (lists_of 3 region row_ptr col_idx) 2 (31 ∷ 32 ∷ 33 ∷ 34 ∷ []) ≡ 0 ∷ 1 ∷ 0 ∷ 34 ∷ []
  pub sources : prepared_sources check (lists_of 3 region row_ptr col_idx) 2 (31 ∷ 32 ∷ 33 ∷ []) ≡ 0 ∷ 0 ∷ 33 ∷ []
  pub local_nodes : prepared.pattern.local_nodes ≡ 2
  pub local_nnz : prepared.numeric_plan.local_nnz ≡ 1
  pub direct : prepared.numeric_plan.direct_source_map ≡ true
  -- the order: the matrix, the layout, 18, the mask, 25
  pub infinite : answer (one ∷ inf false ∷ []) 4 (1 ∷ []) 0 ≡ Err NotFinite
  pub offsets : prepare_inputs (matrix_check 3 3 row_ptr col_idx (one ∷ one ∷ [])) (square_check (1 ∷ 1 ∷ []) (0 ∷ 1 ∷ []) (0 ∷ 0 ∷ []) (1 ∷ 1 ∷ []) (0 ∷ 1 ∷ 3 ∷ []) 3 3) 3 4 (1 ∷ []) ≡ Err BadPointers
  pub total_2 : prepare_inputs (matrix_check 3 3 row_ptr col_idx (one ∷ one ∷ [])) (square_check (1 ∷ 1 ∷ []) (0 ∷ 1 ∷ []) (0 ∷ 0 ∷ []) (1 ∷ 1 ∷ []) (0 ∷ 1 ∷ 2 ∷ []) 3 3) 3 4 (1 ∷ []) ≡ Err TotalNotSides
  pub mask_4 : answer (one ∷ one ∷ []) 4 (1 ∷ []) 0 ≡ Err (WrongLength 3 4)
  pub stray : answer (one ∷ one ∷ []) 3 (8 ∷ []) 0 ≡ Err BitPastLength
  pub short : answer (one ∷ one ∷ []) 3 (1 ∷ []) 1 ≡ Err ListTooShort
  pub kept_nodes : prepared_nodes (call (one ∷ one ∷ []) 3 (1 ∷ []) 1) 3 region (31 ∷ 32 ∷ 33 ∷ []) ≡ 31 ∷ 32 ∷ 33 ∷ []
  -- owners
  pub owners : owners_list (owned (0 ∷ 1 ∷ 1 ∷ []) 2 (9 ∷ 9 ∷ 9 ∷ [])) blocks (0 ∷ 1 ∷ 1 ∷ []) (9 ∷ 9 ∷ 9 ∷ []) ≡ 0 ∷ 1 ∷ 1 ∷ []
  pub no_ranks : owners_answer (owned (0 ∷ 1 ∷ 1 ∷ []) 0 []) blocks ≡ Err NoRanks
  pub rank_past : owners_answer (owned (0 ∷ 2 ∷ 1 ∷ []) 2 []) blocks ≡ Err OwnerOutOfRange
  pub no_list : owners_answer (owned (0 ∷ 1 ∷ 1 ∷ []) 2 (9 ∷ 9 ∷ [])) blocks ≡ Err ListTooShort

pub job : Job
unfolding must must_be ◌then◌ checks_below is_in same_list list_from join_below any_below first_below every_below sum_below members_from bit_at word_from in_mask mask_words clean shape_check length_check matrix_check stored start_of offsets_of block_of is_kind_code same_key block_check blocks_check layout_check square_check words_of_row masks_of_row side_room within exactly any_at farthest_to completed holding linked region_words frontier_words masks_room same_owner owner_check owned_check owners_check local_row pattern_columns pattern_ptr pairs_inside entries_in plan_sources plan_ptr pair_entries local_room prepare_room prepare_inputs prepare_check block_owners_check
job = record {
  accepted = refl;
  row_pointers = refl;
  row_words = refl;
  row_masks = refl;
  column_masks = refl;
  topology_nnz = refl;
  inside = refl;
  edge = refl;
  spent = refl;
  hops = refl;
  members = refl;
  pointers = refl;
  columns = refl;
  source_pointers = refl;
  sources = refl;
  local_nodes = refl;
  local_nnz = refl;
  direct = refl;
  infinite = refl;
  offsets = refl;
  total_2 = refl;
  mask_4 = refl;
  stray = refl;
  short = refl;
  kept_nodes = refl;
  owners = refl;
  no_ranks = refl;
  rank_past = refl;
  no_list = refl;
}
