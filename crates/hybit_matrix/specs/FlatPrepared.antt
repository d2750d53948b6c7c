-- The answer of prepare_region as the flat record that crosses the C boundary, and what the call answers and leaves, by the lists in the order of C's
-- call.
use Rattle.std.specs.Prelude.{true, false, Bool, List, ℕ, ◌+◌, Float, length}
use Rattle.std.specs.Prelude.{Result, Ok, Err}
use Rattle.base.specs.Checks.{Check}
use Rattle.base.specs.declared.Refusal.{Refusal}
use Rattle.csr32.specs.Matrix.{matrix_check, stored}
use Rattle.dof_layout.specs.Layout.{total_of}
use Rattle.dof_layout.specs.Answers.{square_check}
use Rattle.side.specs.Side.{flip}
use Rattle.side.specs.Built.{built_ptr, built_words, built_masks}
use Rattle.dual_topology.specs.Answers.{scratch as zeros}
use Rattle.growth.specs.Lent.{region_left, frontier_left, scratch_left}
use Rattle.graph.specs.Network.{Network}
use Rattle.cutting.specs.Cut.{network_of, region_of, lists_of}
use Rattle.prepared_field_region.specs.Prepared.{prepare_room, prepare_inputs, prepare_check, prepared_of, prepare_answer, prepared_nodes, prepared_ptr, prepared_columns, prepared_source_ptr, prepared_sources}
use Rattle.hybit_matrix.specs.declared.prepared.PreparedAnswer.{PreparedAnswer}
use Rattle.prepared_field_region.specs.declared.PreparedFieldAwareLocalRegion.{PreparedFieldAwareLocalRegion}
use Rattle.base.specs.Checks.{refusal_number, refusal_expected, refusal_actual}

unfoldable pub flat_of_prepared : Result PreparedFieldAwareLocalRegion Refusal → PreparedAnswer
flat_of_prepared (Ok x) =
    record { number = 0; present = true; expected = 0; actual = 0; row_words = x.counts.row_words; column_words = x.counts.column_words; pairs = x.counts.pairs; topology_nrows = x.topology.nrows; topology_ncols = x.topology.ncols; structural_nnz = x.topology.structural_nnz; row_metadata_bytes = x.topology.row_metadata_bytes; column_metadata_bytes = x.topology.column_metadata_bytes; hops_requested = x.growth.hops_requested; hops_completed = x.growth.hops_completed; seed_dofs = x.growth.seed_dofs; block_closed_seed_dofs = x.growth.block_closed_seed_dofs; region_dofs = x.growth.region_dofs; region_blocks = x.growth.region_blocks; frontier_dofs_visited = x.growth.frontier_dofs_visited; row_words_visited = x.growth.row_words_visited; column_words_visited = x.growth.column_words_visited; candidate_neighbor_bits = x.growth.candidate_neighbor_bits; global_nodes = x.pattern.global_nodes; local_nodes = x.pattern.local_nodes; local_nnz = x.pattern.local_nnz; topology_words_visited = x.pattern.topology_words_visited; pattern_candidate_bits = x.pattern.candidate_neighbor_bits; kept_neighbor_bits = x.pattern.kept_neighbor_bits; mapping_scratch_bytes = x.pattern.mapping_scratch_bytes; pattern_bytes = x.pattern.pattern_bytes; plan_local_nodes = x.numeric_plan.local_nodes; plan_local_nnz = x.numeric_plan.local_nnz; source_terms = x.numeric_plan.source_terms; duplicate_source_terms = x.numeric_plan.duplicate_source_terms; direct_source_map = x.numeric_plan.direct_source_map; plan_bytes = x.numeric_plan.plan_bytes }
flat_of_prepared (Err r) =
    record { number = refusal_number r; present = false; expected = refusal_expected r; actual = refusal_actual r; row_words = 0; column_words = 0; pairs = 0; topology_nrows = 0; topology_ncols = 0; structural_nnz = 0; row_metadata_bytes = 0; column_metadata_bytes = 0; hops_requested = 0; hops_completed = 0; seed_dofs = 0; block_closed_seed_dofs = 0; region_dofs = 0; region_blocks = 0; frontier_dofs_visited = 0; row_words_visited = 0; column_words_visited = 0; candidate_neighbor_bits = 0; global_nodes = 0; local_nodes = 0; local_nnz = 0; topology_words_visited = 0; pattern_candidate_bits = 0; kept_neighbor_bits = 0; mapping_scratch_bytes = 0; pattern_bytes = 0; plan_local_nodes = 0; plan_local_nnz = 0; source_terms = 0; duplicate_source_terms = 0; direct_source_map = false; plan_bytes = 0 }

-- ---- what the call answers and leaves

pub record PreparedLeft : Type 0 where
  pub answer : PreparedAnswer
  pub row_word_ptr : List ℕ
  pub row_word_indices : List ℕ
  pub row_masks : List ℕ
  pub column_word_ptr : List ℕ
  pub column_word_indices : List ℕ
  pub column_masks : List ℕ
  pub starts : List ℕ
  pub order : List ℕ
  pub region : List ℕ
  pub frontier : List ℕ
  pub scratch : List ℕ
  pub global_nodes : List ℕ
  pub local_row_ptr : List ℕ
  pub local_col_idx : List ℕ
  pub source_ptr : List ℕ
  pub source_indices : List ℕ

module _ (nrows ncols : ℕ) (row_ptr col_idx : List ℕ) (values : List Float) (entity_kinds entity_ids field_ids components offsets : List ℕ) (len : ℕ) (words : List ℕ) (hops : ℕ)
    (row_word_ptr row_word_indices row_masks column_word_ptr column_word_indices column_masks starts order region frontier scratch global_nodes local_row_ptr local_col_idx source_ptr source_indices : List ℕ) where
  abbrev prepares : Check
  prepares =
      prepare_check
      (prepare_inputs (matrix_check nrows ncols row_ptr col_idx values) (square_check entity_kinds entity_ids field_ids components offsets nrows ncols) nrows len words)
      (prepare_room nrows ncols (length col_idx) (length row_word_ptr) (length row_word_indices) (length row_masks) (length column_word_ptr) (length column_word_indices) (length column_masks) (length starts) (length order) (length region) (length frontier) (length scratch) (length global_nodes) (length local_row_ptr) (length local_col_idx) (length source_ptr) (length source_indices))

  -- the matrix's pairs, and how many entries stand for them
  abbrev pairs : ℕ → ℕ → Bool
  pairs = stored row_ptr col_idx

  abbrev entries : ℕ
  entries = length col_idx

  -- the network of the pairs under the blocks, the region that grows on it, and the entries of each pair in it
  abbrev blocks : Network
  blocks = network_of row_ptr col_idx components

  abbrev inside : ℕ → Bool
  inside = region_of row_ptr col_idx components words hops

  abbrev sums : List (List ℕ)
  sums = lists_of nrows inside row_ptr col_idx

  abbrev pub prepared_region : PreparedLeft
  prepared_region =
      record {
        answer = flat_of_prepared (prepare_answer prepares (prepared_of nrows ncols row_ptr col_idx components words hops));
        row_word_ptr = built_ptr prepares nrows ncols pairs row_word_ptr;
        row_word_indices = built_words prepares nrows ncols pairs entries row_word_indices;
        row_masks = built_masks prepares nrows ncols pairs entries row_masks;
        column_word_ptr = built_ptr prepares ncols nrows (flip pairs) column_word_ptr;
        column_word_indices = built_words prepares ncols nrows (flip pairs) entries column_word_indices;
        column_masks = built_masks prepares ncols nrows (flip pairs) entries column_masks;
        starts = zeros prepares (ncols + 1) starts;
        order = zeros prepares entries order;
        region = region_left prepares blocks words hops region;
        frontier = frontier_left prepares blocks words hops frontier;
        scratch = scratch_left prepares (total_of components) scratch;
        global_nodes = prepared_nodes prepares nrows inside global_nodes;
        local_row_ptr = prepared_ptr prepares nrows inside pairs local_row_ptr;
        local_col_idx = prepared_columns prepares nrows inside pairs entries local_col_idx;
        source_ptr = prepared_source_ptr prepares sums entries source_ptr;
        source_indices = prepared_sources prepares sums entries source_indices;
      }
