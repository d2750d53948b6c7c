-- The answers of the calls on the local system of a region as the flat records that cross the C boundary, and what the calls answer and leave, by the
-- lists in the order of C's calls.
use Rattle.std.specs.Prelude.{true, false, Bool, List, ℕ, Float}
use Rattle.std.specs.Prelude.{Result, Ok, Err}
use Rattle.base.specs.Checks.{Check}
use Rattle.base.specs.declared.Refusal.{Refusal}
use Rattle.std.specs.Float.{binary64}
use Rattle.std.specs.Float.Ieee.{of_bits}
use Rattle.csr32.specs.Matrix.{matrix_check, stored}
use Rattle.mask.specs.Mask.{in_mask}
use Rattle.side.specs.Side.{side_holds}
use Rattle.dual_topology.specs.Check.{topology_check}
use Rattle.pattern.specs.Pattern.{pruning_ratio, average_row_nnz, pattern_check, pattern_answer, nodes_left, ptr_left, columns_left}
use Rattle.numeric_plan.specs.Plan.{pair_entries, plan_inputs, plan_check, plan_answer, source_ptr_left, sources_left}
use Rattle.hybit_matrix.specs.declared.local.PatternAnswer.{PatternAnswer}
use Rattle.hybit_matrix.specs.declared.local.PlanAnswer.{PlanAnswer}
use Rattle.numeric_plan.specs.declared.AbtmLocalNumericPlanStats.{AbtmLocalNumericPlanStats}
use Rattle.pattern.specs.declared.AbtmLocalSubmatrixPatternStats.{AbtmLocalSubmatrixPatternStats}
use Rattle.base.specs.Checks.{refusal_number, refusal_expected, refusal_actual}

unfoldable pub flat_of_pattern : Result AbtmLocalSubmatrixPatternStats Refusal → PatternAnswer
flat_of_pattern (Ok x) =
    record { number = 0; present = true; expected = 0; actual = 0; global_nodes = x.global_nodes; local_nodes = x.local_nodes; local_nnz = x.local_nnz; topology_words_visited = x.topology_words_visited; candidate_neighbor_bits = x.candidate_neighbor_bits; kept_neighbor_bits = x.kept_neighbor_bits; mapping_scratch_bytes = x.mapping_scratch_bytes; pattern_bytes = x.pattern_bytes; structural_pruning_ratio = pruning_ratio x; average_local_row_nnz = average_row_nnz x }
flat_of_pattern (Err r) =
    record { number = refusal_number r; present = false; expected = refusal_expected r; actual = refusal_actual r; global_nodes = 0; local_nodes = 0; local_nnz = 0; topology_words_visited = 0; candidate_neighbor_bits = 0; kept_neighbor_bits = 0; mapping_scratch_bytes = 0; pattern_bytes = 0; structural_pruning_ratio = of_bits binary64 0; average_local_row_nnz = of_bits binary64 0 }

unfoldable pub flat_of_plan : Result AbtmLocalNumericPlanStats Refusal → PlanAnswer
flat_of_plan (Ok x) =
    record { number = 0; present = true; expected = 0; actual = 0; local_nodes = x.local_nodes; local_nnz = x.local_nnz; source_terms = x.source_terms; duplicate_source_terms = x.duplicate_source_terms; direct_source_map = x.direct_source_map; plan_bytes = x.plan_bytes }
flat_of_plan (Err r) =
    record { number = refusal_number r; present = false; expected = refusal_expected r; actual = refusal_actual r; local_nodes = 0; local_nnz = 0; source_terms = 0; duplicate_source_terms = 0; direct_source_map = false; plan_bytes = 0 }

-- ---- what the calls answer and leave

pub record PatternLeft : Type 0 where
  pub answer : PatternAnswer
  pub nodes : List ℕ
  pub ptr : List ℕ
  pub columns : List ℕ

pub record PlanLeft : Type 0 where
  pub answer : PlanAnswer
  pub nodes : List ℕ
  pub ptr : List ℕ
  pub columns : List ℕ
  pub source_ptr : List ℕ
  pub sources : List ℕ

module _ (nrows ncols : ℕ) (row_word_ptr row_word_indices row_masks : List ℕ) (structural_nnz column_nrows column_ncols : ℕ) (column_word_ptr column_word_indices column_masks : List ℕ) (column_structural_nnz : ℕ) where
  abbrev topology : Check
  topology = topology_check nrows ncols row_word_ptr row_word_indices row_masks structural_nnz column_nrows column_ncols column_word_ptr column_word_indices column_masks column_structural_nnz

  abbrev pairs : ℕ → ℕ → Bool
  pairs = side_holds row_word_ptr row_word_indices row_masks

  module _ (len : ℕ) (words nodes ptr cols : List ℕ) where
    abbrev pattern_fits : Check
    pattern_fits = pattern_check topology nrows ncols len words pairs nodes ptr cols

    abbrev pub pattern_of : PatternLeft
    pattern_of =
        record {
          answer = flat_of_pattern (pattern_answer pattern_fits nrows (in_mask words) pairs);
          nodes = nodes_left pattern_fits nrows (in_mask words) nodes;
          ptr = ptr_left pattern_fits nrows (in_mask words) pairs ptr;
          columns = columns_left pattern_fits nrows (in_mask words) pairs cols;
        }

  module _ (matrix_nrows matrix_ncols : ℕ) (row_ptr col_idx : List ℕ) (values : List Float) (len : ℕ) (words nodes ptr cols source_ptr sources : List ℕ) where
    -- the entries of each pair of the pattern
    abbrev entries : List (List ℕ)
    entries = pair_entries nrows (in_mask words) pairs row_ptr col_idx

    abbrev inputs : Check
    inputs = plan_inputs (matrix_check matrix_nrows matrix_ncols row_ptr col_idx values) topology matrix_nrows matrix_ncols nrows ncols len words pairs (stored row_ptr col_idx)

    abbrev plan_fits : Check
    plan_fits = plan_check inputs nrows (in_mask words) pairs entries nodes ptr cols source_ptr sources

    abbrev pub plan_of : PlanLeft
    plan_of =
        record {
          answer = flat_of_plan (plan_answer plan_fits nrows (in_mask words) entries);
          nodes = nodes_left plan_fits nrows (in_mask words) nodes;
          ptr = ptr_left plan_fits nrows (in_mask words) pairs ptr;
          columns = columns_left plan_fits nrows (in_mask words) pairs cols;
          source_ptr = source_ptr_left plan_fits entries source_ptr;
          sources = sources_left plan_fits entries sources;
        }
