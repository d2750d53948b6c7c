-- The answers of the calls on topologies as the flat records that cross the C boundary, and these answers by the lists in the order of C's calls.
use Rattle.std.specs.Prelude.{Bool, true, false}
use Rattle.std.specs.Prelude.{List, ℕ, Result, Ok, Err, Option}
use Rattle.base.specs.Checks.{Check}
use Rattle.base.specs.declared.Refusal.{Refusal}
use Rattle.std.specs.Float.{binary64}
use Rattle.std.specs.Float.Ieee.{of_bits}
use Rattle.word.specs.Answers.{on}
use Rattle.word.specs.declared.Operation.{Operation}
use Rattle.side.specs.Side.{side_holds}
use Rattle.side_sets.specs.Sets.{pairwise_pairs}
use Rattle.dual_topology.specs.Check.{topology_check}
use Rattle.topology.specs.Statistics.{average_nnz_of_word, fill_ratio_of_words, bytes_per_nnz}
use Rattle.dual_topology.specs.Answers as dual
use Rattle.dual_topology.specs.declared.RowOf.{RowOf}
use Rattle.hybit_matrix.specs.declared.Answer.{Answer}
use Rattle.hybit_matrix.specs.declared.PairAnswer.{PairAnswer}
use Rattle.hybit_matrix.specs.declared.one_side.TopologyStatsAnswer.{TopologyStatsAnswer}
use Rattle.hybit_matrix.specs.declared.both_sides.DualStatsAnswer.{DualStatsAnswer}
use Rattle.hybit_matrix.specs.declared.both_sides.BuildAnswer.{BuildAnswer}
use Rattle.hybit_matrix.specs.Flat.{flat_of, flat_of_some, flat_of_selected, answer_refused, pair_answer_of, pair_answer_none, pair_answer_refused}
use Rattle.word.specs.declared.AbtmTopologyWord.{AbtmTopologyWord}
use Rattle.dual_topology.specs.declared.TopologyCounts.{TopologyCounts}
use Rattle.dual_topology.specs.declared.AbtmDualTopologyStats.{AbtmDualTopologyStats}
use Rattle.side.specs.declared.SideCounts.{SideCounts}
use Rattle.topology.specs.declared.AbtmTopologyStats.{AbtmTopologyStats}
use Rattle.base.specs.Checks.{refusal_number, refusal_expected, refusal_actual}

unfoldable pub flat_of_stated : Result AbtmTopologyStats Refusal → TopologyStatsAnswer
flat_of_stated (Ok x) =
    record { number = 0; present = true; expected = 0; actual = 0; nrows = x.nrows; ncols = x.ncols; structural_nnz = x.structural_nnz; nonempty_words = x.nonempty_words; metadata_bytes = x.metadata_bytes; average_word_nnz = average_nnz_of_word x; word_fill_ratio = fill_ratio_of_words x; metadata_bytes_per_nnz = bytes_per_nnz x }
flat_of_stated (Err r) =
    record { number = refusal_number r; present = false; expected = refusal_expected r; actual = refusal_actual r; nrows = 0; ncols = 0; structural_nnz = 0; nonempty_words = 0; metadata_bytes = 0; average_word_nnz = of_bits binary64 0; word_fill_ratio = of_bits binary64 0; metadata_bytes_per_nnz = of_bits binary64 0 }

abbrev pub flat_of_built : Result SideCounts Refusal → PairAnswer
flat_of_built = flat_of (λ x. pair_answer_of x.words x.pairs) pair_answer_refused

unfoldable pub flat_of_dual_stated : Result AbtmDualTopologyStats Refusal → DualStatsAnswer
flat_of_dual_stated (Ok x) =
    record { number = 0; present = true; expected = 0; actual = 0; nrows = x.nrows; ncols = x.ncols; structural_nnz = x.structural_nnz; row_metadata_bytes = x.row_metadata_bytes; column_metadata_bytes = x.column_metadata_bytes; total_metadata_bytes = dual.total_bytes x; metadata_bytes_per_nnz = dual.bytes_per_nnz x }
flat_of_dual_stated (Err r) =
    record { number = refusal_number r; present = false; expected = refusal_expected r; actual = refusal_actual r; nrows = 0; ncols = 0; structural_nnz = 0; row_metadata_bytes = 0; column_metadata_bytes = 0; total_metadata_bytes = 0; metadata_bytes_per_nnz = of_bits binary64 0 }

unfoldable pub flat_of_topology_built : Result TopologyCounts Refusal → BuildAnswer
flat_of_topology_built (Ok x) =
    record { number = 0; present = true; expected = 0; actual = 0; row_words = x.row_words; column_words = x.column_words; pairs = x.pairs }
flat_of_topology_built (Err r) =
    record { number = refusal_number r; present = false; expected = refusal_expected r; actual = refusal_actual r; row_words = 0; column_words = 0; pairs = 0 }

abbrev pub flat_of_column : Result (Option ℕ) Refusal → Answer
flat_of_column = flat_of flat_of_selected answer_refused

abbrev pub flat_of_word : Result (Option AbtmTopologyWord) Refusal → PairAnswer
flat_of_word = flat_of (flat_of_some (λ w. pair_answer_of w.word_index w.mask) pair_answer_none) pair_answer_refused

-- the side that the C flag names
unfoldable pub side_of_name : Bool → RowOf
side_of_name true = RowOf.Columns
side_of_name false = RowOf.Rows

-- the pairs that an operation gives of those of two sides
abbrev pub pairs_by : Operation → List ℕ → List ℕ → List ℕ → List ℕ → List ℕ → List ℕ → ℕ → ℕ → Bool
pairs_by op ptr_a words_a masks_a ptr_b words_b masks_b = pairwise_pairs (on op) (side_holds ptr_a words_a masks_a) (side_holds ptr_b words_b masks_b)

-- ---- a topology by its twelve

module _ (nrows ncols : ℕ) (row_word_ptr row_word_indices row_masks : List ℕ) (structural_nnz column_nrows column_ncols : ℕ) (column_word_ptr column_word_indices column_masks : List ℕ) (column_structural_nnz : ℕ) where
  abbrev topology : Check
  topology = topology_check nrows ncols row_word_ptr row_word_indices row_masks structural_nnz column_nrows column_ncols column_word_ptr column_word_indices column_masks column_structural_nnz

  -- counts and bytes
  abbrev pub stated : Result AbtmDualTopologyStats Refusal
  stated = dual.stats_answer topology (dual.stats_of nrows ncols row_word_ptr row_word_indices row_masks structural_nnz column_word_ptr column_word_indices column_masks)

  -- what is asked of a row: by its check, how many columns it may have, and which it has
  abbrev pub on_row : {A : Type 0} → (Check → ℕ → (ℕ → Bool) → A) → Bool → ℕ → A
  on_row asked columns number =
      let of = side_of_name columns in
      asked (dual.row_check topology number (dual.rows_of of nrows ncols)) (dual.width_of of nrows ncols) (dual.row_set of (side_holds row_word_ptr row_word_indices row_masks) number)
