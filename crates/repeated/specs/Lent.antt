-- What the repeated calls answer and leave, by the lists in the order of C's calls: what one call leaves, and a count of it. hybit_matrix has
-- definitions like these, with records of its own as answers, and is not below this crate.
use Rattle.std.specs.Prelude.{Bool, List, ℕ, Float}
use Rattle.base.specs.Checks.{Check}
use Rattle.csr32.specs.Matrix.{matrix_check, stored}
use Rattle.mask.specs.Mask.{in_mask}
use Rattle.dof_layout.specs.Layout.{total_of}
use Rattle.dof_layout.specs.Answers.{square_check}
use Rattle.side.specs.Side.{side_holds}
use Rattle.dual_topology.specs.Check.{topology_check}
use Rattle.graph.specs.Network.{Network, plain_network, field_network}
use Rattle.growth.specs.Lent.{region_left, frontier_left, scratch_left}
use Rattle.region.specs.Growth.{grow_check, grow_answer}
use Rattle.field_region.specs.Growth.{field_grow_check, field_grow_answer}
use Rattle.pattern.specs.Pattern.{pattern_check, pattern_answer, nodes_left, ptr_left, columns_left}
use Rattle.numeric_plan.specs.Plan.{pair_entries, plan_inputs, plan_check, plan_answer, source_ptr_left, sources_left}
use Rattle.repeated.specs.Repeated.{hops_answer, field_hops_answer, pairs_answer, sources_answer}
use Rattle.repeated.specs.declared.Answer.{Answer}

pub record GrowthLeft : Type 0 where
  pub answer : Answer
  pub region : List ℕ
  pub frontier : List ℕ
  pub scratch : List ℕ

pub record PatternLeft : Type 0 where
  pub answer : Answer
  pub nodes : List ℕ
  pub ptr : List ℕ
  pub columns : List ℕ

pub record PlanLeft : Type 0 where
  pub answer : Answer
  pub nodes : List ℕ
  pub ptr : List ℕ
  pub columns : List ℕ
  pub source_ptr : List ℕ
  pub sources : List ℕ

module _ (nrows ncols : ℕ) (row_word_ptr row_word_indices row_masks : List ℕ) (structural_nnz column_nrows column_ncols : ℕ) (column_word_ptr column_word_indices column_masks : List ℕ) (column_structural_nnz : ℕ) where
  abbrev topology : Check
  topology = topology_check nrows ncols row_word_ptr row_word_indices row_masks structural_nnz column_nrows column_ncols column_word_ptr column_word_indices column_masks column_structural_nnz

  abbrev pairs : ℕ → ℕ → Bool
  pairs = side_holds row_word_ptr row_word_indices row_masks

  module _ (len : ℕ) (words : List ℕ) (hops : ℕ) (region frontier scratch : List ℕ) where
    abbrev links : Network
    links = plain_network nrows pairs

    abbrev grows : Check
    grows = grow_check topology nrows ncols len words region frontier scratch

    abbrev pub grown_of : GrowthLeft
    grown_of =
        record {
          answer = hops_answer (grow_answer grows links words hops);
          region = region_left grows links words hops region;
          frontier = frontier_left grows links words hops frontier;
          scratch = scratch_left grows nrows scratch;
        }

  module _ (entity_kinds entity_ids field_ids components offsets : List ℕ) (len : ℕ) (words : List ℕ) (hops : ℕ) (region frontier scratch : List ℕ) where
    abbrev blocks : Network
    blocks = field_network components pairs

    abbrev grows_blocks : Check
    grows_blocks = field_grow_check topology (square_check entity_kinds entity_ids field_ids components offsets nrows ncols) (total_of components) len words region frontier scratch

    abbrev pub field_grown_of : GrowthLeft
    field_grown_of =
        record {
          answer = field_hops_answer (field_grow_answer grows_blocks blocks words hops);
          region = region_left grows_blocks blocks words hops region;
          frontier = frontier_left grows_blocks blocks words hops frontier;
          scratch = scratch_left grows_blocks (total_of components) scratch;
        }

  module _ (len : ℕ) (words nodes ptr cols : List ℕ) where
    abbrev pattern_fits : Check
    pattern_fits = pattern_check topology nrows ncols len words pairs nodes ptr cols

    abbrev pub pattern_of : PatternLeft
    pattern_of =
        record {
          answer = pairs_answer (pattern_answer pattern_fits nrows (in_mask words) pairs);
          nodes = nodes_left pattern_fits nrows (in_mask words) nodes;
          ptr = ptr_left pattern_fits nrows (in_mask words) pairs ptr;
          columns = columns_left pattern_fits nrows (in_mask words) pairs cols;
        }

  module _ (matrix_nrows matrix_ncols : ℕ) (row_ptr col_idx : List ℕ) (values : List Float) (len : ℕ) (words nodes ptr cols source_ptr sources : List ℕ) where
    -- the entries of each pair of the pattern
    abbrev entries : List (List ℕ)
    entries = pair_entries nrows (in_mask words) pairs row_ptr col_idx

    abbrev inputs : Check
    inputs = plan_inputs (matrix_check matrix_nrows matrix_ncols row_ptr col_idx values) topology matrix_nrows matrix_ncols nrows ncols len words pairs (stored row_ptr col_idx)

    abbrev plan_fits : Check
    plan_fits = plan_check inputs nrows (in_mask words) pairs entries nodes ptr cols source_ptr sources

    abbrev pub plan_of : PlanLeft
    plan_of =
        record {
          answer = sources_answer (plan_answer plan_fits nrows (in_mask words) entries);
          nodes = nodes_left plan_fits nrows (in_mask words) nodes;
          ptr = ptr_left plan_fits nrows (in_mask words) pairs ptr;
          columns = columns_left plan_fits nrows (in_mask words) pairs cols;
          source_ptr = source_ptr_left plan_fits entries source_ptr;
          sources = sources_left plan_fits entries sources;
        }
