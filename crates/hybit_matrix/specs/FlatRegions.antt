-- The answers of the calls on regions as the flat records that cross the C boundary, and what a growth answers and leaves, by the lists in the
-- order of C's calls.
use Rattle.std.specs.Prelude.{true, false, Bool, List, ℕ}
use Rattle.std.specs.Prelude.{Result, Ok, Err}
use Rattle.base.specs.Checks.{Check}
use Rattle.base.specs.declared.Refusal.{Refusal}
use Rattle.std.specs.Float.{binary64}
use Rattle.std.specs.Float.Ieee.{of_bits}
use Rattle.dof_layout.specs.Layout.{total_of}
use Rattle.dof_layout.specs.Answers.{square_check}
use Rattle.side.specs.Side.{side_holds}
use Rattle.dual_topology.specs.Check.{topology_check}
use Rattle.graph.specs.Network.{Network, plain_network, field_network}
use Rattle.growth.specs.Lent.{region_left, frontier_left, scratch_left}
use Rattle.region.specs.Growth.{words_visited, nodes_added, grow_check, grow_answer}
use Rattle.field_region.specs.Growth.{field_grow_check, field_grow_answer}
use Rattle.hybit_matrix.specs.declared.regions.GrowthAnswer.{GrowthAnswer}
use Rattle.hybit_matrix.specs.declared.regions.FieldGrowthAnswer.{FieldGrowthAnswer}
use Rattle.hybit_matrix.specs.declared.regions.MultiplicityAnswer.{MultiplicityAnswer}
use Rattle.field_region.specs.declared.FieldAwareRegionStats.{FieldAwareRegionStats}
use Rattle.multiplicity.specs.declared.AbtmRegionMultiplicityStats.{AbtmRegionMultiplicityStats}
use Rattle.region.specs.declared.AbtmRegionGrowthStats.{AbtmRegionGrowthStats}
use Rattle.base.specs.Checks.{refusal_number, refusal_expected, refusal_actual}

unfoldable pub flat_of_grown : Result AbtmRegionGrowthStats Refusal → GrowthAnswer
flat_of_grown (Ok x) =
    record { number = 0; present = true; expected = 0; actual = 0; hops_requested = x.hops_requested; hops_completed = x.hops_completed; seed_nodes = x.seed_nodes; region_nodes = x.region_nodes; frontier_nodes_visited = x.frontier_nodes_visited; row_words_visited = x.row_words_visited; column_words_visited = x.column_words_visited; candidate_neighbor_bits = x.candidate_neighbor_bits; topology_words_visited = words_visited x; new_nodes = nodes_added x }
flat_of_grown (Err r) =
    record { number = refusal_number r; present = false; expected = refusal_expected r; actual = refusal_actual r; hops_requested = 0; hops_completed = 0; seed_nodes = 0; region_nodes = 0; frontier_nodes_visited = 0; row_words_visited = 0; column_words_visited = 0; candidate_neighbor_bits = 0; topology_words_visited = 0; new_nodes = 0 }

unfoldable pub flat_of_field_grown : Result FieldAwareRegionStats Refusal → FieldGrowthAnswer
flat_of_field_grown (Ok x) =
    record { number = 0; present = true; expected = 0; actual = 0; hops_requested = x.hops_requested; hops_completed = x.hops_completed; seed_dofs = x.seed_dofs; block_closed_seed_dofs = x.block_closed_seed_dofs; region_dofs = x.region_dofs; region_blocks = x.region_blocks; frontier_dofs_visited = x.frontier_dofs_visited; row_words_visited = x.row_words_visited; column_words_visited = x.column_words_visited; candidate_neighbor_bits = x.candidate_neighbor_bits }
flat_of_field_grown (Err r) =
    record { number = refusal_number r; present = false; expected = refusal_expected r; actual = refusal_actual r; hops_requested = 0; hops_completed = 0; seed_dofs = 0; block_closed_seed_dofs = 0; region_dofs = 0; region_blocks = 0; frontier_dofs_visited = 0; row_words_visited = 0; column_words_visited = 0; candidate_neighbor_bits = 0 }

unfoldable pub flat_of_regions : Result AbtmRegionMultiplicityStats Refusal → MultiplicityAnswer
flat_of_regions (Ok x) =
    record { number = 0; present = true; expected = 0; actual = 0; region_count = x.region_count; node_count = x.node_count; total_memberships = x.total_memberships; covered_nodes = x.covered_nodes; overlap_nodes = x.overlap_nodes; max_multiplicity = x.max_multiplicity; pair_overlap_memberships = x.pair_overlap_memberships; extra_memberships = x.extra_memberships; average_multiplicity_on_covered = x.average_multiplicity_on_covered; overlap_fraction_on_covered = x.overlap_fraction_on_covered }
flat_of_regions (Err r) =
    record { number = refusal_number r; present = false; expected = refusal_expected r; actual = refusal_actual r; region_count = 0; node_count = 0; total_memberships = 0; covered_nodes = 0; overlap_nodes = 0; max_multiplicity = 0; pair_overlap_memberships = 0; extra_memberships = 0; average_multiplicity_on_covered = of_bits binary64 0; overlap_fraction_on_covered = of_bits binary64 0 }

-- ---- what a growth answers and leaves

pub record GrowthLeft : Type 0 where
  pub answer : GrowthAnswer
  pub region : List ℕ
  pub frontier : List ℕ
  pub scratch : List ℕ

pub record FieldGrowthLeft : Type 0 where
  pub answer : FieldGrowthAnswer
  pub region : List ℕ
  pub frontier : List ℕ
  pub scratch : List ℕ

module _ (nrows ncols : ℕ) (row_word_ptr row_word_indices row_masks : List ℕ) (structural_nnz column_nrows column_ncols : ℕ) (column_word_ptr column_word_indices column_masks : List ℕ) (column_structural_nnz : ℕ) where
  abbrev topology : Check
  topology = topology_check nrows ncols row_word_ptr row_word_indices row_masks structural_nnz column_nrows column_ncols column_word_ptr column_word_indices column_masks column_structural_nnz

  abbrev pairs : ℕ → ℕ → Bool
  pairs = side_holds row_word_ptr row_word_indices row_masks

  module _ (len : ℕ) (words : List ℕ) (hops : ℕ) (region frontier scratch : List ℕ) where
    abbrev links : Network
    links = plain_network nrows pairs

    abbrev grows : Check
    grows = grow_check topology nrows ncols len words region frontier scratch

    abbrev pub grown_of : GrowthLeft
    grown_of =
        record {
          answer = flat_of_grown (grow_answer grows links words hops);
          region = region_left grows links words hops region;
          frontier = frontier_left grows links words hops frontier;
          scratch = scratch_left grows nrows scratch;
        }

  module _ (entity_kinds entity_ids field_ids components offsets : List ℕ) (len : ℕ) (words : List ℕ) (hops : ℕ) (region frontier scratch : List ℕ) where
    abbrev blocks : Network
    blocks = field_network components pairs

    abbrev grows_blocks : Check
    grows_blocks = field_grow_check topology (square_check entity_kinds entity_ids field_ids components offsets nrows ncols) (total_of components) len words region frontier scratch

    abbrev pub field_grown_of : FieldGrowthLeft
    field_grown_of =
        record {
          answer = flat_of_field_grown (field_grow_answer grows_blocks blocks words hops);
          region = region_left grows_blocks blocks words hops region;
          frontier = frontier_left grows_blocks blocks words hops frontier;
          scratch = scratch_left grows_blocks (total_of components) scratch;
        }
