-- Document 01's section 'Worked by hand', the ● lines, as one table in its order. Each line is said of the definitions that the promises of the
-- calls cite, all checks included; the lent lists are longer than needed, and what stands past the answer is as it was. Assumes nothing.
use mathlib.Core.Path.{◌≡◌, refl}
use Rattle.std.specs.Prelude.{Result, Ok, Err, Some, None}
use Rattle.base.specs.Checks.{Check}
use Rattle.base.specs.declared.Refusal.{Refusal}
use Rattle.base.specs.declared.Refusal.TheVariants.{OutOfRange, ListTooShort}
use mathlib.Core.Bool.{true, false}
use mathlib.Core.List.{List, [], ◌∷◌}
use Prim.Native.Nat.{ℕ}
use lib.Ieee.{Float, binary64, add, of_bits}
use Rattle.base.specs.Checks.{must, must_be, ◌then◌, checks_below}
use Rattle.base.specs.Lists.{is_in, list_from, join_below}
use Rattle.base.specs.Sets.{any_below, first_below, every_below, sum_below, members_from}
use Rattle.word.specs.Bits.{bit_at, word_from}
use Rattle.word.specs.Answers.{rank_answer, select_answer}
use Rattle.word.proofs.Worked.{word22}
use Rattle.csr32.specs.Matrix.{matrix_check, stored}
use Rattle.mask.specs.Mask.{in_mask, mask_words, clean, shape_check, length_check}
use Rattle.dof_layout.specs.Layout.{total_of}
use Rattle.dof_layout.specs.Answers.{square_check}
use Rattle.side.specs.Side.{words_of_row, masks_of_row, mask_for, row_holds}
use Rattle.side.specs.Check.{limit_check, fault_check, bits_in, lists_agree, is_word_inside, good_word, words_fault, side_fault}
use Rattle.agreement.specs.Agreement.{turned}
use Rattle.dual_topology.specs.Check.{first_fault, sides_agree, topology_fault, topology_check}
use Rattle.graph.specs.Distance.{within, exactly}
use Rattle.graph.specs.Network.{Network, plain_network, field_network, holding, linked, region_words, frontier_words}
use Rattle.growth.specs.Lent.{masks_room, region_left, frontier_left}
use Rattle.region.specs.Growth.{grow_check, grow_answer}
use Rattle.region.specs.declared.AbtmRegionGrowthStats.{AbtmRegionGrowthStats}
use Rattle.region.proofs.Worked.{growths}
use Rattle.field_region.specs.Closure.{close_check, close_words}
use Rattle.field_region.specs.Growth.{field_grow_check, field_grow_answer}
use Rattle.field_region.specs.declared.FieldAwareRegionStats.{FieldAwareRegionStats}
use Rattle.field_region.proofs.Worked.{field-growths, closures}
use Rattle.multiplicity.specs.Multiplicity.{multiplicity_check, multiplicity_answer, multiplicity_counts}
use Rattle.multiplicity.proofs.Worked.{multiplicities}
use Rattle.pattern.specs.Pattern.{local_row, pattern_columns, pattern_ptr, pairs_inside, pattern_room, region_check}
use Rattle.binding.specs.Binding.{row_faults, binding_check}
use Rattle.sources.specs.Sources.{entries_in}
use Rattle.gather.specs.Gather.{gathered, gather_check}
use Rattle.gather.specs.Plan.{plan_sources, plan_ptr}
use Rattle.numeric_plan.specs.Plan.{pair_entries, plan_room, sides_check, plan_inputs, plan_check}
use Rattle.growths.specs.Runs.{Growth, Ground, plain_ground, begun, check_of, grown, run}
use Rattle.claims.specs.Demand.{CutSystem, Planned, Gathered, matrix_of, topology_of, pairs_of, planned, gathered_from}
use Rattle.claims.proofs.Built.{built_of}

-- ---- growth

-- 1.0, which document 01 leaves free here
abbrev unit : Float
unit = of_bits binary64 0x3ff0_0000_0000_0000

-- the entries (0,1), (1,2), side 3, their topology, and seeds
abbrev pub chain : List ℕ → CutSystem
chain seeds =
    record {
      side = 3;
      row_ptr = 0 ∷ 1 ∷ 2 ∷ 2 ∷ [];
      col_idx = 1 ∷ 2 ∷ [];
      values = unit ∷ unit ∷ [];
      row_word_ptr = 0 ∷ 1 ∷ 2 ∷ 2 ∷ [];
      row_word_indices = 0 ∷ 0 ∷ [];
      row_masks = 2 ∷ 4 ∷ [];
      row_pairs = 2;
      column_word_ptr = 0 ∷ 0 ∷ 1 ∷ 2 ∷ [];
      column_word_indices = 0 ∷ 0 ∷ [];
      column_masks = 1 ∷ 2 ∷ [];
      column_pairs = 2;
      len = 3;
      seeds = seeds;
    }

-- the lists that a growth is lent
abbrev lent_region : List ℕ
lent_region = 5 ∷ 8 ∷ []

abbrev lent_frontier : List ℕ
lent_frontier = 9 ∷ 10 ∷ []

abbrev lent_scratch : List ℕ
lent_scratch = 11 ∷ 12 ∷ 13 ∷ []

-- a plain growth of the chain by h
module _ (seeds : List ℕ) (h : ℕ) where
  abbrev check : Check
  check = grow_check (topology_of (chain seeds)) 3 3 3 seeds lent_region lent_frontier lent_scratch

  abbrev network : Network
  network = plain_network 3 (pairs_of (chain seeds))

  abbrev answer : Result AbtmRegionGrowthStats Refusal
  answer = grow_answer check network seeds h

  abbrev region : List ℕ
  region = region_left check network seeds h lent_region

  abbrev frontier : List ℕ
  frontier = frontier_left check network seeds h lent_frontier

-- its eight statistics in their order
abbrev stats : ℕ → ℕ → ℕ → ℕ → ℕ → ℕ → ℕ → ℕ → AbtmRegionGrowthStats
stats hops completed seeds nodes visited rows columns bits =
    record {
      hops_requested = hops;
      hops_completed = completed;
      seed_nodes = seeds;
      region_nodes = nodes;
      frontier_nodes_visited = visited;
      row_words_visited = rows;
      column_words_visited = columns;
      candidate_neighbor_bits = bits;
    }

-- a field growth of the chain by h, under blocks of 2 and 1
module _ (seeds : List ℕ) (h : ℕ) where
  abbrev check_of_blocks : Check
  check_of_blocks =
      field_grow_check (topology_of (chain seeds)) (square_check (1 ∷ 1 ∷ []) (0 ∷ 1 ∷ []) (0 ∷ 0 ∷ []) (2 ∷ 1 ∷ []) (0 ∷ 2 ∷ 3 ∷ []) 3 3) (total_of (2 ∷ 1 ∷ [])) 3 seeds lent_region lent_frontier lent_scratch

  abbrev blocks : Network
  blocks = field_network (2 ∷ 1 ∷ []) (pairs_of (chain seeds))

  abbrev answer_blocks : Result FieldAwareRegionStats Refusal
  answer_blocks = field_grow_answer check_of_blocks blocks seeds h

  abbrev region_of_blocks : List ℕ
  region_of_blocks = region_left check_of_blocks blocks seeds h lent_region

  abbrev frontier_blocks : List ℕ
  frontier_blocks = frontier_left check_of_blocks blocks seeds h lent_frontier

-- the seeds closed to these blocks
abbrev seeds_closed : List ℕ → List ℕ → List ℕ
seeds_closed seeds out =
    close_words (close_check (1 ∷ 1 ∷ []) (0 ∷ 1 ∷ []) (0 ∷ 0 ∷ []) (2 ∷ 1 ∷ []) (0 ∷ 2 ∷ 3 ∷ []) 3 seeds out) (2 ∷ 1 ∷ []) seeds out

-- its ten statistics in their order
abbrev block_stats : ℕ → ℕ → ℕ → ℕ → ℕ → ℕ → ℕ → ℕ → ℕ → ℕ → FieldAwareRegionStats
block_stats hops completed seeds closed nodes blocks visited rows columns bits =
    record {
      hops_requested = hops;
      hops_completed = completed;
      seed_dofs = seeds;
      block_closed_seed_dofs = closed;
      region_dofs = nodes;
      region_blocks = blocks;
      frontier_dofs_visited = visited;
      row_words_visited = rows;
      column_words_visited = columns;
      candidate_neighbor_bits = bits;
    }

-- ---- multiplicity

-- the regions {0,1}, {1,2}, {1} of three nodes
abbrev regions : List ℕ
regions = 3 ∷ 6 ∷ 2 ∷ []

abbrev lent_counts : List ℕ
lent_counts = 9 ∷ 9 ∷ 9 ∷ 9 ∷ []

-- ---- plan and gather

-- 1.5, 2.25, 3.75, 0.0 and -0.0 by their bits
abbrev f1·5 : Float
f1·5 = of_bits binary64 0x3ff8_0000_0000_0000

abbrev f2·25 : Float
f2·25 = of_bits binary64 0x4002_0000_0000_0000

abbrev f3·75 : Float
f3·75 = of_bits binary64 0x400e_0000_0000_0000

abbrev plus_zero : Float
plus_zero = of_bits binary64 0

abbrev minus_zero : Float
minus_zero = of_bits binary64 0x8000_0000_0000_0000

-- the entries (0,0) = 1.5, (0,0) = 2.25, (1,1) = -0.0, and their topology
abbrev pub doubled : CutSystem
doubled =
    record {
      side = 2;
      row_ptr = 0 ∷ 2 ∷ 3 ∷ [];
      col_idx = 0 ∷ 0 ∷ 1 ∷ [];
      values = f1·5 ∷ f2·25 ∷ minus_zero ∷ [];
      row_word_ptr = 0 ∷ 1 ∷ 2 ∷ [];
      row_word_indices = 0 ∷ 0 ∷ [];
      row_masks = 1 ∷ 2 ∷ [];
      row_pairs = 2;
      column_word_ptr = 0 ∷ 1 ∷ 2 ∷ [];
      column_word_indices = 0 ∷ 0 ∷ [];
      column_masks = 1 ∷ 2 ∷ [];
      column_pairs = 2;
      len = 2;
      seeds = 0 ∷ [];
    }

-- the plan of a region, and the gather on what the plan left
module _ (region : List ℕ) where
  abbrev plan : Planned
  plan = planned doubled region (9 ∷ 9 ∷ 9 ∷ []) (9 ∷ 9 ∷ 9 ∷ 9 ∷ []) (9 ∷ 9 ∷ 9 ∷ []) (9 ∷ 9 ∷ 9 ∷ 9 ∷ []) (9 ∷ 9 ∷ 9 ∷ 9 ∷ [])

  abbrev gather : Gathered
  gather = gathered_from doubled region plan.source_ptr plan.sources doubled.values (f1·5 ∷ f1·5 ∷ f1·5 ∷ [])

-- ---- the table

pub record Table : Type 0 where
  -- Word 22 (bits 1, 2, 4): rank 2 is 1, rank 64 is 3, rank 65 is refused 13
  pub rank_2 : rank_answer 22 2 ≡ Ok 1
  pub rank_64 : rank_answer 22 64 ≡ Ok 3
  pub rank_65 : rank_answer 22 65 ≡ Err OutOfRange
  -- Same word: select 2 is 4, select 3 is none
  pub select_2 : select_answer 22 2 ≡ Some 4
  pub select_3 : select_answer 22 3 ≡ None
  -- Entries (0,1), (1,2), side 3, seed 0: h = 0 gives region and frontier 0, completed 0
  pub chain_matrix : matrix_of (chain (1 ∷ [])) ≡ Ok tt
  pub chain_built : (seeds : List ℕ) → chain seeds ≡ built_of 3 (0 ∷ 1 ∷ 2 ∷ 2 ∷ []) (1 ∷ 2 ∷ []) (unit ∷ unit ∷ []) 3 seeds
  pub h_0_answer : answer (1 ∷ []) 0 ≡ Ok (stats 0 0 1 1 0 0 0 0)
  pub h_0_region : region (1 ∷ []) 0 ≡ 1 ∷ 8 ∷ []
  pub h_0_frontier : frontier (1 ∷ []) 0 ≡ 1 ∷ 10 ∷ []
  -- h = 2: region 0,1,2, frontier 2, completed 2
  pub h_2_answer : answer (1 ∷ []) 2 ≡ Ok (stats 2 2 1 3 2 2 1 3)
  pub h_2_region : region (1 ∷ []) 2 ≡ 7 ∷ 8 ∷ []
  pub h_2_frontier : frontier (1 ∷ []) 2 ≡ 4 ∷ 10 ∷ []
  -- h = 3 and 9: same region, empty frontier, completed 3
  pub h_3_answer : answer (1 ∷ []) 3 ≡ Ok (stats 3 3 1 3 3 2 2 4)
  pub h_3_region : region (1 ∷ []) 3 ≡ 7 ∷ 8 ∷ []
  pub h_3_frontier : frontier (1 ∷ []) 3 ≡ 0 ∷ 10 ∷ []
  pub h_9_answer : answer (1 ∷ []) 9 ≡ Ok (stats 9 3 1 3 3 2 2 4)
  pub h_9_region : region (1 ∷ []) 9 ≡ 7 ∷ 8 ∷ []
  pub h_9_frontier : frontier (1 ∷ []) 9 ≡ 0 ∷ 10 ∷ []
  -- Seed 2, h = 1: region 1,2
  pub seed_2_answer : answer (4 ∷ []) 1 ≡ Ok (stats 1 1 1 2 1 0 1 1)
  pub seed_2_region : region (4 ∷ []) 1 ≡ 6 ∷ 8 ∷ []
  pub seed_2_frontier : frontier (4 ∷ []) 1 ≡ 2 ∷ 10 ∷ []
  -- No seeds, h = 9: empty, completed 0
  pub no_seeds_answer : answer (0 ∷ []) 9 ≡ Ok (stats 9 0 0 0 0 0 0 0)
  pub no_seeds_region : region (0 ∷ []) 9 ≡ 0 ∷ 8 ∷ []
  pub no_seeds_frontier : frontier (0 ∷ []) 9 ≡ 0 ∷ 10 ∷ []
  -- Same entries, blocks of 2 and 1, seed 1, h = 1: closed seeds 0,1; all three nodes; 2 blocks
  pub blocks_closed : seeds_closed (2 ∷ []) (9 ∷ 9 ∷ []) ≡ 3 ∷ 9 ∷ []
  pub blocks_answer : answer_blocks (2 ∷ []) 1 ≡ Ok (block_stats 1 1 1 2 3 2 2 2 1 3)
  pub blocks_region : region_of_blocks (2 ∷ []) 1 ≡ 7 ∷ 8 ∷ []
  pub blocks_frontier : frontier_blocks (2 ∷ []) 1 ≡ 4 ∷ 10 ∷ []
  -- Regions {0,1}, {1,2}, {1}: counts 1,3,1; total 5; overlap nodes 1; pairs 3
  pub regions_counts : multiplicity_counts (multiplicity_check 3 3 regions lent_counts) 3 3 regions lent_counts ≡ 1 ∷ 3 ∷ 1 ∷ 9 ∷ []
  pub regions_answer : multiplicity_answer (multiplicity_check 3 3 regions lent_counts) 3 3 regions
      ≡ Ok
      record {
        region_count = 3;
        node_count = 3;
        total_memberships = 5;
        covered_nodes = 3;
        overlap_nodes = 1;
        max_multiplicity = 3;
        pair_overlap_memberships = 3;
        extra_memberships = 2;
        average_multiplicity_on_covered = of_bits binary64 4610184818551597739;
        overlap_fraction_on_covered = of_bits binary64 4599676419421066581;
      }
  -- Entries (0,0) = 1.5, (0,0) = 2.25, (1,1) = -0.0; region 0,1 gathers 3.75, +0.0
  pub doubled_built : doubled ≡ built_of 2 (0 ∷ 2 ∷ 3 ∷ []) (0 ∷ 0 ∷ 1 ∷ []) (f1·5 ∷ f2·25 ∷ minus_zero ∷ []) 2 (0 ∷ [])
  pub both_plan : plan (3 ∷ [])
      ≡ record {
        answer = Ok record { local_nodes = 2; local_nnz = 2; source_terms = 3; duplicate_source_terms = 1; direct_source_map = false; plan_bytes = 52 };
        nodes = 0 ∷ 1 ∷ 9 ∷ [];
        ptr = 0 ∷ 1 ∷ 2 ∷ 9 ∷ [];
        columns = 0 ∷ 1 ∷ 9 ∷ [];
        source_ptr = 0 ∷ 2 ∷ 3 ∷ 9 ∷ [];
        sources = 0 ∷ 1 ∷ 2 ∷ 9 ∷ [];
      }
  pub both_gather : gather (3 ∷ []) ≡ record { answer = Ok 2; values = f3·75 ∷ plus_zero ∷ f1·5 ∷ [] }
  -- Region 1 alone gathers -0.0
  pub alone_plan : plan (2 ∷ [])
      ≡ record {
        answer = Ok record { local_nodes = 1; local_nnz = 1; source_terms = 1; duplicate_source_terms = 0; direct_source_map = true; plan_bytes = 28 };
        nodes = 1 ∷ 9 ∷ 9 ∷ [];
        ptr = 0 ∷ 1 ∷ 9 ∷ 9 ∷ [];
        columns = 0 ∷ 9 ∷ 9 ∷ [];
        source_ptr = 0 ∷ 1 ∷ 9 ∷ 9 ∷ [];
        sources = 2 ∷ 9 ∷ 9 ∷ 9 ∷ [];
      }
  pub alone_gather : gather (2 ∷ []) ≡ record { answer = Ok 1; values = minus_zero ∷ f1·5 ∷ f1·5 ∷ [] }

pub table : Table
unfolding must must_be ◌then◌ checks_below is_in list_from join_below any_below every_below first_below sum_below members_from bit_at word_from in_mask clean shape_check length_check matrix_check stored words_of_row masks_of_row mask_for row_holds limit_check fault_check bits_in lists_agree is_word_inside good_word words_fault side_fault turned first_fault sides_agree topology_fault topology_check local_row pattern_columns pattern_ptr pairs_inside pattern_room region_check row_faults binding_check entries_in gathered gather_check plan_sources plan_ptr pair_entries plan_room sides_check plan_inputs plan_check add of_bits
table =
    record {
      rank_2 = word22.rank_2;
      rank_64 = word22.rank_64;
      rank_65 = word22.rank_65;
      select_2 = word22.select_2;
      select_3 = word22.select_3;
      chain_matrix = refl;
      chain_built = λ seeds. refl;
      h_0_answer = growths.zero_answer;
      h_0_region = growths.zero_region;
      h_0_frontier = growths.zero_frontier;
      h_2_answer = growths.two_answer;
      h_2_region = growths.two_region;
      h_2_frontier = growths.two_frontier;
      h_3_answer = growths.three_answer;
      h_3_region = growths.three_region;
      h_3_frontier = growths.three_frontier;
      h_9_answer = growths.nine_answer;
      h_9_region = growths.nine_region;
      h_9_frontier = growths.nine_frontier;
      seed_2_answer = growths.back_answer;
      seed_2_region = growths.back_region;
      seed_2_frontier = growths.back_frontier;
      no_seeds_answer = growths.none_answer;
      no_seeds_region = growths.none_region;
      no_seeds_frontier = growths.none_frontier;
      blocks_closed = closures.one_of_two;
      blocks_answer = field-growths.one_answer;
      blocks_region = field-growths.one_region;
      blocks_frontier = field-growths.one_frontier;
      regions_counts = multiplicities.counts;
      regions_answer = multiplicities.stats;
      doubled_built = refl;
      both_plan = refl;
      both_gather = refl;
      alone_plan = refl;
      alone_gather = refl;
    }

-- ---- a list of growths

abbrev ground : Ground
ground = plain_ground (topology_of (chain (1 ∷ []))) 3 (pairs_of (chain (1 ∷ []))) 3

abbrev first : Growth
first = record { hops = 1; region = lent_region; frontier = lent_frontier; scratch = lent_scratch }

-- its region list is too short
abbrev second : Growth
second = record { hops = 5; region = []; frontier = lent_frontier; scratch = lent_scratch }

abbrev third : Growth
third = record { hops = 1; region = 3 ∷ []; frontier = 4 ∷ []; scratch = 5 ∷ [] }

-- by 1, by 5, by 1: the refused growth changes nothing
pub record Listed : Type 0 where
  pub refused : check_of ground (3 ∷ []) second ≡ Err ListTooShort
  pub comes_to : run ground (begun (1 ∷ [])) (first ∷ second ∷ third ∷ []) ≡ record { seeds = 7 ∷ []; frontier = 4 ∷ []; total = 2; last = 1; accepted = 2 }

pub listed : Listed
unfolding must must_be ◌then◌ list_from any_below every_below first_below sum_below bit_at word_from in_mask mask_words clean shape_check length_check words_of_row mask_for row_holds limit_check fault_check bits_in lists_agree is_word_inside good_word words_fault side_fault turned first_fault sides_agree topology_fault topology_check within exactly holding linked region_words frontier_words masks_room grow_check grown run
listed = record { refused = refl; comes_to = refl }
