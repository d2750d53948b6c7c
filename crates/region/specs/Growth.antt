-- grow_undirected_region: the topology, 10, the mask, 25; the statistics. What its lists hold is in growth's specs/Lent.
use Rattle.std.specs.Prelude.{List, ℕ, ◌+◌, ◌-◌, ◌^◌, min, length}
use Rattle.std.specs.Prelude.{Result}
use Rattle.base.specs.Checks.{Check, answer}
use Rattle.base.specs.declared.Refusal.{Refusal}
use Rattle.base.specs.Checks.{◌then◌}
use Rattle.base.specs.Sets.{count_below}
use Rattle.mask.specs.Mask.{in_mask, length_check}
use Rattle.dual_topology.specs.Check.{square_topology}
use Rattle.graph.specs.Network.{Network, in_region, visited, hops_made}
use Rattle.growth.specs.Visits.{visits_of}
use Rattle.growth.specs.Lent.{masks_room}
use Rattle.region.specs.declared.AbtmRegionGrowthStats.{AbtmRegionGrowthStats}

unfoldable pub grow_check : Check → ℕ → ℕ → ℕ → List ℕ → List ℕ → List ℕ → List ℕ → Check
grow_check topology nrows ncols len seeds region frontier scratch =
    square_topology topology nrows ncols
    then length_check nrows len seeds
    then masks_room nrows (length region) (length frontier) (length scratch)

-- row words, column words and candidate bits are summed over the visited nodes
abbrev pub stats_of_growth : Network → List ℕ → ℕ → AbtmRegionGrowthStats
stats_of_growth g seeds h =
    let visits = visits_of g.nodes g.stored (visited g (in_mask seeds) h) in
    record {
      hops_requested = h;
      hops_completed = hops_made g (in_mask seeds) h;
      seed_nodes = count_below g.nodes (in_mask seeds);
      region_nodes = count_below g.nodes (in_region g (in_mask seeds) h);
      frontier_nodes_visited = visits.nodes;
      row_words_visited = visits.row_words;
      column_words_visited = visits.column_words;
      candidate_neighbor_bits = visits.candidate_bits;
    }

abbrev pub grow_answer : Check → Network → List ℕ → ℕ → Result AbtmRegionGrowthStats Refusal
grow_answer check g seeds h = answer check (stats_of_growth g seeds h)

-- ---- two figures of the statistics, by the Rust's formulas: a sum stops at the largest 64-bit number, a difference at 0

abbrev pub words_visited : AbtmRegionGrowthStats → ℕ
words_visited s = min (s.row_words_visited + s.column_words_visited) (2 ^ 64 - 1)

abbrev pub nodes_added : AbtmRegionGrowthStats → ℕ
nodes_added s = s.region_nodes - s.seed_nodes
