-- grow_field_aware_region: the topology, the layout, 18, the mask, 25; the statistics. What its lists hold is in growth's specs/Lent.
use Rattle.std.specs.Prelude.{List, ℕ, length}
use Rattle.std.specs.Prelude.{Result}
use Rattle.base.specs.Checks.{Check, answer}
use Rattle.base.specs.declared.Refusal.{Refusal}
use Rattle.base.specs.Checks.{◌then◌}
use Rattle.base.specs.Sets.{count_below}
use Rattle.mask.specs.Mask.{in_mask, length_check}
use Rattle.graph.specs.Network.{Network, block_within, in_region, visited, hops_made}
use Rattle.growth.specs.Visits.{visits_of, grown_by}
use Rattle.growth.specs.Lent.{masks_room}
use Rattle.field_region.specs.declared.FieldAwareRegionStats.{FieldAwareRegionStats}
use Rattle.field_region.specs.declared.BlocksGrown.{BlocksGrown}

-- `square` is the layout's own check with 18
unfoldable pub field_grow_check : Check → Check → ℕ → ℕ → List ℕ → List ℕ → List ℕ → List ℕ → Check
field_grow_check topology square total len seeds region frontier scratch =
    topology
    then square
    then length_check total len seeds
    then masks_room total (length region) (length frontier) (length scratch)

-- region blocks are those within h links; with h = 0 the region is the closed seeds
abbrev pub field_stats : Network → List ℕ → ℕ → FieldAwareRegionStats
field_stats g seeds h =
    let visits = visits_of g.nodes g.stored (visited g (in_mask seeds) h) in
    record {
      hops_requested = h;
      hops_completed = hops_made g (in_mask seeds) h;
      seed_dofs = count_below g.nodes (in_mask seeds);
      block_closed_seed_dofs = count_below g.nodes (in_region g (in_mask seeds) 0);
      region_dofs = count_below g.nodes (in_region g (in_mask seeds) h);
      region_blocks = count_below g.blocks (block_within g (in_mask seeds) h);
      frontier_dofs_visited = visits.nodes;
      row_words_visited = visits.row_words;
      column_words_visited = visits.column_words;
      candidate_neighbor_bits = visits.candidate_bits;
    }

abbrev pub field_grow_answer : Check → Network → List ℕ → ℕ → Result FieldAwareRegionStats Refusal
field_grow_answer check g seeds h = answer check (field_stats g seeds h)

-- the work of a growth: the closed seeds counted, the hops and the visits
abbrev pub blocks_grown_by : Network → List ℕ → ℕ → BlocksGrown
blocks_grown_by g seeds h = record { closed_seeds = count_below g.nodes (in_region g (in_mask seeds) 0); grown = grown_by g seeds h }
