-- What acceptance gives a growth, and its statistics put together. Assumes nothing.
use mathlib.Core.Path.{◌≡◌, sym, ap, ap₂, ◌∙◌, subst}
use Rattle.std.specs.Prelude.{Ok}
use mathlib.Core.List.{List}
use Prim.Native.Nat.{ℕ, ◌^◌, ◌≤◌, ◌<◌}
use borrow.Author.Tests.{eqb-true}
use lib.ListN.{length, get_or}
use Rattle.base.specs.Sets.{count_below}
use Rattle.base.proofs.Checks.{both-passed, passed}
use Rattle.mask.specs.Mask.{in_mask, words_needed, IsMask}
use Rattle.mask.proofs.Masks.{accepted-length}
use Rattle.dual_topology.specs.Check.{topology_check, IsTopology}
use Rattle.dual_topology.proofs.Accepted.{accepted-topology}
use Rattle.graph.specs.Network.{Network, region_words}
use Rattle.growth.specs.Visits.{grown_by}
use Rattle.growth.specs.declared.Grown.{Grown}
use Rattle.growth.proofs.Lent.{masks-fit, region-count}
use Rattle.region.specs.Growth.{grow_check, stats_of_growth}
use Rattle.region.specs.declared.AbtmRegionGrowthStats.{AbtmRegionGrowthStats}

pub record Accepts (n : ℕ) (ptr idx masks ptr2 idx2 masks2 seeds : List ℕ) (region frontier scratch : ℕ) : Type 0 where
  pub topology : IsTopology n n ptr idx masks ptr2 idx2 masks2
  pub mask : IsMask n seeds
  pub region_room : words_needed n ≤ region
  pub frontier_room : words_needed n ≤ frontier
  pub scratch_room : words_needed n ≤ scratch

pub accepted-growth : (nrows ncols : ℕ) (ptr idx masks : List ℕ) (pairs nrows2 ncols2 : ℕ) (ptr2 idx2 masks2 : List ℕ) (pairs2 len : ℕ) (seeds region frontier scratch : List ℕ)
    → ((k : ℕ) → get_or masks k 0 < 2 ^ 64) → ((k : ℕ) → get_or masks2 k 0 < 2 ^ 64) → ((k : ℕ) → get_or seeds k 0 < 2 ^ 64)
    → grow_check (topology_check nrows ncols ptr idx masks pairs nrows2 ncols2 ptr2 idx2 masks2 pairs2) nrows ncols len seeds region frontier scratch ≡ Ok tt
    → Accepts nrows ptr idx masks ptr2 idx2 masks2 seeds (length region) (length frontier) (length scratch)
unfolding grow_check
accepted-growth nrows ncols ptr idx masks pairs nrows2 ncols2 ptr2 idx2 masks2 pairs2 len seeds region frontier scratch fits fits2 fits3 e =
    let a = both-passed _ _ e in
    let b = both-passed _ _ a.0 in
    let d = both-passed _ _ a.1 in
    let t = accepted-topology nrows ncols ptr idx masks pairs nrows2 ncols2 ptr2 idx2 masks2 pairs2 fits fits2 b.0 in
    let square : nrows ≡ ncols = eqb-true _ _ (passed _ _ b.1) in
    let room = masks-fit nrows (length region) (length frontier) (length scratch) d.1 in
    record {
      topology = subst (λ (n : ℕ). IsTopology nrows n ptr idx masks ptr2 idx2 masks2) (sym square) t.topology;
      mask = (accepted-length nrows len seeds t.topology.rows.shape.few_rows fits3 d.0).1;
      region_room = room.0;
      frontier_room = room.1;
      scratch_room = room.2;
    }

abbrev stats : ℕ → Grown → ℕ → ℕ → AbtmRegionGrowthStats
stats h grown seeds region =
    record {
      hops_requested = h;
      hops_completed = grown.hops;
      seed_nodes = seeds;
      region_nodes = region;
      frontier_nodes_visited = grown.visits.nodes;
      row_words_visited = grown.visits.row_words;
      column_words_visited = grown.visits.column_words;
      candidate_neighbor_bits = grown.visits.candidate_bits;
    }

pub stats_are : (g : Network) (seeds region : List ℕ) (h : ℕ) (grown : Grown) (seed-nodes region-nodes : ℕ) → grown ≡ grown_by g seeds h
    → region ≡ region_words g seeds h → seed-nodes ≡ count_below g.nodes (in_mask seeds) → region-nodes ≡ count_below g.nodes (in_mask region)
    → stats h grown seed-nodes region-nodes ≡ stats_of_growth g seeds h
stats_are g seeds region h grown seed-nodes region-nodes eg er es en =
    ap (λ (x : Grown). stats h x seed-nodes region-nodes) eg
    ∙ ap₂ (λ (x y : ℕ). stats h (grown_by g seeds h) x y) es (en ∙ region-count g seeds region h er)
