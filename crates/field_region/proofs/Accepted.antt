-- What acceptance gives a field growth, and its statistics put together. Assumes nothing.
use mathlib.Core.Path.{◌≡◌, ap, ap₂, ◌∙◌, subst}
use Rattle.std.specs.Prelude.{Ok}
use mathlib.Core.List.{List}
use Prim.Native.Nat.{ℕ, ◌^◌, ◌≤◌, ◌<◌}
use borrow.Author.Tests.{eqb-true}
use lib.Dec.{eqb}
use lib.ListN.{length, get_or}
use Rattle.base.specs.Sets.{count_below}
use Rattle.base.proofs.Bools.{and_left, and_right}
use Rattle.base.proofs.Checks.{both-passed, passed}
use Rattle.mask.specs.Mask.{in_mask, words_needed, IsMask}
use Rattle.mask.proofs.Masks.{accepted-length}
use Rattle.dof_layout.specs.Layout.{total_of, IsLayout}
use Rattle.dof_layout.specs.Answers.{square_check}
use Rattle.dof_layout.proofs.Layouts.{accepted-layout}
use Rattle.dual_topology.specs.Check.{topology_check, IsTopology}
use Rattle.dual_topology.proofs.Accepted.{accepted-topology}
use Rattle.graph.specs.Network.{Network, in_region, block_within}
use Rattle.growth.proofs.Lent.{masks-fit}
use Rattle.field_region.specs.Growth.{field_grow_check, field_stats, blocks_grown_by}
use Rattle.field_region.specs.declared.BlocksGrown.{BlocksGrown}
use Rattle.field_region.specs.declared.FieldAwareRegionStats.{FieldAwareRegionStats}

-- the layout's total is both sides
pub accepted-square : (kinds ids fields components offsets : List ℕ) (nrows ncols : ℕ) → square_check kinds ids fields components offsets nrows ncols ≡ Ok tt
    → IsLayout kinds ids fields components offsets × (nrows ≡ total_of components) × (ncols ≡ total_of components)
unfolding square_check
accepted-square kinds ids fields components offsets nrows ncols e =
    let a = both-passed _ _ e in
    let b = passed _ _ a.1 in
    (accepted-layout kinds ids fields components offsets a.0, eqb-true nrows (total_of components) (and_left (eqb nrows (total_of components)) (eqb ncols (total_of components)) b), eqb-true ncols (total_of components) (and_right (eqb nrows (total_of components)) (eqb ncols (total_of components)) b))

pub record Accepts (nrows : ℕ) (kinds ids fields components offsets ptr idx masks ptr2 idx2 masks2 seeds : List ℕ) (region frontier scratch : ℕ) : Type 0 where
  pub layout : IsLayout kinds ids fields components offsets
  pub side : nrows ≡ total_of components
  pub topology : IsTopology (total_of components) (total_of components) ptr idx masks ptr2 idx2 masks2
  pub mask : IsMask (total_of components) seeds
  pub region_room : words_needed (total_of components) ≤ region
  pub frontier_room : words_needed (total_of components) ≤ frontier
  pub scratch_room : words_needed (total_of components) ≤ scratch

pub accepted-growth : (nrows ncols : ℕ) (ptr idx masks : List ℕ) (pairs nrows2 ncols2 : ℕ) (ptr2 idx2 masks2 : List ℕ) (pairs2 : ℕ) (kinds ids fields components offsets : List ℕ) (len : ℕ) (seeds region frontier scratch : List ℕ)
    → ((k : ℕ) → get_or masks k 0 < 2 ^ 64) → ((k : ℕ) → get_or masks2 k 0 < 2 ^ 64) → ((k : ℕ) → get_or seeds k 0 < 2 ^ 64)
    → field_grow_check (topology_check nrows ncols ptr idx masks pairs nrows2 ncols2 ptr2 idx2 masks2 pairs2) (square_check kinds ids fields components offsets nrows ncols) (total_of components) len seeds region frontier scratch ≡ Ok tt
    → Accepts nrows kinds ids fields components offsets ptr idx masks ptr2 idx2 masks2 seeds (length region) (length frontier) (length scratch)
unfolding field_grow_check
accepted-growth nrows ncols ptr idx masks pairs nrows2 ncols2 ptr2 idx2 masks2 pairs2 kinds ids fields components offsets len seeds region frontier scratch fits fits2 fits3 e =
    let a = both-passed _ _ e in
    let b = both-passed _ _ a.1 in
    let d = both-passed _ _ b.1 in
    let t = accepted-topology nrows ncols ptr idx masks pairs nrows2 ncols2 ptr2 idx2 masks2 pairs2 fits fits2 a.0 in
    let q = accepted-square kinds ids fields components offsets nrows ncols b.0 in
    let room = masks-fit (total_of components) (length region) (length frontier) (length scratch) d.1 in
    let one = subst (λ (n : ℕ). IsTopology n ncols ptr idx masks ptr2 idx2 masks2) q.1 t.topology in
    record {
      layout = q.0;
      side = q.1;
      topology = subst (λ (n : ℕ). IsTopology (total_of components) n ptr idx masks ptr2 idx2 masks2) q.2 one;
      mask = (accepted-length (total_of components) len seeds q.0.blocks.short fits3 d.0).1;
      region_room = room.0;
      frontier_room = room.1;
      scratch_room = room.2;
    }

abbrev stats : ℕ → BlocksGrown → ℕ → ℕ → ℕ → FieldAwareRegionStats
stats h x seeds region blocks =
    record {
      hops_requested = h;
      hops_completed = x.grown.hops;
      seed_dofs = seeds;
      block_closed_seed_dofs = x.closed_seeds;
      region_dofs = region;
      region_blocks = blocks;
      frontier_dofs_visited = x.grown.visits.nodes;
      row_words_visited = x.grown.visits.row_words;
      column_words_visited = x.grown.visits.column_words;
      candidate_neighbor_bits = x.grown.visits.candidate_bits;
    }

pub stats_are : (g : Network) (seeds : List ℕ) (h : ℕ) (x : BlocksGrown) (seed-dofs region-dofs region-blocks : ℕ) → x ≡ blocks_grown_by g seeds h
    → seed-dofs ≡ count_below g.nodes (in_mask seeds) → region-dofs ≡ count_below g.nodes (in_region g (in_mask seeds) h) → region-blocks ≡ count_below g.blocks (block_within g (in_mask seeds) h)
    → stats h x seed-dofs region-dofs region-blocks ≡ field_stats g seeds h
stats_are g seeds h x seed-dofs region-dofs region-blocks ex es er eb =
    ap (λ (y : BlocksGrown). stats h y seed-dofs region-dofs region-blocks) ex
    ∙ ap₂ (λ (a b : ℕ). stats h (blocks_grown_by g seeds h) a b region-blocks) es er
    ∙ ap (λ (a : ℕ). stats h (blocks_grown_by g seeds h) (count_below g.nodes (in_mask seeds)) (count_below g.nodes (in_region g (in_mask seeds) h)) a) eb
