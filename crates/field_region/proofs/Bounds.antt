-- The same two bounds of a field growth: row words at most those stored, and no more hops than there are blocks. Assumes nothing.
use mathlib.Core.List.{List}
use Prim.Native.Nat.{ℕ, ◌≤◌}
use lib.ListN.{length}
use Rattle.mask.specs.Mask.{in_mask}
use Rattle.dof_layout.specs.Layout.{total_of}
use Rattle.side.specs.Side.{side_holds}
use Rattle.dual_topology.specs.Check.{IsTopology}
use Rattle.graph.specs.Network.{field_network, linked, seeded, visited}
use Rattle.graph.proofs.Distances.{completed-le}
use Rattle.growth.proofs.Visits.{row-words-stored}
use Rattle.field_region.specs.Growth.{field_stats}

module _ (components ptr idx masks ptr2 idx2 masks2 : List ℕ) (m : IsTopology (total_of components) (total_of components) ptr idx masks ptr2 idx2 masks2) (seeds : List ℕ) (h : ℕ) where
  pub row-words-few : (field_stats (field_network components (side_holds ptr idx masks)) seeds h).row_words_visited ≤ length masks
  row-words-few = row-words-stored (total_of components) ptr idx masks ptr2 idx2 masks2 m (visited (field_network components (side_holds ptr idx masks)) (in_mask seeds) h)

  pub hops-few : (field_stats (field_network components (side_holds ptr idx masks)) seeds h).hops_completed ≤ length components
  hops-few = completed-le (length components) (linked (field_network components (side_holds ptr idx masks))) (seeded (field_network components (side_holds ptr idx masks)) (in_mask seeds)) h
