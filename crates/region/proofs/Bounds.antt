-- Two bounds that document 01 names: the row words that a growth counts are at most those stored, and whatever count of hops is asked for, it
-- makes no more of them than there are nodes. Assumes nothing.
use mathlib.Core.List.{List}
use Prim.Native.Nat.{ℕ, ◌≤◌}
use lib.ListN.{length}
use Rattle.mask.specs.Mask.{in_mask}
use Rattle.side.specs.Side.{side_holds}
use Rattle.dual_topology.specs.Check.{IsTopology}
use Rattle.graph.specs.Network.{plain_network, linked, seeded, visited}
use Rattle.graph.proofs.Distances.{completed-le}
use Rattle.growth.proofs.Visits.{row-words-stored}
use Rattle.region.specs.Growth.{stats_of_growth}

module _ (n : ℕ) (ptr idx masks ptr2 idx2 masks2 : List ℕ) (m : IsTopology n n ptr idx masks ptr2 idx2 masks2) (seeds : List ℕ) (h : ℕ) where
  pub row-words-few : (stats_of_growth (plain_network n (side_holds ptr idx masks)) seeds h).row_words_visited ≤ length masks
  row-words-few = row-words-stored n ptr idx masks ptr2 idx2 masks2 m (visited (plain_network n (side_holds ptr idx masks)) (in_mask seeds) h)

  pub hops-few : (stats_of_growth (plain_network n (side_holds ptr idx masks)) seeds h).hops_completed ≤ n
  hops-few = completed-le n (linked (plain_network n (side_holds ptr idx masks))) (seeded (plain_network n (side_holds ptr idx masks)) (in_mask seeds)) h
