-- What plain growths and field growths share where only the lengths of the three lists can refuse one.
use Rattle.std.specs.Prelude.{◌≡◌, List, ℕ, ◌≤◌, length}
use Rattle.std.specs.Prelude.{Ok}
use Rattle.base.specs.Checks.{side_limit}
use Rattle.mask.specs.Mask.{length_check}
use Rattle.graph.specs.Network.{Whole}
use Rattle.growth.specs.Lent.{masks_room}
use Rattle.growths.specs.Runs.{largest, Growth, Ground, check_of}

pub record Solid (side len : ℕ) (k : Ground) : Type 0 where
  pub small : side ≤ side_limit
  pub same : len ≡ side
  pub nodes : k.network.nodes ≡ side
  pub few : k.network.blocks ≤ largest
  pub whole : Whole k.network
  pub room : (seeds : List ℕ) → length_check side len seeds ≡ Ok tt → (c : Growth) → check_of k seeds c ≡ masks_room side (length c.region) (length c.frontier) (length c.scratch)
