-- A growth of a topology and from a mask as they are lent.
use Rattle.std.specs.Prelude.{List, ℕ}
use Rattle.base.specs.Checks.{Check}
use Rattle.mask.specs.declared.DofMask.{DofMask}
use Rattle.side.specs.Views.{holds}
use Rattle.dual_topology.specs.declared.AbtmDualTopology.{AbtmDualTopology}
use Rattle.dual_topology.specs.Views.{check_topology}
use Rattle.graph.specs.Network.{Network, plain_network}
use Rattle.region.specs.Growth.{grow_check}

-- the topology, 10, the mask, 25
abbrev pub check_grow : AbtmDualTopology → DofMask → List ℕ → List ℕ → List ℕ → Check
check_grow t m = grow_check (check_topology t) t.rows.nrows t.rows.ncols m.len m.words.now

-- its nodes and links
abbrev pub plain : AbtmDualTopology → Network
plain t = plain_network t.rows.nrows (holds t.rows)
