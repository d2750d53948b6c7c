-- What growths on a topology, and under a layout, share as they are lent, by masks of `len` nodes.
use Rattle.std.specs.Prelude.{ℕ}
use Rattle.dof_layout.specs.declared.FieldAwareDofLayout.{FieldAwareDofLayout}
use Rattle.dof_layout.specs.Views.{check_square}
use Rattle.side.specs.Views.{holds}
use Rattle.dual_topology.specs.declared.AbtmDualTopology.{AbtmDualTopology}
use Rattle.dual_topology.specs.Views.{check_topology}
use Rattle.region.specs.Growth.{grow_check}
use Rattle.region.specs.Views.{plain}
use Rattle.growths.specs.Runs.{Ground, field_ground}

abbrev pub plain_growths : AbtmDualTopology → ℕ → Ground
plain_growths t len = record { network = plain t; check = grow_check (check_topology t) t.rows.nrows t.rows.ncols len }

abbrev pub field_growths : AbtmDualTopology → FieldAwareDofLayout → ℕ → Ground
field_growths t l len = field_ground (check_topology t) (check_square l t.rows.nrows t.rows.ncols) l.blocks.components.now (holds t.rows) len
