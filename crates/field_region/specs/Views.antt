-- Layouts, topologies and masks as they are lent, and a graph under a layout as it was accepted, or under its two lists.
use Rattle.std.specs.Prelude.{List, ℕ}
use Rattle.base.specs.Checks.{Check}
use Rattle.mask.specs.declared.DofMask.{DofMask}
use Rattle.dof_layout.specs.declared.FieldAwareDofLayout.{FieldAwareDofLayout}
use Rattle.dof_layout.specs.Views.{check_square, total}
use Rattle.side.specs.Views.{holds, pairs}
use Rattle.dual_topology.specs.declared.AbtmDualTopology.{AbtmDualTopology}
use Rattle.dual_topology.specs.Views.{check_topology}
use Rattle.graph.specs.Network.{Network, field_network}
use Rattle.field_region.specs.declared.inner.FieldGraph.{FieldGraph}
use Rattle.field_region.specs.declared.inner.BlockGraph.{BlockGraph}
use Rattle.field_region.specs.Closure.{close_check}
use Rattle.field_region.specs.Owners.{owners_check}
use Rattle.field_region.specs.Growth.{field_grow_check}

-- the layout, the mask, 25
abbrev pub check_closing : FieldAwareDofLayout → DofMask → List ℕ → Check
check_closing l m = close_check l.blocks.entity_kinds.now l.blocks.entity_ids.now l.blocks.field_ids.now l.blocks.components.now l.offsets.now m.len m.words.now

-- the layout, then what its owners must be
abbrev pub check_owning : FieldAwareDofLayout → List ℕ → ℕ → List ℕ → Check
check_owning l = owners_check l.blocks.entity_kinds.now l.blocks.entity_ids.now l.blocks.field_ids.now l.blocks.components.now l.offsets.now

-- the topology, the layout, 18, the mask, 25
abbrev pub check_field_grow : AbtmDualTopology → FieldAwareDofLayout → DofMask → List ℕ → List ℕ → List ℕ → Check
check_field_grow t l m = field_grow_check (check_topology t) (check_square l t.rows.nrows t.rows.ncols) (total l) m.len m.words.now

-- nodes, links and blocks
abbrev pub blocked : AbtmDualTopology → FieldAwareDofLayout → Network
blocked t l = field_network l.blocks.components.now (holds t.rows)

abbrev pub fields : FieldGraph → Network
fields g = field_network g.layout.components.now (pairs g.graph.topology.rows)

abbrev pub block_network : BlockGraph → Network
block_network g = field_network g.components.now (pairs g.graph.topology.rows)
