-- `repeated::field_graph_of` meets its contract. Assumes nothing.
use Rattle.std.proofs.Common.{◌∙◌}
use Rattle.dof_layout.proofs.Layouts.{filled-of}
use Rattle.repeated.proofs.field_graph_of.Goals as goal

pub graph_of-graph-requires : goal.graph_of-graph-requires
graph_of-graph-requires c = c.requires.0

pub invariant_of-blocks : goal.invariant_of-blocks
invariant_of-blocks c = let l = c.requires.1 in record { totals = l.running; few = l.blocks.short; filled = filled-of _ _ _ _ l.blocks }

pub invariant_of-result : goal.invariant_of-result
invariant_of-result c = record { sized = c.graph_of-graph.ensures.0 ∙ c.requires.2 }
