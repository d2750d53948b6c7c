-- `field_region::inner::FieldGraph::grow_blocks` meets its contract. Assumes nothing.
use Rattle.field_region.proofs.inner.FieldGraph.grow_blocks.Goals as goal

pub returns-clause-value : goal.returns-clause-value
returns-clause-value c = rw (c.blocks-2.ensures.0, c.blocks-2.ensures.1) at c.grow_blocks.ensures.value
