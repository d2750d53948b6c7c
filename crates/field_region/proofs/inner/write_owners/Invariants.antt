-- `field_region::inner::write_owners` meets its contract. The invariant: the owners of the blocks before b are written. Assumes nothing.
use Rattle.std.proofs.Common.{◌≡◌}
use Rattle.base.specs.Lists.{written}
use Rattle.field_region.specs.Owners.{owners_of}
use Rattle.field_region.proofs.inner.write_owners.Given as goal

abbrev pub invariant-loop-b : goal.invariant-loop-b
invariant-loop-b l = l.owner-items ≡ written l.b (owners_of l.layout.components.now l.dof_owners) l.initial.owner-items
