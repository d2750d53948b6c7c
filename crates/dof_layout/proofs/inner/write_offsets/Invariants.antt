-- `dof_layout::inner::write_offsets` meets its contract. The invariant: the totals of the blocks before b are written. Assumes nothing.
use Rattle.std.proofs.Common.{◌≡◌}
use Rattle.base.specs.Lists.{written}
use Rattle.dof_layout.specs.Layout.{start_of, offsets_of}
use Rattle.dof_layout.proofs.inner.write_offsets.Given as goal

abbrev pub invariant-loop-b : goal.invariant-loop-b
invariant-loop-b l = (l.total ≡ start_of l.components l.b) × (l.out ≡ written l.b (offsets_of l.components) l.initial.out)
