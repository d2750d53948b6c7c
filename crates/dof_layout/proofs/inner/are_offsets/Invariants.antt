-- `dof_layout::inner::are_offsets` meets its contract. The invariant: the offsets so far are the running totals of their blocks. Assumes nothing.
use Rattle.std.proofs.Common.{◌≡◌, ◌<◌, ℕ, get_or, length}
use Rattle.dof_layout.specs.Layout.{start_of}
use Rattle.dof_layout.proofs.inner.are_offsets.Given as goal

abbrev pub invariant-loop-start : goal.invariant-loop-start
invariant-loop-start l = (l.total ≡ start_of l.components (length l.yielded)) × ((a : ℕ) → a < length l.yielded → get_or l.offsets a 0 ≡ start_of l.components a)
