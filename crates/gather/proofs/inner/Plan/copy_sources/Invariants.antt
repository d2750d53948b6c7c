-- `gather::inner::Plan::copy_sources` meets its contract. The invariant: the values of the first sources stand over the front of the lent list.
-- Assumes nothing.
use mathlib.Core.Path.{◌≡◌}
use Rattle.base.specs.Lists.{written}
use Rattle.gather.specs.Gather.{values_of}
use Rattle.gather.proofs.inner.Plan.copy_sources.Given as goal

abbrev pub invariant-loop-i : goal.invariant-loop-i
invariant-loop-i l = l.out ≡ written l.i (values_of l.self.values.now l.self.sources.now) l.initial.out
