-- `gather::inner::Plan::sum_pairs` meets its contract. The invariant: the sums of the first pairs stand over the front of the lent list. Assumes
-- nothing.
use mathlib.Core.Path.{◌≡◌}
use Rattle.base.specs.Lists.{written}
use Rattle.gather.specs.Gather.{summed}
use Rattle.gather.proofs.inner.Plan.sum_pairs.Given as goal

abbrev pub invariant-loop-i : goal.invariant-loop-i
invariant-loop-i l = l.out ≡ written l.i (summed l.self.ptr.now l.self.sources.now l.self.values.now) l.initial.out
