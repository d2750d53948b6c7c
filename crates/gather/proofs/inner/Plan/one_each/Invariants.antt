-- `gather::inner::Plan::one_each` meets its contract. The scan's invariant: no step differs from one so far exactly where the pointers so far pass.
-- Assumes nothing.
use mathlib.Core.Path.{◌≡◌}
use lib.Dec.{eqb}
use lib.ListN.{take}
use Rattle.gather.specs.Gather.{is_one_each}
use Rattle.gather.proofs.inner.Plan.one_each.Given as goal

abbrev pub invariant-loop-i : goal.invariant-loop-i
invariant-loop-i l = eqb l.other 0 ≡ is_one_each (take l.i l.self.ptr.now)
