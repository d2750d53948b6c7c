-- `peak_job::inner::number` meets its contract. The invariant: the places before b hold themselves. Assumes nothing.
use mathlib.Core.Path.{◌≡◌}
use Rattle.base.specs.Lists.{list_from, written}
use Rattle.peak_job.proofs.inner.number.Given as goal

abbrev pub invariant-loop-b : goal.invariant-loop-b
invariant-loop-b l = l.ids ≡ written l.b (list_from (λ k. k) 1024 0) l.initial.ids
