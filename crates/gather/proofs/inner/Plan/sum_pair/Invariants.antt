-- `gather::inner::Plan::sum_pair` meets its contract. The invariant: the sum so far is the sum from 0.0 of the entries so far. Assumes nothing.
use mathlib.Core.Path.{◌≡◌}
use lib.ListN.{take}
use Rattle.gather.specs.Gather.{sum_of}
use Rattle.gather.proofs.inner.Plan.sum_pair.Given as goal

abbrev pub invariant-loop-s : goal.invariant-loop-s
invariant-loop-s l = l.sum ≡ sum_of l.self.values.now (take l.s-index l.s-items)
