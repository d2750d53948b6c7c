use Rattle.std.proofs.Common.{◌≡◌, ◌+◌}
use Rattle.side.specs.Check.{bits_in}
use Rattle.side.proofs.inner.select.Given as goal

abbrev pub invariant-loop-k : goal.invariant-loop-k
invariant-loop-k l = l.ordinal ≡ bits_in l.masks l.from l.k + l.left
