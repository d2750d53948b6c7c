-- `text_reading::inner::narrow` meets its contract. The invariant: the first i numbers are written. Assumes nothing.
use Rattle.std.proofs.Common.{◌≡◌}
use Rattle.base.specs.Lists.{written}
use Rattle.text_reading.proofs.inner.narrow.Given as goal

abbrev pub invariant-loop-i : goal.invariant-loop-i
invariant-loop-i l = l.out ≡ written l.i l.list l.initial.out
