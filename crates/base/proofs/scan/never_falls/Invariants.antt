use Rattle.std.proofs.Common.{◌≡◌, ◌-◌, drop}
use Rattle.base.specs.Lists.{rising}
use Rattle.base.proofs.scan.never_falls.Given as goal

abbrev pub invariant-loop-i : goal.invariant-loop-i
invariant-loop-i l = rising l.s ≡ rising (drop (l.i - 1) l.s)
