-- `csr32::all_finite`: the values so far are finite.
use Rattle.std.proofs.Common.{◌≡◌, take}
use Rattle.base.specs.Lists.{every}
use Rattle.csr32.specs.Matrix.{finite}
use Rattle.csr32.proofs.all_finite.Given as goal

abbrev pub invariant-loop-x : goal.invariant-loop-x
invariant-loop-x l = l.all ≡ every finite (take l.x-index l.s)
