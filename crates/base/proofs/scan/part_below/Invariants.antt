use Rattle.std.proofs.Common.{◌≡◌, take}
use Rattle.base.specs.Lists.{every, below}
use Rattle.base.proofs.scan.part_below.Given as goal

abbrev pub invariant-loop-x : goal.invariant-loop-x
invariant-loop-x g l = l.all ≡ every (λ x. below l.bound (g.T.Number.value x)) (take l.x-index l.s)
