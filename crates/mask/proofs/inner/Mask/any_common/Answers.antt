-- `mask::inner::Mask::any_common` meets its contract. Assumes nothing.
use Rattle.std.proofs.Common.{arith}
use Rattle.mask.proofs.Passes.{common-some, common-none}
use Rattle.mask.proofs.inner.Mask.any_common.Goals as goal

pub returns-then-word-other-ne0 : goal.returns-then-word-other-ne0
returns-then-word-other-ne0 c = common-some _ _ c.args.self.accepted _ _ c.loop-w-test.true c.if-word-other-ne0.true

pub returns : goal.returns
returns c = common-none _ _ c.args.self.accepted _ (λ w h. c.loop-w.invariant w (omega arith))
