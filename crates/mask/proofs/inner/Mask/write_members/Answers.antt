-- `mask::inner::Mask::write_members` meets its contract. Assumes nothing.
use Rattle.std.proofs.Common.{arith}
use Rattle.base.proofs.Sets.{count-members}
use Rattle.mask.specs.Mask.{in_mask}
use Rattle.mask.proofs.Passes.{written-start, written-open, written-room, written-turn, written-done, written-end}
use Rattle.mask.proofs.inner.Mask.write_members.Goals as goal

pub loop-w-init : goal.loop-w-init
loop-w-init c = written-start _ _ _ c.args.self.accepted

pub loop-bit-init : goal.loop-bit-init
loop-bit-init c = rw (c.into_iter-bit-iterator.ensures.into_iter_gives, c.of-bit-items.ensures) (written-open _ _ _ _ _ _ c.loop-w-test.true c.loop-w.invariant)

pub bounds-out-n : goal.bounds-out-n
bounds-out-n c =
    omega (arith, written-room _ _ _ _ _ _ _ c.loop-bit.invariant _ _ c.in-Some.ensures.steps, count-members c.args.self.len (in_mask c.args.self.words.now))

pub loop-bit-preserved : goal.loop-bit-preserved
loop-bit-preserved c =
    written-turn _ _ _ _ _ _ _ c.loop-bit.invariant _ _ c.in-Some.ensures.steps (omega (arith, count-members c.args.self.len (in_mask c.args.self.words.now)))

pub loop-w-preserved : goal.loop-w-preserved
loop-w-preserved c = written-done _ _ _ _ _ _ _ c.loop-bit.invariant c.in-None.ensures.steps.0

pub returns : goal.returns
returns c = written-end _ _ _ _ _ _ c.loop-w-test.false c.loop-w.invariant
