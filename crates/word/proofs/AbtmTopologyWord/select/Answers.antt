-- `word::AbtmTopologyWord::select` meets its contract. Assumes nothing.
use Rattle.std.proofs.Common.{refl, arith, rules}
use native.Mathlib.Nat.{lt_of_le_of_lt}
use lib.Bits.{and_le_l}
use Rattle.base.proofs.Sets.{count-members}
use Rattle.word.specs.Bits.{bit_at}
use Rattle.word.proofs.Answers.{bits_left, select-turn, select-none, select-at}
use Rattle.word.proofs.AbtmTopologyWord.select.Goals as goal

pub returns-then-ordinal-popcount : goal.returns-then-ordinal-popcount
returns-then-ordinal-popcount c = select-none _ _ _ c.popcount.ensures c.if-ordinal-popcount.true

pub loop-init : goal.loop-init
loop-init c = (search rules, refl)

pub overflow_sub-bits : goal.overflow_sub-bits
overflow_sub-bits c = bits_left c.loop.bits c.loop.counter c.args.self.mask c.loop.invariant.1 (omega (arith, c.popcount.ensures, count-members 64 (bit_at c.args.self.mask)))

pub loop-preserved : goal.loop-preserved
loop-preserved c = (
  lt_of_le_of_lt (and_le_l c.loop.bits _) c.loop.invariant.0,
  select-turn c.args.self.mask c.loop.counter _ c.loop.invariant.0 c.loop.invariant.1 (omega (arith, c.popcount.ensures, count-members 64 (bit_at c.args.self.mask))),
)

pub returns : goal.returns
returns c =
    select-at c.args.self.mask c.args.ordinal c.loop.counter _
    c.loop.invariant.0 c.loop.invariant.1 (omega arith)
    (omega (arith, c.popcount.ensures, count-members 64 (bit_at c.args.self.mask)))
