-- `text_reading::inner::has_leading_zero` meets its contract. Assumes nothing.
use Rattle.std.proofs.Common.{sym, ◌∙◌, arith}
use borrow.Author.Tests.{le-ltb}
use Rattle.text_reading.proofs.Numbers.{zero-before, zero-alone}
use Rattle.text_reading.proofs.inner.has_leading_zero.Goals as goal

pub returns-then-bytes-gt1 : goal.returns-then-bytes-gt1
returns-then-bytes-gt1 c = zero-before c.args.bytes.now (omega (arith, c.if-bytes-gt1.true))

pub returns-else-bytes-gt1 : goal.returns-else-bytes-gt1
returns-else-bytes-gt1 c =
    let s = c.args.bytes.now in
    le-ltb _ _ (omega (arith, c.if-bytes-gt1.false)) ∙ sym (zero-alone s (omega (arith, c.if-bytes-gt1.false)))
