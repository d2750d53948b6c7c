-- `text_reading::inner::read_digits` meets its contract. Assumes nothing.
use Rattle.std.proofs.Common.{◌+◌, ◌<◌, ◌&&◌, Bool, sym, ap, ◌∙◌, arith, rules}
use Rattle.std.proofs.lemmas.Grind.{common_steps}
use Rattle.std.specs.Bool.{then_some}
use mathlib.Core.Bool.{and-false}
use borrow.Author.Tests.{lt-leb}
use Rattle.base.specs.Lists.{every}
use Rattle.text_reading.specs.Reading.{is_digit, value_from}
use Rattle.text_reading.proofs.Numbers.{value-more, value-front}
use Rattle.text_reading.proofs.inner.read_digits.Goals as goal

pub loop-b-init : goal.loop-b-init
unfolding value_from
loop-b-init c = search rules

pub returns-then-value-most : goal.returns-then-value-most
returns-then-value-most c =
    let bytes = c.args.bytes.now in
    let i = c.loop-b.b-index in
    let large : c.args.most < value_from 0 bytes = omega (arith, value-more 0 bytes i c.loop-b-test.true, value-front 0 bytes (i + 1)) in
    sym (ap (λ (b : Bool). then_some b (value_from 0 bytes)) (ap (λ (b : Bool). every is_digit bytes && b) (lt-leb (value_from 0 bytes) c.args.most large) ∙ and-false (every is_digit bytes)))

pub loop-b-preserved : goal.loop-b-preserved
loop-b-preserved c = grind (arith, common_steps, value-more)
