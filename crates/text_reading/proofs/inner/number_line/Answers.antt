-- `text_reading::inner::number_line` meets its contract. Assumes nothing.
use Rattle.std.proofs.Common.{ap, ap₂, ◌∙◌}
use Rattle.std.specs.Option.{ok_or}
use Rattle.text_reading.specs.Reading.{number_read, held}
use Rattle.text_reading.proofs.Numbers.{number-told}
use Rattle.text_reading.proofs.Lines.{held-told}
use Rattle.text_reading.proofs.inner.number_line.Goals as goal

pub returns-clause-number : goal.returns-clause-number
returns-clause-number c =
    let most = c.args.most in
    c.holding.ensures.read
    ∙ ap₂ held c.read_line-line.ensures.good
    (c.ok_or.ensures.value ∙ ap (λ o. ok_or o 0) (c.read_number.ensures ∙ ap (number_read most) c.read_line-line.ensures.value) ∙ number-told most _)
    ∙ held-told _ _ _
