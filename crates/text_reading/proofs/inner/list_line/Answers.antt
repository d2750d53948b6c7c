-- `text_reading::inner::list_line` meets its contract. Assumes nothing.
use Rattle.std.proofs.Common.{sym, ap, ap₂, ◌∙◌}
use Rattle.text_reading.specs.Reading.{told, is_list, list_read, value_of, held}
use Rattle.text_reading.proofs.Fields.{list_length}
use Rattle.text_reading.proofs.Lines.{held-told}
use Rattle.text_reading.proofs.inner.list_line.Goals as goal

pub returns-clause-count : goal.returns-clause-count
returns-clause-count g c =
    let most = c.args.most in
    let value = value_of c.args.key.now c.args.text.now in
    c.holding.ensures.read
    ∙ ap₂ held c.read_line-line.ensures.good
    (c.read_list.ensures.count ∙ ap (list_read most) c.read_line-line.ensures.value ∙ ap (told (is_list most value)) (sym (list_length most value)))
    ∙ held-told _ _ _
