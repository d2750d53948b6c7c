-- `text_reading::inner::read_line` meets its contract. Assumes nothing.
use Rattle.std.proofs.Common.{◌&&◌, List, ℕ, length, take, drop, ap, ap₂, ◌∙◌}
use Rattle.base.specs.Lists.{same_list}
use Rattle.text_writing.specs.Text.{newline}
use Rattle.text_reading.specs.Reading.{is_line, value_of}
use Rattle.text_reading.proofs.Parts.{behind-none}
use Rattle.text_reading.proofs.Lines.{same_start, rest-from, seen-some, seen-or}
use Rattle.text_reading.proofs.inner.read_line.Goals as goal

pub returns-clause-good : goal.returns-clause-good
unfolding is_line
returns-clause-good c =
    let key = c.args.key.now in
    ap₂ ◌&&◌
    (c.is_some.ensures ∙ seen-some _ _ _ _ c.cut.ensures.back)
    (c.starts_with.ensures.value ∙ same_start _ key ∙ ap (λ (l : List ℕ). same_list (take (length key) l) key) c.cut.ensures.front)

pub returns-clause-value : goal.returns-clause-value
unfolding value_of
returns-clause-value c =
    let n = length c.args.key.now in
    rest-from n c.min-from.result c.cut.result.0.now c.min-from.ensures ∙ ap (drop n) c.cut.ensures.front

pub returns-clause-rest : goal.returns-clause-rest
returns-clause-rest c = seen-or _ _ _ _ _ _ c.cut.ensures.back (behind-none newline c.args.text.now) c.unwrap_or_default.ensures
