use Rattle.std.proofs.Common.{sym, le_refl, ◌∙◌, arith}
use Rattle.side.proofs.AtRow.{long, words-held}
use Rattle.side.proofs.Holding.{holds_at}
use Rattle.agreement.proofs.inner.holds.Goals as goal

pub returns-then-column-row : goal.returns-then-column-row
returns-then-column-row c =
    let m = c.args.column.accepted in
    c.bit.ensures ∙ sym (holds_at _ _ 0 _ (omega arith) (long _ _ _ m) (le_refl _) m.row.rising 0 _ (le_refl 0) c.if-column-gt0.true c.if-column-row.true)

pub returns : goal.returns
returns c = c.contains.ensures ∙ words-held _ _ _ c.args.column.accepted _
