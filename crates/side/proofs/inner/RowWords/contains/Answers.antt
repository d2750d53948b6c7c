-- `side::inner::RowWords::contains` meets its contract. Assumes nothing.
use Rattle.std.proofs.Common.{◌∙◌, arith}
use native.Mathlib.Nat.{le_refl}
use Rattle.side.proofs.AtRow.{long, in_row}
use Rattle.side.proofs.inner.RowWords.contains.Goals as goal

pub contains-requires : goal.contains-requires
contains-requires c =
    let m = c.args.self.accepted in
    (omega arith, long _ _ _ m, le_refl _, m.row.rising, omega (arith, c.if-col-self.false, m.few_cols))

pub returns : goal.returns
returns c = c.contains.ensures ∙ in_row _ _ _ c.if-col-self.false
