use Rattle.std.proofs.Common.{ℕ, Bool, refl, sym, ◌∙◌, arith, rules, tests}
use Rattle.std.proofs.lemmas.Iterator.{YieldsList-from_range}
use Rattle.std.proofs.lemmas.Iterator.Search.{all_from_yields_List}
use Rattle.side.specs.Side.{flip}
use Rattle.side.specs.Views.{pairs}
use Rattle.side.proofs.Sides.{own-pairs}
use Rattle.agreement.specs.Agreement.{within}
use Rattle.base.proofs.Passes.{every-range}
use Rattle.agreement.proofs.Turned.{turned_rows}
use Rattle.agreement.proofs.inner.Sides.is_transpose.Goals as goal

pub returns : goal.returns
returns c =
    let s = c.args.self in
    let turned-row : ℕ → Bool = λ row. within s.rows.ncols (pairs s.rows row) (flip (pairs s.columns) row) in
    all_from_yields_List turned-row _ _ _ c.all.ensures.ran (YieldsList-from_range 0 s.rows.nrows s.rows.nrows refl (omega arith)) (λ x b q k. search (rules, tests))
    ∙ every-range turned-row s.rows.nrows
    ∙ sym (turned_rows _ _ _ _ (sym (own-pairs _ _ _ _ _ s.rows.accepted) ∙ c.requires ∙ own-pairs _ _ _ _ _ s.turned))
