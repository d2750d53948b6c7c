-- `dof_layout::FieldAwareDofLayout::accept_square` meets its contract. Assumes nothing.
use Rattle.std.proofs.Common.{◌≡◌, refl, sym, ap, ap₂, ◌∙◌, subst, Bool, false, ◌&&◌, eqb, eq-eqb, ne_eqb}
use Rattle.std.specs.Prelude.{Err, IfErr}
use Rattle.base.proofs.Checks.{handed, group-pass, group-stop, last-pass, last-stop}
use Rattle.dof_layout.specs.Layout.{total_of}
use Rattle.dof_layout.specs.Answers.{square_check}
use Rattle.dof_layout.specs.Views.{check_square}
use Rattle.dof_layout.proofs.FieldAwareDofLayout.accept_square.Goals.{After-total-total, then-nrows-total-via-then-nrows-total, then-nrows-total-via-else-nrows-total+then-ncols-total}
use Rattle.dof_layout.proofs.FieldAwareDofLayout.accept_square.Goals as goal

-- the total of the layout that is lent
total-is : (c : After-total-total) → c.total-total.result ≡ total_of c.args.self.blocks.components.now
total-is c = c.total-total.ensures ∙ ap (λ x. total_of x.now) c.in_ok-layout.ensures.accepted.2.0

pub returns-then-nrows-total-clause-refused : goal.returns-then-nrows-total-clause-refused
unfolding square_check
returns-then-nrows-total-clause-refused c =
    let s = c.args in
    let T = total_of s.self.blocks.components.now in
    let at = (goal.at.returns-then-nrows-total-clause-refused c).After-total-total in
    let other : (eqb s.nrows T && eqb s.ncols T) ≡ false =
    elim c.then-nrows-total.branch [ then-nrows-total-via-then-nrows-total w ↦ ap (λ (t : Bool). t && eqb s.ncols T) (ne_eqb s.nrows T (λ e. w.if-nrows-total.true (e ∙ sym (total-is at)))) | then-nrows-total-via-else-nrows-total+then-ncols-total w ↦ ap₂ ◌&&◌ (eq-eqb s.nrows T (w.if-nrows-total.false ∙ total-is at)) (ne_eqb s.ncols T (λ e. w.if-ncols-total.true (e ∙ sym (total-is at)))) ] in
    sym (group-pass _ _ _ c.in_ok-layout.ensures.accepted.0 (last-stop _ _ _ other refl))

pub returns-in_err-layout-clause-refused : goal.returns-in_err-layout-clause-refused
unfolding square_check
returns-in_err-layout-clause-refused c =
    subst (λ r. IfErr r (λ e. check_square c.args.self c.args.nrows c.args.ncols ≡ Err e)) (sym (handed c.from_residual.result _ c.from_residual.ensures.1)) (sym (group-stop _ _ _ c.in_err-layout.ensures.refused))

pub returns-clause-accepted : goal.returns-clause-accepted
unfolding square_check
returns-clause-accepted c =
    let s = c.args in
    let T = total_of s.self.blocks.components.now in
    let a = c.in_ok-layout.ensures.accepted in
    let at = (goal.at.returns-clause-accepted c).After-total-total in
    let rows = c.if-nrows-total.false ∙ total-is at in
    let columns = c.if-ncols-total.false ∙ total-is at in
    (sym (group-pass _ _ _ a.0 (last-pass _ _ _ (ap₂ ◌&&◌ (eq-eqb s.nrows T rows) (eq-eqb s.ncols T columns)) refl)), rows, columns, a.2)
