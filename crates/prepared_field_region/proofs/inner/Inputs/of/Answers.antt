-- `prepared_field_region::inner::Inputs::of` meets its contract. Assumes nothing.
use Rattle.std.proofs.Common.{◌≡◌, sym, ap, ap₂, ◌∙◌, subst, ℕ, Ok, Err, IfErr}
use Rattle.base.proofs.Checks.{handed, group-pass, group-stop}
use Rattle.mask.specs.Mask.{length_check}
use Rattle.dof_layout.specs.Layout.{total_of}
use Rattle.dof_layout.specs.Views.{check_square}
use Rattle.prepared_field_region.specs.Prepared.{prepare_inputs}
use Rattle.prepared_field_region.specs.Views.{check_lent}
use Rattle.prepared_field_region.proofs.inner.Inputs.of.Goals.{In_ok-matrix, In_ok-layout}
use Rattle.prepared_field_region.proofs.inner.Inputs.of.Goals as goal

-- the layout is checked against the matrix as it was lent
squared : (c : In_ok-matrix) → check_square c.args.layout c.args.matrix.nrows c.args.matrix.ncols ≡ check_square c.args.layout c.in_ok-matrix.matrix.nrows c.in_ok-matrix.matrix.ncols
squared c =
    let a = c.in_ok-matrix.ensures.accepted.1 in
    sym (ap₂ (λ (x y : ℕ). check_square c.args.layout x y) a.0 a.1)

lent : (c : In_ok-layout) → check_square c.args.layout c.args.matrix.nrows c.args.matrix.ncols ≡ Ok tt
lent c = squared (goal.at.In_ok-layout c).In_ok-matrix ∙ c.in_ok-layout.ensures.accepted.0

pub invariant_of-result : goal.invariant_of-result
invariant_of-result c =
    let q = c.in_ok-layout.ensures.accepted in
    let s = c.in_ok-seeds.ensures.accepted in
    record { square = q.2 ∙ sym q.1; sized = q.1 ∙ sym (ap (λ x. total_of x.now) q.3.0); alike = s.2.0 ∙ s.1 }

pub returns-in_err-matrix-clause-refused : goal.returns-in_err-matrix-clause-refused
unfolding prepare_inputs
returns-in_err-matrix-clause-refused c =
    subst (λ r. IfErr r (λ e. check_lent c.args.matrix c.args.layout c.args.seeds ≡ Err e)) (sym (handed _ _ c.from_residual.ensures.1))
    (sym (group-stop _ _ _ c.in_err-matrix.ensures.refused))

pub returns-in_err-layout-clause-refused : goal.returns-in_err-layout-clause-refused
unfolding prepare_inputs
returns-in_err-layout-clause-refused c =
    subst (λ r. IfErr r (λ e. check_lent c.args.matrix c.args.layout c.args.seeds ≡ Err e)) (sym (handed _ _ c.from_residual-in_err-layout.ensures.1))
    (sym (group-pass _ _ _ c.in_ok-matrix.ensures.accepted.0 (group-stop _ _ _ (squared (goal.at.returns-in_err-layout-clause-refused c).In_ok-matrix ∙ c.in_err-layout.ensures.refused))))

pub returns-in_err-seeds-clause-refused : goal.returns-in_err-seeds-clause-refused
unfolding prepare_inputs
returns-in_err-seeds-clause-refused c =
    subst (λ r. IfErr r (λ e. check_lent c.args.matrix c.args.layout c.args.seeds ≡ Err e)) (sym (handed _ _ c.from_residual-in_err-seeds.ensures.1))
    (sym (group-pass _ _ _ c.in_ok-matrix.ensures.accepted.0 (group-pass _ _ _ (lent (goal.at.returns-in_err-seeds-clause-refused c).In_ok-layout)
    (sym (ap (λ (x : ℕ). length_check x c.args.seeds.len c.args.seeds.words.now) (sym c.in_ok-matrix.ensures.accepted.1.0) ∙ c.in_err-seeds.ensures.refused)))))

pub returns-clause-accepted : goal.returns-clause-accepted
unfolding prepare_inputs
returns-clause-accepted c =
    let m = c.in_ok-matrix.ensures.accepted in
    let s = c.in_ok-seeds.ensures.accepted in (
      sym (group-pass _ _ _ m.0 (group-pass _ _ _ (lent (goal.at.returns-clause-accepted c).In_ok-layout)
          (sym (ap (λ (x : ℕ). length_check x c.args.seeds.len c.args.seeds.words.now) (sym m.1.0) ∙ s.0)))),
      (m.1, c.in_ok-layout.ensures.accepted.3, s.2),
    )
