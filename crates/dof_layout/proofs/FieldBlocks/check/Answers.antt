-- Each of the three lengths that refuses, behind what was passed before it. Assumes nothing.
use Rattle.std.proofs.Common.{refl, ap, not, ne_eqb, eq-eqb}
use Rattle.base.proofs.Checks.{pass, length-pass, length-refuses}
use Rattle.dof_layout.specs.Layout.{blocks_check}
use Rattle.dof_layout.proofs.FieldBlocks.check.Goals as goal

pub returns-in_err-must_be : goal.returns-in_err-must_be
unfolding blocks_check
returns-in_err-must_be c =
    pass _ _ _ _ (ap not (ne_eqb _ _ c.if-count-eq0.false))
    (length-refuses _ _ _ _ _ _ _ c.must_be.ensures.value refl c.in_err-must_be.was c.from_residual.ensures.1)

pub returns-in_err-must_be-2 : goal.returns-in_err-must_be-2
unfolding blocks_check
returns-in_err-must_be-2 c =
    pass _ _ _ _ (ap not (ne_eqb _ _ c.if-count-eq0.false))
    (length-pass _ _ _ _ (eq-eqb _ _ c.in_ok-must_be.ensures.accepted)
    (length-refuses _ _ _ _ _ _ _ c.must_be-2.ensures.value refl c.in_err-must_be-2.was c.from_residual-in_err-must_be-2.ensures.1))

pub returns-in_err-must_be-3 : goal.returns-in_err-must_be-3
unfolding blocks_check
returns-in_err-must_be-3 c =
    pass _ _ _ _ (ap not (ne_eqb _ _ c.if-count-eq0.false))
    (length-pass _ _ _ _ (eq-eqb _ _ c.in_ok-must_be.ensures.accepted)
    (length-pass _ _ _ _ (eq-eqb _ _ c.in_ok-must_be-2.ensures.accepted)
    (length-refuses _ _ _ _ _ _ _ c.must_be-3.ensures.value refl c.in_err-must_be-3.was c.from_residual-in_err-must_be-3.ensures.1)))
