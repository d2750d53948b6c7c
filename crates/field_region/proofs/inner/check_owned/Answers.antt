-- `field_region::inner::check_owned` meets its contract. Assumes nothing.
use Rattle.std.proofs.Common.{sym, ap, ◌∙◌, not}
use borrow.Author.Tests.{eq-eqb, ne_eqb}
use Rattle.base.proofs.Checks.{handed, pass, length-pass, length-refuses, group-stop}
use Rattle.field_region.specs.Owners.{owned_check}
use Rattle.field_region.proofs.inner.check_owned.Goals as goal

pub returns-in_err-must_be : goal.returns-in_err-must_be
unfolding owned_check
returns-in_err-must_be c =
    length-refuses _ _ _ _ _ _ _ c.must_be.ensures.value c.total-total.ensures c.in_err-must_be.was c.from_residual.ensures.1

pub returns-in_err-check_blocks : goal.returns-in_err-check_blocks
unfolding owned_check
returns-in_err-check_blocks c =
    handed _ _ c.from_residual-in_err-check_blocks.ensures.1
    ∙ length-pass _ _ _ _ (eq-eqb _ _ (c.in_ok-must_be.ensures.accepted ∙ c.total-total.ensures)) (pass _ _ _ _ (ap not (ne_eqb _ _ c.if-ranks-eq0.false)) (group-stop _ _ _ (sym c.check_blocks.ensures ∙ c.in_err-check_blocks.was)))
