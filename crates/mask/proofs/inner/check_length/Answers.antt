use Rattle.std.proofs.Common.{refl}
use Rattle.base.proofs.Checks.{length-refuses}
use Rattle.mask.specs.Mask.{length_check}
use Rattle.mask.proofs.inner.check_length.Goals as goal

pub returns-in_err-must_be-clause-value : goal.returns-in_err-must_be-clause-value
unfolding length_check
returns-in_err-must_be-clause-value c =
    length-refuses _ _ _ _ _ _ _ c.must_be.ensures.value refl c.in_err-must_be.was c.from_residual.ensures.1
