use Rattle.std.proofs.Common.{sym, ◌∙◌}
use Rattle.std.specs.Prelude.{Err}
use Rattle.base.proofs.Checks.{handed, on-refused, group-stop}
use Rattle.mask.specs.Answers.{indices_check}
use Rattle.mask.proofs.DofMask.indices.Goals as goal

pub returns-in_err-mask-clause-value : goal.returns-in_err-mask-clause-value
unfolding indices_check
returns-in_err-mask-clause-value c = handed _ _ c.from_residual.ensures.1 ∙ on-refused _ _ _ Err (sym (group-stop _ _ _ c.in_err-mask.ensures.refused))
