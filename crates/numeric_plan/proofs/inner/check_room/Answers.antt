-- `numeric_plan::inner::check_room` meets its contract. Assumes nothing.
use mathlib.Core.Path.{sym, ◌∙◌}
use Rattle.base.proofs.Checks.{handed, group-stop}
use Rattle.numeric_plan.specs.Steps.{plan_room_for}
use Rattle.numeric_plan.proofs.inner.check_room.Goals as goal

pub returns-in_err-check_room : goal.returns-in_err-check_room
unfolding plan_room_for
returns-in_err-check_room c = handed _ _ c.from_residual.ensures.1 ∙ group-stop _ _ _ (sym c.check_room.ensures ∙ c.in_err-check_room.was)
