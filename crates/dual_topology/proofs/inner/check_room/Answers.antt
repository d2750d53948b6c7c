-- `dual_topology::inner::check_room` meets its contract. Assumes nothing.
use mathlib.Core.Path.{sym, ◌∙◌}
use Rattle.base.proofs.Checks.{handed}
use Rattle.base.proofs.Checks.{group-pass, group-stop}
use Rattle.dual_topology.proofs.inner.check_room.Goals as goal

pub returns-in_err-check_room : goal.returns-in_err-check_room
returns-in_err-check_room c = handed _ _ c.from_residual.ensures.1 ∙ group-stop _ _ _ (sym c.check_room.ensures ∙ c.in_err-check_room.was)

pub returns-in_err-check_room-2 : goal.returns-in_err-check_room-2
returns-in_err-check_room-2 c = handed _ _ c.from_residual-in_err-check_room-2.ensures.1 ∙ group-pass _ _ _ (sym c.check_room.ensures ∙ c.in_ok-check_room.was) (group-stop _ _ _ (sym c.check_room-2.ensures ∙ c.in_err-check_room-2.was))
