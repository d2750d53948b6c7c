-- `side::AbtmTopology::validate` meets its contract. Assumes nothing.
use Rattle.std.proofs.Common.{sym, ap, ◌∙◌}
use Rattle.base.proofs.Checks.{handed, group-pass, group-stop}
use Rattle.side.specs.Check.{fault_check, side_check}
use Rattle.side.proofs.Accepted.{limits_passed}
use Rattle.side.proofs.AbtmTopology.validate.Goals as goal

pub fault-requires : goal.fault-requires
fault-requires c = let w = limits_passed _ _ _ _ _ (sym c.check_limits.ensures ∙ c.in_ok-check_limits.was) in (w.few_rows, w.few_cols, w.few_words)

pub returns-in_err-check_limits-clause-value : goal.returns-in_err-check_limits-clause-value
unfolding side_check
returns-in_err-check_limits-clause-value c = handed _ _ c.from_residual.ensures.1 ∙ group-stop _ _ _ (sym c.check_limits.ensures ∙ c.in_err-check_limits.was)

pub returns-in_err-fault-clause-value : goal.returns-in_err-fault-clause-value
unfolding side_check fault_check
returns-in_err-fault-clause-value c = handed _ _ c.from_residual-in_err-fault.ensures.1 ∙ group-pass _ _ _ (sym c.check_limits.ensures ∙ c.in_ok-check_limits.was) (ap fault_check (sym c.in_err-fault.was ∙ c.fault.ensures.value))

pub returns-clause-value : goal.returns-clause-value
unfolding side_check fault_check
returns-clause-value c = group-pass _ _ _ (sym c.check_limits.ensures ∙ c.in_ok-check_limits.was) (ap fault_check (sym c.in_ok-fault.was ∙ c.fault.ensures.value))

pub returns-clause-accepted : goal.returns-clause-accepted
returns-clause-accepted c = c.in_ok-fault.ensures.sound (limits_passed _ _ _ _ _ (sym c.check_limits.ensures ∙ c.in_ok-check_limits.was)).few_pairs
