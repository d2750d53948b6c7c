-- `dual_topology::AbtmDualTopology::validate` meets its contract. Assumes nothing.
use Rattle.std.proofs.Common.{sym, ap, ◌∙◌}
use Rattle.base.proofs.Checks.{handed, group-pass, group-stop}
use Rattle.side.specs.Check.{fault_check}
use Rattle.side.proofs.Accepted.{limits_passed}
use Rattle.dual_topology.specs.Check.{topology_check}
use Rattle.dual_topology.proofs.AbtmDualTopology.validate.Goals as goal

pub fault-requires : goal.fault-requires
fault-requires c =
    let w = limits_passed _ _ _ _ _ (sym c.check_limits.ensures ∙ c.in_ok-check_limits.was) in
    let w2 = limits_passed _ _ _ _ _ (sym c.check_limits-2.ensures ∙ c.in_ok-check_limits-2.was) in
    ((w.few_rows, w.few_cols, w.few_words, w.few_pairs), (w2.few_rows, w2.few_cols, w2.few_words, w2.few_pairs))

pub returns-in_err-check_limits-clause-value : goal.returns-in_err-check_limits-clause-value
unfolding topology_check
returns-in_err-check_limits-clause-value c = handed _ _ c.from_residual.ensures.1 ∙ group-stop _ _ _ (sym c.check_limits.ensures ∙ c.in_err-check_limits.was)

pub returns-in_err-check_limits-2-clause-value : goal.returns-in_err-check_limits-2-clause-value
unfolding topology_check
returns-in_err-check_limits-2-clause-value c = handed _ _ c.from_residual-in_err-check_limits-2.ensures.1 ∙ group-pass _ _ _ (sym c.check_limits.ensures ∙ c.in_ok-check_limits.was) (group-stop _ _ _ (sym c.check_limits-2.ensures ∙ c.in_err-check_limits-2.was))

pub returns-clause-value : goal.returns-clause-value
unfolding topology_check fault_check
returns-clause-value c =
    group-pass _ _ _ (sym c.check_limits.ensures ∙ c.in_ok-check_limits.was)
    (group-pass _ _ _ (sym c.check_limits-2.ensures ∙ c.in_ok-check_limits-2.was) (ap fault_check (sym c.in_ok-fault.was ∙ c.fault.ensures.value)))
