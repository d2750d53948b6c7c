-- `dual_topology::AbtmDualTopology::fault` meets its contract. Assumes nothing.
use Rattle.std.proofs.Common.{sym, ◌∙◌}
use Rattle.side.proofs.Accepted.{if-sound}
use Rattle.dual_topology.specs.Check.{topology_fault}
use Rattle.dual_topology.proofs.Accepted.{first_next, first_handed, agreed-topology}
use Rattle.dual_topology.proofs.AbtmDualTopology.fault.Goals as goal

pub returns-in_err-fault-clause-value : goal.returns-in_err-fault-clause-value
unfolding topology_fault
returns-in_err-fault-clause-value c = first_handed _ _ _ _ (sym c.fault.ensures.value ∙ c.in_err-fault.was) c.from_residual.ensures.1

pub returns-in_err-fault-2-clause-value : goal.returns-in_err-fault-2-clause-value
unfolding topology_fault
returns-in_err-fault-2-clause-value c =
    first_handed _ _ _ _ (sym c.fault-2.ensures.value ∙ c.in_err-fault-2.was) c.from_residual-in_err-fault-2.ensures.1
    ∙ sym (first_next _ _ (sym c.fault.ensures.value ∙ c.in_ok-fault.was))

pub returns-clause-value : goal.returns-clause-value
unfolding topology_fault
returns-clause-value c =
    c.agreement.ensures ∙ sym (first_next _ _ (sym c.fault-2.ensures.value ∙ c.in_ok-fault-2.was)) ∙ sym (first_next _ _ (sym c.fault.ensures.value ∙ c.in_ok-fault.was))

pub returns-clause-sound : goal.returns-clause-sound
returns-clause-sound c =
    if-sound _
    (λ e.
    let r = c.in_ok-fault.ensures.sound c.requires.0.3 in
    let d = c.in_ok-fault-2.ensures.sound c.requires.1.3 in
    let a = agreed-topology _ _ _ _ _ _ _ _ _ _ _ _ r.0 r.1 d.0 (sym c.agreement.ensures ∙ e) in
    record { topology = a.topology; as_rows = a.as_rows; as_columns = a.as_columns; as_pairs = a.as_pairs; counted = a.counted })
