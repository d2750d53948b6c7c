-- `growth::inner::Graph::of` meets its contract. Assumes nothing.
use Rattle.std.proofs.Common.{◌≡◌, refl, sym, ◌∙◌, subst, eq-eqb, ne_eqb}
use Rattle.std.specs.Prelude.{Err, IfErr}
use Rattle.base.proofs.Checks.{handed, group-pass, group-stop, last-pass, last-stop}
use Rattle.dual_topology.specs.Views.{check_square_topology}
use Rattle.growth.proofs.inner.Graph.of.Goals as goal

pub returns-in_err-topology-clause-refused : goal.returns-in_err-topology-clause-refused
returns-in_err-topology-clause-refused c =
    subst (λ r. IfErr r (λ e. check_square_topology c.args.topology ≡ Err e)) (sym (handed c.from_residual.result _ c.from_residual.ensures.1)) (sym (group-stop _ _ _ c.in_err-topology.ensures.refused))

pub returns-then-n-topology-clause-refused : goal.returns-then-n-topology-clause-refused
returns-then-n-topology-clause-refused c =
    let a = c.in_ok-topology.ensures.accepted in
    sym (group-pass _ _ _ a.0 (last-stop _ _ _ (ne_eqb _ _ (λ e. c.if-n-topology.true (a.2.0.0 ∙ e ∙ sym a.2.0.1))) refl))

pub invariant_of-result : goal.invariant_of-result
invariant_of-result c = record { square = rw (sym c.if-n-topology.false) at c.in_ok-topology.topology.accepted }

pub returns-clause-accepted : goal.returns-clause-accepted
returns-clause-accepted c =
    let a = c.in_ok-topology.ensures.accepted in
    (sym (group-pass _ _ _ a.0 (last-pass _ _ _ (eq-eqb _ _ (sym a.2.0.0 ∙ c.if-n-topology.false ∙ a.2.0.1)) refl)), a.2.0.0, a.2)
