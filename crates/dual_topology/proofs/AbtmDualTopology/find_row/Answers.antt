-- `dual_topology::AbtmDualTopology::find_row` meets its contract. Assumes nothing.
use Rattle.std.proofs.Common.{◌≡◌, sym, ◌∙◌, subst, inl, inr, arith, Err, IfErr}
use Rattle.std.specs.Prelude.{Result}
use Rattle.base.specs.declared.Refusal.{Refusal}
use Rattle.side.specs.declared.inner.RowWords.{RowWords}
use Rattle.base.proofs.Checks.{handed, group-stop}
use Rattle.dual_topology.specs.Answers.{row_check}
use Rattle.dual_topology.specs.Views.{check_row}
use Rattle.dual_topology.proofs.Rows.{Named, named-width, named-row, named-past, named-passed}
use Rattle.dual_topology.proofs.AbtmDualTopology.find_row.Goals.{Joined-of, in-Rows, in-Columns}
use Rattle.dual_topology.proofs.AbtmDualTopology.find_row.Goals as goal

named : (c : Joined-of) → let a = c.in_ok-topology.ensures.accepted in Named c.args.self c.in_ok-topology.topology a.1 a.2 c.args.of c.match-of.side
named c = elim c.match-of.branch [ in-Rows w ↦ inl (w.in-Rows.is, w.side-is) | in-Columns w ↦ inr (w.in-Columns.is, w.side-is) ]

pub returns-in_err-topology-clause-refused : goal.returns-in_err-topology-clause-refused
unfolding row_check
returns-in_err-topology-clause-refused c =
    let e = sym (group-stop _ _ _ c.in_err-topology.ensures.refused) in
    subst (λ (r : Result RowWords Refusal). IfErr r (λ x. check_row c.args.self c.args.of c.args.number ≡ Err x)) (sym (handed _ _ c.from_residual.ensures.1)) e

pub returns-then-number-side-clause-refused : goal.returns-then-number-side-clause-refused
returns-then-number-side-clause-refused c =
    let a = c.in_ok-topology.ensures.accepted in
    named-past _ c.in_ok-topology.topology a.1 a.2 _ _ (named (goal.at.returns-then-number-side-clause-refused c).Joined-of) _ (omega (arith, c.if-number-side.true)) a.0

pub returns-clause-found : goal.returns-clause-found
returns-clause-found c =
    let a = c.in_ok-topology.ensures.accepted in
    let n = named (goal.at.returns-clause-found c).Joined-of in
    let inside = c.if-number-side.false in record {
      passed = named-passed _ c.in_ok-topology.topology a.1 a.2 _ _ n _ (omega (arith, inside)) a.0;
      wide = c.row.ensures.wide ∙ named-width _ c.in_ok-topology.topology a.1 a.2 _ _ n;
      columns = c.row.ensures.columns ∙ named-row _ c.in_ok-topology.topology a.1 a.2 _ _ n _ (omega (arith, inside));
    }
