-- `dual_topology::AbtmDualTopology::agreement` meets its contract. Assumes nothing.
use mathlib.Core.Path.{◌≡◌, sym, ap, ◌∙◌}
use mathlib.Core.Bool.{Bool, cond}
use Rattle.std.specs.Prelude.{Ok, Err}
use Rattle.base.proofs.Bools.{both_ways}
use Rattle.side.specs.declared.Fault.{Fault}
use Rattle.side.specs.Views.{holds}
use Rattle.side.proofs.Accepted.{side-as}
use Rattle.agreement.specs.Agreement.{turned}
use Rattle.dual_topology.proofs.Accepted.{agreed, agreeing, not-agreed}
use Rattle.dual_topology.proofs.AbtmDualTopology.agreement.Goals.{After-is_transpose, then-columns-rows-via-then-columns-rows, then-columns-rows-via-else-columns-rows+then-columns-rows-2, then-columns-rows-via-else-columns-rows+else-columns-rows-2+then-columns-rows-3}
use Rattle.dual_topology.proofs.AbtmDualTopology.agreement.Goals as goal

pub returns-then-columns-rows : goal.returns-then-columns-rows
returns-then-columns-rows c = not-agreed _ _ _ _ _ _ _ _ _ _ _ _
    (λ e. let a = agreed _ _ _ _ _ _ _ _ _ _ _ _ e in elim c.then-columns-rows.branch [ then-columns-rows-via-then-columns-rows w ↦ w.if-columns-rows.true a.0 | then-columns-rows-via-else-columns-rows+then-columns-rows-2 w ↦ w.if-columns-rows-2.true a.1 | then-columns-rows-via-else-columns-rows+else-columns-rows-2+then-columns-rows-3 w ↦ w.if-columns-rows-3.true a.2 ])

pub as_side-requires : goal.as_side-requires
as_side-requires c = c.requires.0.0

pub as_side-requires-2 : goal.as_side-requires-2
as_side-requires-2 c = c.requires.1.0

pub invariant_of-sides : goal.invariant_of-sides
invariant_of-sides c =
    let e = c.as_side.ensures in
    let d = c.as_side-2.ensures in
    record { turned = rw (e.0, e.1, d.2, d.3, d.4) (side-as _ _ _ _ _ _ _ c.if-columns-rows.false c.if-columns-rows-2.false c.requires.1.0) }

pub is_transpose-requires : goal.is_transpose-requires
is_transpose-requires c = rw (c.as_side.ensures.4, c.as_side-2.ensures.4) (sym c.requires.0.1 ∙ sym c.if-columns-rows-3.false ∙ c.requires.1.1)

turn : (c : After-is_transpose) → c.is_transpose.result ≡ turned c.args.self.rows.nrows c.args.self.rows.ncols (holds c.args.self.rows) (holds c.args.self.columns)
turn c =
    let e = c.as_side.ensures in
    let d = c.as_side-2.ensures in
    rw (e.0, e.1, e.2, e.3, e.4, d.2, d.3, d.4) at c.is_transpose.ensures

pub returns-then-not-is_transpose : goal.returns-then-not-is_transpose
returns-then-not-is_transpose c =
    let w = goal.at.returns-then-not-is_transpose c in
    not-agreed _ _ _ _ _ _ _ _ _ _ _ _ (λ e. both_ways _ (agreed _ _ _ _ _ _ _ _ _ _ _ _ e).3 (sym (turn w.After-is_transpose) ∙ c.if-not-is_transpose.true))

pub returns : goal.returns
returns c =
    let w = goal.at.returns c in
    sym (ap (λ (b : Bool). cond b (Ok tt) (Err Fault.Disagree)) (agreeing _ _ _ _ _ _ _ _ _ _ _ _ c.if-columns-rows.false c.if-columns-rows-2.false c.if-columns-rows-3.false (sym (turn w.After-is_transpose) ∙ c.if-not-is_transpose.false)))
