-- `dof_layout::FieldAwareDofLayout::total_dofs` meets its contract. Assumes nothing.
use Rattle.std.proofs.Common.{ap, ◌∙◌}
use Rattle.std.specs.Prelude.{Ok}
use Rattle.base.proofs.Checks.{on-accepted}
use Rattle.dof_layout.specs.Layout.{total_of}
use Rattle.dof_layout.proofs.FieldAwareDofLayout.total_dofs.Goals as goal

pub returns : goal.returns
returns c =
    let a = c.in_ok-layout.ensures.accepted in
    on-accepted _ _ _ _ a.0 (ap Ok (c.total.ensures ∙ ap (λ x. total_of x.now) a.2.0))
