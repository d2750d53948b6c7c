-- `claims::check` meets its contract. Assumes nothing.
use mathlib.Core.Path.{sym, ◌∙◌}
use Rattle.base.proofs.Checks.{handed, group-pass, group-stop, then-assoc}
use Rattle.claims.specs.Run.{field_run_check}
use Rattle.claims.proofs.Checking.{same-arrays}
use Rattle.claims.proofs.check.Goals as goal

pub returns-in_err-compared : goal.returns-in_err-compared
unfolding field_run_check
returns-in_err-compared g c = handed _ _ c.from_residual.ensures.1 ∙ group-stop _ _ _ c.in_err-compared.ensures.refused ∙ then-assoc _ _ _

pub returns-in_err-check : goal.returns-in_err-check
unfolding field_run_check
returns-in_err-check g c =
    let a = c.in_ok-compared.ensures.accepted in
    handed _ _ c.from_residual-in_err-check.ensures.1 ∙ group-pass _ _ _ a.0 (group-pass _ _ _ a.1 (group-stop _ _ _ (sym c.check.ensures ∙ c.in_err-check.was)))

pub returns : goal.returns
unfolding field_run_check
returns g c =
    let a = c.in_ok-compared.ensures.accepted in
    group-pass _ _ _ a.0 (group-pass _ _ _ a.1 (group-pass _ _ _ (sym c.check.ensures ∙ c.in_ok-check.was) (c.check_lists.ensures ∙ same-arrays c.args.topology c.args.matrix c.in_ok-compared.compared.rows c.in_ok-compared.compared.matrix a.2 a.3 _ _ _ _)))
