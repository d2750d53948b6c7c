-- `claims::inner::compare` meets its contract. Assumes nothing.
use mathlib.Core.Path.{◌≡◌, sym, subst}
use Rattle.std.specs.Prelude.{Err, IfErr}
use Rattle.base.specs.Checks.{◌then◌}
use Rattle.base.proofs.Checks.{handed, group-pass, group-stop}
use Rattle.csr32.specs.Views.{check_matrix}
use Rattle.claims.specs.Run.{sided_topology}
use Rattle.claims.specs.Views.{check_sides}
use Rattle.claims.proofs.inner.compare.Goals as goal

pub returns-in_err-matrix-clause-refused : goal.returns-in_err-matrix-clause-refused
returns-in_err-matrix-clause-refused c =
    subst (λ r. IfErr r (λ e. (check_matrix c.args.matrix then check_sides c.args.topology c.args.matrix) ≡ Err e)) (sym (handed _ _ c.from_residual.ensures.1))
    (sym (group-stop _ _ _ c.in_err-matrix.ensures.refused))

pub returns-in_err-rows-clause-refused : goal.returns-in_err-rows-clause-refused
unfolding sided_topology
returns-in_err-rows-clause-refused c =
    subst (λ r. IfErr r (λ e. (check_matrix c.args.matrix then check_sides c.args.topology c.args.matrix) ≡ Err e)) (sym (handed _ _ c.from_residual-in_err-rows.ensures.1))
    (sym (group-pass _ _ _ c.in_ok-matrix.ensures.accepted.0 (group-stop _ _ _ (sym (group-stop _ _ _ c.in_err-rows.ensures.refused)))))
