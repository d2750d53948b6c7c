-- `pattern::inner::Local::of` meets its contract. Assumes nothing.
use Rattle.std.proofs.Common.{◌≡◌, refl, sym, ◌∙◌, subst, ℕ, Ok, Err, IfErr}
use Rattle.base.proofs.Checks.{handed, group-pass, group-stop, last-pass, last-stop}
use borrow.Author.Tests.{eq-eqb, ne_eqb}
use Rattle.dual_topology.specs.Check.{square_topology}
use Rattle.pattern.specs.Pattern.{region_check}
use Rattle.pattern.specs.Views.{check_local}
use Rattle.pattern.proofs.inner.Local.of.Goals as goal

squared : (n m : ℕ) → n ≡ m → square_topology (Ok tt) n m ≡ Ok tt
squared n m e = sym (group-pass _ _ _ refl (last-pass _ _ _ (eq-eqb n m e) refl))

pub returns-then-rows-clause-refused : goal.returns-then-rows-clause-refused
unfolding region_check
returns-then-rows-clause-refused c = sym (group-stop _ _ _ (sym (group-pass _ _ _ refl (last-stop _ _ _ (ne_eqb _ _ c.if-rows.true) refl))))

pub returns-in_err-region-clause-refused : goal.returns-in_err-region-clause-refused
unfolding region_check
returns-in_err-region-clause-refused c =
    subst (λ r. IfErr r (λ e. check_local c.args.rows c.args.region ≡ Err e)) (sym (handed _ _ c.from_residual.ensures.1))
    (sym (group-pass _ _ _ (squared c.args.rows.nrows c.args.rows.ncols c.if-rows.false) (sym c.in_err-region.ensures.refused)))

pub returns-clause-accepted : goal.returns-clause-accepted
unfolding region_check
returns-clause-accepted c =
    let a = c.in_ok-region.ensures.accepted in
    (sym (group-pass _ _ _ (squared c.args.rows.nrows c.args.rows.ncols c.if-rows.false) (sym a.0)), sym c.if-rows.false, (refl, a.2.0 ∙ a.1, a.2.1))
