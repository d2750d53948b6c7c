-- `claims::inner::Compared::check_lists` meets its contract. Assumes nothing.
use mathlib.Core.Path.{refl, sym, ap, ◌∙◌}
use Rattle.std.specs.Prelude.{Err}
use borrow.Author.Tests.{eq-eqb, ne_eqb}
use Rattle.base.proofs.Checks.{handed, group-pass, group-stop}
use Rattle.claims.specs.Run.{arrays_check}
use Rattle.claims.proofs.Checking.{last-length, last-wrong}
use Rattle.claims.proofs.inner.Compared.check_lists.Goals as goal

pub returns-then-rooms-hops : goal.returns-then-rooms-hops
unfolding arrays_check
returns-then-rooms-hops c = group-pass _ _ _ (sym c.check_length.ensures.value ∙ c.in_ok-check_length.was) (group-pass _ _ _ (sym c.check_pairs.ensures ∙ c.in_ok-check_pairs.was) (last-wrong _ _ _ (ne_eqb _ _ c.if-rooms-hops.true) (ap Err c.wrong_length.ensures)))

pub returns-in_err-check_length : goal.returns-in_err-check_length
unfolding arrays_check
returns-in_err-check_length c = handed _ _ c.from_residual.ensures.1 ∙ group-stop _ _ _ (sym c.check_length.ensures.value ∙ c.in_err-check_length.was)

pub returns-in_err-check_pairs : goal.returns-in_err-check_pairs
unfolding arrays_check
returns-in_err-check_pairs c = handed _ _ c.from_residual-in_err-check_pairs.ensures.1 ∙ group-pass _ _ _ (sym c.check_length.ensures.value ∙ c.in_ok-check_length.was) (group-stop _ _ _ (sym c.check_pairs.ensures ∙ c.in_err-check_pairs.was))

pub returns : goal.returns
unfolding arrays_check
returns c = group-pass _ _ _ (sym c.check_length.ensures.value ∙ c.in_ok-check_length.was) (group-pass _ _ _ (sym c.check_pairs.ensures ∙ c.in_ok-check_pairs.was) (last-length _ _ _ (eq-eqb _ _ c.if-rooms-hops.false) refl))
