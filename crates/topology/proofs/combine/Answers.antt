-- `topology::combine` meets its contract. Assumes nothing.
use mathlib.Core.Path.{sym, ap, ◌∙◌}
use Rattle.std.specs.Prelude.{Ok, Err}
use borrow.Author.Tests.{eq-eqb}
use Rattle.base.proofs.Checks.{handed, pass, group-pass, group-stop}
use Rattle.base.proofs.Checks.{on-accepted, on-refused}
use Rattle.side.proofs.Accepted.{room-passed, side-as}
use Rattle.topology.specs.Answers.{sets_check}
use Rattle.topology.proofs.combine.Goals as goal

pub combine-requires : goal.combine-requires
combine-requires c =
    let a = c.in_ok-left.ensures.accepted.2 in
    let b = c.in_ok-right.ensures.accepted.2 in
    let p = room-passed _ _ _ _ _ (sym c.check_room.ensures ∙ c.in_ok-check_room.was) in
    rw (a.0, a.1, a.4, b.2, b.3, b.4) (side-as _ _ _ _ _ _ _ c.if-b-a.false c.if-b-a-2.false c.in_ok-right.ensures.accepted.1.0, p.0, p.1, p.2)

pub returns-in_err-left-clause-value : goal.returns-in_err-left-clause-value
unfolding sets_check
returns-in_err-left-clause-value c = handed _ _ c.from_residual.ensures.1 ∙ on-refused _ _ _ Err (sym (group-stop _ _ _ c.in_err-left.ensures.refused))

pub returns-in_err-right-clause-value : goal.returns-in_err-right-clause-value
unfolding sets_check
returns-in_err-right-clause-value c =
    handed _ _ c.from_residual-in_err-right.ensures.1 ∙ on-refused _ _ _ Err (sym (group-pass _ _ _ c.in_ok-left.ensures.accepted.0 (group-stop _ _ _ c.in_err-right.ensures.refused)))

pub returns : goal.returns
unfolding sets_check
returns c =
    let a = c.in_ok-left.ensures.accepted.2 in
    let b = c.in_ok-right.ensures.accepted.2 in
    let e = sym (group-pass _ _ _ c.in_ok-left.ensures.accepted.0 (group-pass _ _ _ c.in_ok-right.ensures.accepted.0 (pass _ _ _ _ (eq-eqb _ _ c.if-b-a.false) (pass _ _ _ _ (eq-eqb _ _ c.if-b-a-2.false) (sym c.in_ok-check_room.was ∙ c.check_room.ensures))))) in
    let d = rw (a.0, a.1, a.2, a.3, a.4, b.2, b.3, b.4) at c.combine.ensures in record {
      value = on-accepted _ _ _ _ e (ap Ok d.value);
      pointers = on-accepted _ _ _ _ e d.pointers;
      words = on-accepted _ _ _ _ e d.words;
      masked = on-accepted _ _ _ _ e d.masked;
    }
