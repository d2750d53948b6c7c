-- `topology::from_csr32` meets its contract. Assumes nothing.
use mathlib.Core.Path.{sym, ap, ◌∙◌}
use Rattle.std.specs.Prelude.{Ok, Err}
use Rattle.base.proofs.Checks.{handed, group-pass, group-stop}
use Rattle.base.proofs.Checks.{on-accepted, on-refused}
use Rattle.side.proofs.Accepted.{room-passed}
use Rattle.topology.specs.Answers.{build_check}
use Rattle.topology.proofs.from_csr32.Goals as goal

pub build_side-requires : goal.build_side-requires
build_side-requires c =
    let a = c.in_ok-accepted.ensures.accepted.1 in
    rw (a.0, a.3) (room-passed _ _ _ _ _ (sym c.check_room.ensures ∙ c.in_ok-check_room.was))

pub returns-in_err-accepted-clause-value : goal.returns-in_err-accepted-clause-value
unfolding build_check
returns-in_err-accepted-clause-value c = handed _ _ c.from_residual.ensures.1 ∙ on-refused _ _ _ Err (sym (group-stop _ _ _ c.in_err-accepted.ensures.refused))

pub returns : goal.returns
unfolding build_check
returns c =
    let a = c.in_ok-accepted.ensures.accepted.1 in
    let e = sym (group-pass _ _ _ c.in_ok-accepted.ensures.accepted.0 (sym c.in_ok-check_room.was ∙ c.check_room.ensures)) in
    let b = rw (a.0, a.1, a.2, a.3) at c.build_side.ensures in record {
      value = on-accepted _ _ _ _ e (ap Ok b.value);
      pointers = on-accepted _ _ _ _ e b.pointers;
      words = on-accepted _ _ _ _ e b.words;
      masked = on-accepted _ _ _ _ e b.masked;
    }
