-- `dual_topology::from_csr32` meets its contract. Assumes nothing.
use mathlib.Core.Path.{sym, ap, ◌∙◌}
use Rattle.std.specs.Prelude.{Ok, Err}
use Rattle.base.proofs.Checks.{handed, group-pass, group-stop, on-accepted, on-refused}
use Rattle.dual_topology.specs.Answers.{build_check}
use Rattle.dual_topology.proofs.Built.{build-fits}
use Rattle.dual_topology.proofs.from_csr32.Goals as goal

pub build-requires : goal.build-requires
build-requires c =
    let a = c.in_ok-accepted.ensures.accepted.1 in
    record { room = rw (a.0, a.1, a.3) (build-fits _ _ _ _ _ _ _ _ _ _ _ (sym c.check_room.ensures ∙ c.in_ok-check_room.was)) }

pub returns-in_err-accepted-clause-value : goal.returns-in_err-accepted-clause-value
unfolding build_check
returns-in_err-accepted-clause-value c = handed _ _ c.from_residual.ensures.1 ∙ on-refused _ _ _ Err (sym (group-stop _ _ _ c.in_err-accepted.ensures.refused))

pub returns : goal.returns
unfolding build_check
returns c =
    let a = c.in_ok-accepted.ensures.accepted.1 in
    let e = sym (group-pass _ _ _ c.in_ok-accepted.ensures.accepted.0 (sym c.in_ok-check_room.was ∙ c.check_room.ensures)) in
    let b = rw (a.0, a.1, a.2, a.3) at c.build.ensures in record {
      value = on-accepted _ _ _ _ e (ap Ok b.value);
      row_pointers = on-accepted _ _ _ _ e b.row_pointers;
      row_words = on-accepted _ _ _ _ e b.row_words;
      row_masked = on-accepted _ _ _ _ e b.row_masked;
      column_pointers = on-accepted _ _ _ _ e b.column_pointers;
      column_words = on-accepted _ _ _ _ e b.column_words;
      column_masked = on-accepted _ _ _ _ e b.column_masked;
      scratch_starts = on-accepted _ _ _ _ e b.scratch_starts;
      scratch_order = on-accepted _ _ _ _ e b.scratch_order;
    }
