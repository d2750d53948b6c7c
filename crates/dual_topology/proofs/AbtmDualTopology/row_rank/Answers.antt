-- `dual_topology::AbtmDualTopology::row_rank` meets its contract. Assumes nothing.
use Rattle.std.proofs.Common.{refl, sym, ap, ◌∙◌, ℕ, Bool, Ok, Err, arith}
use borrow.Author.Tests.{le-leb}
use Rattle.base.specs.Sets.{count_below}
use Rattle.base.proofs.Checks.{handed, on-accepted, on-refused, group-pass, group-stop, last-pass}
use Rattle.dual_topology.specs.Views.{width}
use Rattle.dual_topology.proofs.AbtmDualTopology.row_rank.Goals as goal

pub returns-in_err-row : goal.returns-in_err-row
returns-in_err-row c = handed _ _ c.from_residual.ensures.1 ∙ on-refused _ _ _ Err (sym (group-stop _ _ _ (c.in_err-row.ensures.refused)))

pub returns : goal.returns
returns c =
    let s = c.in_ok-row.ensures.found in
    let within = le-leb c.args.col (width c.args.self c.args.of) (omega (arith, c.if-col-row.false, s.wide)) in
    on-accepted _ _ _ _ (sym (group-pass _ _ _ s.passed (last-pass _ _ _ within refl)))
    (ap Ok (c.rank.ensures ∙ ap (λ (p : ℕ → Bool). count_below c.args.col p) s.columns))
