-- `dual_topology::AbtmDualTopology::row_select` meets its contract. Assumes nothing.
use Rattle.std.proofs.Common.{ap, ap₂, ◌∙◌, ℕ, Bool, Ok}
use Rattle.base.proofs.Checks.{on-accepted}
use Rattle.base.specs.Sets.{members_below}
use Rattle.word.specs.Answers.{entry}
use Rattle.dual_topology.proofs.AbtmDualTopology.row_select.Goals as goal

pub returns : goal.returns
returns c =
    let s = c.in_ok-row.ensures.found in
    on-accepted _ _ _ _ s.passed (ap Ok (c.select.ensures ∙ ap₂ (λ (w : ℕ) (p : ℕ → Bool). entry (members_below w p) c.args.ordinal) s.wide s.columns))
