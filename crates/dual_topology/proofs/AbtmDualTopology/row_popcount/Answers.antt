-- `dual_topology::AbtmDualTopology::row_popcount` meets its contract. Assumes nothing.
use Rattle.std.proofs.Common.{ap, ap₂, ◌∙◌, ℕ, Bool, Ok}
use Rattle.base.proofs.Checks.{on-accepted}
use Rattle.base.specs.Sets.{count_below}
use Rattle.dual_topology.proofs.AbtmDualTopology.row_popcount.Goals as goal

pub returns : goal.returns
returns c =
    let s = c.in_ok-row.ensures.found in
    on-accepted _ _ _ _ s.passed (ap Ok (c.popcount.ensures ∙ ap₂ (λ (w : ℕ) (p : ℕ → Bool). count_below w p) s.wide s.columns))
