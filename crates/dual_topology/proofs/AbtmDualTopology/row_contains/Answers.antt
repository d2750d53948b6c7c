-- `dual_topology::AbtmDualTopology::row_contains` meets its contract. Assumes nothing.
use Rattle.std.proofs.Common.{ap, ap₂, ◌∙◌, ℕ, Bool, ◌&&◌, Ok}
use Rattle.base.proofs.Checks.{on-accepted}
use lib.Dec.{ltb}
use Rattle.dual_topology.proofs.AbtmDualTopology.row_contains.Goals as goal

pub returns : goal.returns
returns c =
    let s = c.in_ok-row.ensures.found in
    on-accepted _ _ _ _ s.passed (ap Ok (c.contains.ensures ∙ ap₂ (λ (w : ℕ) (p : ℕ → Bool). ltb c.args.col w && p c.args.col) s.wide s.columns))
