-- `dual_topology::AbtmDualTopology::row_words` meets its contract. Assumes nothing.
use Rattle.std.proofs.Common.{ap, ap₂, ◌∙◌, ℕ, Bool, Ok}
use Rattle.base.proofs.Checks.{on-accepted}
use lib.ListN.{length}
use Rattle.side.specs.Side.{words_of_row}
use Rattle.dual_topology.proofs.AbtmDualTopology.row_words.Goals as goal

pub returns : goal.returns
returns c =
    let s = c.in_ok-row.ensures.found in
    on-accepted _ _ _ _ s.passed (ap Ok (c.count.ensures ∙ ap₂ (λ (w : ℕ) (p : ℕ → Bool). length (words_of_row w p)) s.wide s.columns))
