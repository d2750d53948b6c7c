-- `dual_topology::AbtmDualTopology::row_word` meets its contract. Assumes nothing.
use Rattle.std.proofs.Common.{ap, ap₂, ◌∙◌, ℕ, Bool, Ok}
use Rattle.base.proofs.Checks.{on-accepted}
use Rattle.side.specs.Side.{word_at}
use Rattle.dual_topology.proofs.AbtmDualTopology.row_word.Goals as goal

pub returns : goal.returns
returns c =
    let s = c.in_ok-row.ensures.found in
    on-accepted _ _ _ _ s.passed (ap Ok (c.word.ensures ∙ ap₂ (λ (w : ℕ) (p : ℕ → Bool). word_at w p c.args.k) s.wide s.columns))
