-- `dual_topology::AbtmDualTopology::stats` meets its contract. Assumes nothing.
use Rattle.std.proofs.Common.{refl, ◌∙◌, sym, arith}
use Rattle.base.proofs.Checks.{on-accepted}
use Rattle.dual_topology.specs.Views.{SoundTopology}
use Rattle.topology.proofs.Bytes.{bytes-are}
use Rattle.dual_topology.proofs.AbtmDualTopology.stats.Goals.{In_ok-validate}
use Rattle.dual_topology.proofs.AbtmDualTopology.stats.Goals as goal

-- in this arm the topology is accepted
top : (c : In_ok-validate) → SoundTopology c.args.self
top c = c.in_ok-validate.ensures.accepted

pub stats-requires : goal.stats-requires
stats-requires c =
    let t = (top (goal.at.stats-requires c).In_ok-validate) in
    let rows = t.topology.rows in
    let columns = t.topology.columns in
    (rows.shape.few_rows, columns.shape.few_rows, rows.shape.few_words, columns.shape.few_words, omega (arith, t.counted, rows.few_pairs))

pub returns : goal.returns
returns c =
    let t = c.in_ok-validate.ensures.accepted.topology in
    let row = bytes-are _ _ _ _ _ t.rows.shape refl in
    let column = bytes-are _ _ _ _ _ t.columns.shape refl in
    on-accepted _ _ _ _ (sym c.validate.ensures.value ∙ c.in_ok-validate.was) (cc (c.stats.ensures, row, column))
