-- `numeric_plan::inner::Bound::write_ranked` meets its contract. Assumes nothing.
use Rattle.numeric_plan.proofs.OneRow.{tables}
use Rattle.numeric_plan.proofs.inner.Bound.write_ranked.Goals as goal

pub invariant_of-write_rows : goal.invariant_of-write_rows
invariant_of-write_rows c =
    let region = c.args.self.system.local.region in
    record { filled = tables region.len region.words.now _ _ _ _ region.accepted c.fill_ranks.ensures c.write_nodes-members.ensures.nodes_after }
