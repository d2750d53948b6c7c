-- `growths::inner::grow_list` meets its contract. Assumes nothing.
use Rattle.growths.proofs.Grounds.{few-rows, square-solid}
use Rattle.growths.proofs.Growing.{seeds-len}
use Rattle.growths.proofs.inner.grow_list.Goals as goal

pub grow_all-requires : goal.grow_all-requires
grow_all-requires c =
    let few = few-rows _ _ _ _ _ _ _ _ _ _ _ _ c.requires.0 in
    (c.args.topology.rows.nrows, c.args.len, square-solid _ _ _ _ _ c.requires.0 c.requires.1 few (seeds-len _ _ _ c.requires.2), c.requires.2)
