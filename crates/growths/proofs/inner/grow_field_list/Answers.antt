-- `growths::inner::grow_field_list` meets its contract. Assumes nothing.
use Rattle.field_region.proofs.Accepted.{accepted-square}
use Rattle.growths.proofs.Grounds.{few-rows, field-solid}
use Rattle.growths.proofs.Growing.{seeds-len}
use Rattle.growths.proofs.inner.grow_field_list.Goals as goal

pub grow_all-requires : goal.grow_all-requires
grow_all-requires c =
    let few = few-rows _ _ _ _ _ _ _ _ _ _ _ _ c.requires.0 in
    (c.args.topology.rows.nrows, c.args.len, field-solid _ _ _ _ _ _ _ _ _ _ c.requires.0 c.requires.1 few (seeds-len _ _ _ c.requires.2), c.requires.2)

pub returns-clause-value : goal.returns-clause-value
returns-clause-value c = rw (accepted-square _ _ _ _ _ _ _ c.requires.1).1 c.grow_all.ensures.value
