-- `growths::inner::grow_one` meets its contract. Assumes nothing.
use Rattle.std.proofs.Common.{sym, ◌∙◌}
use Rattle.base.proofs.Checks.{on-accepted}
use Rattle.growths.proofs.Growing.{own_room, own-take, own-needed}
use Rattle.growths.proofs.inner.grow_one.Goals as goal

pub returns-in-Ok-clause-renewed : goal.returns-in-Ok-clause-renewed
returns-in-Ok-clause-renewed g c =
    let ok = sym c.once.ensures.value ∙ c.in-Ok.is in
    on-accepted _ _ _ _ ok (c.copy_from_slice.ensures.after ∙ own-take _ _ _ _ _ _ ok c.once.ensures.inside (c.once.ensures.own ok))

pub slice_bounds-copy_from_slice-end : goal.slice_bounds-copy_from_slice-end
slice_bounds-copy_from_slice-end g c =
    let ok = sym c.once.ensures.value ∙ c.in-Ok.is in
    own_room _ _ _ _ _ _ ok c.once.ensures.inside (c.once.ensures.own ok)

pub slice_bounds-copy_from_slice-end-in-Ok : goal.slice_bounds-copy_from_slice-end-in-Ok
slice_bounds-copy_from_slice-end-in-Ok g c =
    let ok = sym c.once.ensures.value ∙ c.in-Ok.is in
    own-needed _ _ _ _ _ _ ok c.once.ensures.inside (c.once.ensures.own ok)

pub copy_from_slice-requires : goal.copy_from_slice-requires
copy_from_slice-requires g c =
    let ok = sym c.once.ensures.value ∙ c.in-Ok.is in
    own-needed _ _ _ _ _ _ ok c.once.ensures.inside (c.once.ensures.own ok)
