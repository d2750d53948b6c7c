-- `field_region::inner::write_owners` meets its contract. Assumes nothing.
use Rattle.std.proofs.Common.{◌≡◌, sym, ap, ◌∙◌, zero-add, arith, List, ℕ, length, length-take-le}
use Rattle.base.proofs.Lists.{length-list_from, get_or-list_from, put_next, put_whole, part_left}
use Rattle.field_region.specs.Owners.{first_owner, owners_of}
use Rattle.field_region.proofs.inner.write_owners.Goals as goal

-- an owner for each block
count : (components owners : List ℕ) → length (owners_of components owners) ≡ length components
count components owners = length-list_from (first_owner components owners) (length components) 0

pub loop-b-preserved : goal.loop-b-preserved
loop-b-preserved c =
    let cs = c.args.layout.components.now in
    let owners = c.args.dof_owners.now in
    let h = length-take-le (length cs) c.args.out.now c.requires.1 in
    put_next (owners_of cs owners) _ _ _ _ 0 (omega (arith, count cs owners)) (omega arith) c.loop-b.invariant
    (rw c.start.ensures (sym (get_or-list_from (first_owner cs owners) (length cs) 0 c.loop-b.b 0 (omega arith) ∙ ap (first_owner cs owners) (zero-add c.loop-b.b))))

pub returns : goal.returns
returns c =
    let cs = c.args.layout.components.now in
    let owners = c.args.dof_owners.now in
    let h = length-take-le (length cs) c.args.out.now c.requires.1 in
    part_left _ _ _ _ (put_whole (owners_of cs owners) _ _ c.loop-b.b (count cs owners ∙ sym h) (omega arith) c.loop-b.invariant) (sym (count cs owners))
