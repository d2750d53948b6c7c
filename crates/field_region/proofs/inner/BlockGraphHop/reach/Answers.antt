-- `field_region::inner::BlockGraphHop::reach` meets its contract. Assumes nothing.
use Rattle.std.proofs.Common.{◌≡◌, ◌≤◌, arith}
use Rattle.base.specs.Checks.{side_limit}
use Rattle.mask.proofs.Masks.{is-of}
use Rattle.dof_layout.specs.Layout.{total_of}
use Rattle.field_region.proofs.Growing.{closed_after}
use Rattle.field_region.proofs.inner.BlockGraphHop.reach.Goals as goal

pub expand-found-requires : goal.expand-found-requires
expand-found-requires c = rw c.args.self.now.sized c.requires

pub close_in_place-requires : goal.close_in_place-requires
close_in_place-requires c =
    let nodes : c.args.frontier.len ≡ total_of c.args.self.now.components.now = c.requires.0 in
    let few : total_of c.args.self.now.components.now ≤ side_limit = omega (arith, c.args.frontier.accepted.short, nodes) in
    (c.args.self.now.totals, few, is-of _ _ _ few (rw c.args.self.now.sized at c.expand-found.ensures.reached_after))

pub returns : goal.returns
returns c = record {
  value = rw c.args.self.now.sized at c.expand-found.ensures.value;
  reached_after = closed_after _ _ _ _ c.close_in_place.ensures (rw c.args.self.now.sized at c.expand-found.ensures.reached_after);
}
