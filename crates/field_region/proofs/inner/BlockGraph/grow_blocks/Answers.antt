-- `field_region::inner::BlockGraph::grow_blocks` meets its contract. Assumes nothing.
use Rattle.std.proofs.Common.{◌≤◌, sym, ◌∙◌, arith}
use Rattle.base.specs.Checks.{side_limit}
use Rattle.mask.proofs.Masks.{is-of}
use Rattle.dof_layout.specs.Layout.{total_of}
use Rattle.graph.proofs.Networks.{field-whole}
use Rattle.growth.proofs.Visits.{visits-small}
use Rattle.field_region.proofs.Growing.{closed-count, blocks-grown}
use Rattle.field_region.proofs.inner.BlockGraph.grow_blocks.Goals.{Start}
use Rattle.field_region.proofs.inner.BlockGraph.grow_blocks.Goals as goal

-- the seeds are a mask of as many nodes
few : (s : Start) → total_of s.args.self.components.now ≤ side_limit
few s = omega (arith, s.args.seeds.accepted.short, s.requires.0, s.args.self.sized)

pub invariant_of-start : goal.invariant_of-start
invariant_of-start c = record { accepted = rw c.args.self.sized (is-of _ _ _ (few (goal.at.invariant_of-start c).Start) c.close.ensures) }

pub grow_by_hops-requires : goal.grow_by_hops-requires
grow_by_hops-requires c = (
  record { whole = field-whole _ _; short = few (goal.at.grow_by_hops-requires c).Start; small = visits-small _ _ _ _ _ _ _ (rw c.args.self.sized at c.args.self.graph.square) },
  c.requires.0 ∙ c.args.self.sized,
  c.close.ensures,
  rw (sym c.requires.0) at c.requires.2,
  rw (sym c.requires.0) at c.requires.3,
)

pub returns-clause-value : goal.returns-clause-value
returns-clause-value c = blocks-grown _ _ _ _ _ (closed-count _ (field-whole _ _) _ _ _ c.close.ensures (rw c.args.self.sized at c.count-closed_seeds.ensures)) c.grow_by_hops.ensures.value
