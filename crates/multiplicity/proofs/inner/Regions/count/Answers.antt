-- `multiplicity::inner::Regions::count` meets its contract. Assumes nothing.
use Rattle.std.proofs.Common.{◌≡◌, ◌∙◌, rules, arith, length, replicate}
use Rattle.base.proofs.Lists.{length-list_from}
use Rattle.multiplicity.proofs.Counts.{mults-le, mults-none, mults-next}
use Rattle.multiplicity.proofs.inner.Regions.count.Goals as goal

pub loop-q-init : goal.loop-q-init
loop-q-init c =
    let e : c.fill.new.self ≡ replicate (length c.args.counts.now) 0 = search rules in
    e ∙ mults-none _ _ _ c.requires

pub add_region-requires : goal.add_region-requires
add_region-requires c = (
  rw (c.loop-q.invariant, c.region.ensures.long) (length-list_from _ _ _),
  λ i. rw c.loop-q.invariant (omega (arith, mults-le)),
)

pub loop-q-preserved : goal.loop-q-preserved
loop-q-preserved c = rw c.region.ensures.long at c.add_region.ensures ∙ mults-next _ _ _ _ _ c.loop-q.invariant c.region.ensures.words
