-- `multiplicity::inner::add_region` meets its contract. Assumes nothing.
use Rattle.std.proofs.Common.{◌≡◌, refl, ◌+◌, ◌*◌, ◌<◌, get_or, arith}
use Rattle.mask.proofs.Masks.{is-length}
use Rattle.multiplicity.proofs.Adds.{walk_start, walk_node, walk_turn, add_turn, add-end}
use Rattle.multiplicity.proofs.inner.add_region.Goals.{In-Some}
use Rattle.multiplicity.proofs.inner.add_region.Goals as goal

pub overflow_mul-first : goal.overflow_mul-first
overflow_mul-first c = omega (arith, is-length _ _ c.args.region.accepted, c.args.region.accepted.short)

pub loop-bit-init : goal.loop-bit-init
loop-bit-init c = rw (c.into_iter-bit-iterator.ensures.into_iter_gives, c.of-bit-items.ensures) (walk_start _ _ _ _ c.args.region.accepted c.loop-w-test.true c.loop-w.invariant.long)

-- the next bit is a node, not yet counted
node : (c : In-Some) → (c.loop-w.w * 64 + c.in-Some.bit < c.args.region.len) × (get_or c.loop-bit.counts (c.loop-w.w * 64 + c.in-Some.bit) 0 ≡ get_or c.loop-w.counts (c.loop-w.w * 64 + c.in-Some.bit) 0)
node c = walk_node _ _ _ _ c.args.region.accepted c.loop-w-test.true _ _ c.loop-bit.invariant _ _ c.in-Some.ensures.steps _ refl

pub overflow_add-i : goal.overflow_add-i
overflow_add-i c = omega (arith, node (goal.at.overflow_add-i c).In-Some, c.args.region.accepted.short)

pub offset_bounds-counts-i : goal.offset_bounds-counts-i
offset_bounds-counts-i c = omega (arith, node (goal.at.offset_bounds-counts-i c).In-Some, c.args.region.accepted.short)

pub bounds-counts-i : goal.bounds-counts-i
bounds-counts-i c = omega (arith, node (goal.at.bounds-counts-i c).In-Some, c.loop-bit.invariant.long)

pub bounds-counts-i-in-loop-bit : goal.bounds-counts-i-in-loop-bit
bounds-counts-i-in-loop-bit c = omega (arith, node (goal.at.bounds-counts-i-in-loop-bit c).In-Some, c.loop-bit.invariant.long)

pub loop-bit-preserved : goal.loop-bit-preserved
loop-bit-preserved c = walk_turn _ _ _ _ c.args.region.accepted c.loop-w-test.true _ _ c.loop-bit.invariant _ _ c.in-Some.ensures.steps _ refl

pub loop-w-preserved : goal.loop-w-preserved
loop-w-preserved c = add_turn _ _ _ c.loop-w.counts _ c.loop-w.w c.loop-bit.bit-iterator.left c.loop-w.invariant c.loop-bit.invariant c.in-None.ensures.steps.0

pub returns : goal.returns
returns c = add-end _ _ _ c.args.region.accepted _ _ c.loop-w-test.false c.loop-w.invariant
