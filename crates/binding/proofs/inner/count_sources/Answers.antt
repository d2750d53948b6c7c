-- `binding::inner::count_sources` meets its contract. The invariant: the entries of the members before the one that comes next are counted.
-- Assumes nothing.
use mathlib.Core.Path.{◌≡◌, refl}
use native.Mathlib.Omega.{arith}
use Rattle.mask.proofs.Nexts.{Given, walk-starts, walk-gives}
use Rattle.binding.proofs.Sources.{Counting, sources-first, sources_room, sources-turn}
use Rattle.binding.proofs.inner.count_sources.Goals.{In-Some}
use Rattle.binding.proofs.inner.count_sources.Goals as goal

module _ (c : In-Some) where
  -- member r came
  came : Given c.args.region.len c.args.region.words.now c.loop-r.r-iterator c.in-Some.r c.next.new.self
  came = walk-gives _ _ _ c.loop-r.invariant.0 _ _ c.in-Some.ensures.steps

  before : Counting c.args.region.len c.args.region.words.now c.args.matrix.row_ptr.now c.args.matrix.col_idx.now c.loop-r.sources c.in-Some.r
  before = rw came.here c.loop-r.invariant.1

pub loop-r-init : goal.loop-r-init
loop-r-init c =
    let from : c.into_iter-r-iterator.result ≡ c.members-r-items.result = c.into_iter-r-iterator.ensures.into_iter_gives in (
      record { sized = rw from (rw c.members-r-items.ensures.mask refl); held = rw from (rw c.members-r-items.ensures.mask refl) },
      sources-first c.args.region.len c.args.region.words.now c.args.matrix.row_ptr.now c.args.matrix.col_idx.now _ (walk-starts _ _ c.into_iter-r-iterator.result (rw from c.members-r-items.ensures.at)),
    )

pub count_inside-sources-requires : goal.count_inside-sources-requires
count_inside-sources-requires c = (c.requires, (came (goal.at.count_inside-sources-requires c).In-Some).inside)

pub overflow_add-sources : goal.overflow_add-sources
overflow_add-sources c =
    let s = (goal.at.overflow_add-sources c).In-Some in
    omega (arith, sources_room c.args.region.len c.args.region.words.now c.args.matrix.row_ptr.now c.args.matrix.col_idx.now c.loop-r.sources c.in-Some.r _ (before s) (came s).inside c.count_inside-sources.ensures c.requires)

pub loop-r-preserved : goal.loop-r-preserved
loop-r-preserved c =
    let s = (goal.at.loop-r-preserved c).In-Some in (
      (came s).over,
      sources-turn c.args.region.len c.args.region.words.now c.args.matrix.row_ptr.now c.args.matrix.col_idx.now c.loop-r.sources c.in-Some.r _ (before s) (came s).inside c.count_inside-sources.ensures _ (came s).next,
    )
