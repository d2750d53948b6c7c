-- `pattern::inner::Local::count` meets its contract. The invariant: the members before the one that comes next are counted. Assumes nothing.
use Rattle.std.proofs.Common.{◌≡◌, refl}
use Rattle.mask.proofs.Nexts.{Given, walk-starts, walk-gives, walk-ends}
use Rattle.side.specs.Side.{side_holds}
use Rattle.pattern.proofs.Counting.{Walked, walk_first, walk_room, walk_turn, walk-last}
use Rattle.pattern.proofs.inner.Local.count.Goals.{In-Some, After-count_row}
use Rattle.pattern.proofs.inner.Local.count.Goals as goal

pub loop-r-init : goal.loop-r-init
loop-r-init c =
    let from : c.into_iter-r-iterator.result ≡ c.members-r-items.result = c.into_iter-r-iterator.ensures.into_iter_gives in (
      record { sized = rw from (rw c.members-r-items.ensures.mask refl); held = rw from (rw c.members-r-items.ensures.mask refl) },
      walk_first _ _ _ _ c.args.self.square _ _ _ (λ i. let e = c.default-rows.ensures in record { words = e.0 i; candidates = e.1.0 i; kept = e.1.1 i }) (walk-starts _ _ c.into_iter-r-iterator.result (rw from c.members-r-items.ensures.at)),
    )

-- member r came
came : (c : In-Some) → Given c.args.self.region.len c.args.self.region.words.now c.loop-r.r-iterator c.in-Some.r c.next.new.self
came c = walk-gives _ _ _ c.loop-r.invariant.0 _ _ c.in-Some.ensures.steps

pub count_row-requires : goal.count_row-requires
count_row-requires c = (came (goal.at.count_row-requires c).In-Some).inside

module _ (c : After-count_row) where
  gives : Given c.args.self.region.len c.args.self.region.words.now c.loop-r.r-iterator c.in-Some.r c.next.new.self
  gives = walk-gives _ _ _ c.loop-r.invariant.0 _ _ c.in-Some.ensures.steps

  before : Walked c.args.self.region.len (side_holds c.args.self.rows.row_word_ptr.now c.args.self.rows.word_indices.now c.args.self.rows.masks.now) c.args.self.region.words.now c.loop-r.members c.loop-r.rows c.in-Some.r
  before = rw gives.here c.loop-r.invariant.1

pub add-rows-requires : goal.add-rows-requires
add-rows-requires c =
    let s = (goal.at.add-rows-requires c).After-count_row in
    walk_room _ _ _ _ c.args.self.square _ _ _ _ (before s) (gives s).inside _ c.count_row.ensures

pub loop-r-preserved : goal.loop-r-preserved
loop-r-preserved c =
    let s = (goal.at.loop-r-preserved c).After-count_row in (
      (gives s).over,
      walk_turn _ _ _ _ c.args.self.square _ _ _ _ (before s) (gives s).inside _ c.count_row.ensures _ c.add-rows.ensures _ (gives s).next,
    )

pub returns : goal.returns
returns c = walk-last _ _ _ _ c.args.self.square _ _ _ _ c.loop-r.invariant.1 (walk-ends _ _ c.loop-r.r-iterator c.loop-r.invariant.0 c.next.new.self c.in-None.ensures.steps)
