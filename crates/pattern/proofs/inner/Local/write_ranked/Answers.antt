-- `pattern::inner::Local::write_ranked` meets its contract. The invariant: the members before the one that comes next are written. Assumes nothing.
use Prim.Native.Nat.{◌≤◌}
use native.Mathlib.Omega.{arith}
use mathlib.Core.Path.{◌≡◌, refl, ap, ◌∙◌}
use Rattle.side.specs.Side.{side_holds}
use Rattle.side.specs.Views.{pairs}
use Rattle.pattern.specs.Pattern.{pairs_inside}
use Rattle.mask.specs.Mask.{in_mask}
use Rattle.mask.proofs.Nexts.{Given, walk-starts, walk-gives, walk-ends}
use Rattle.pattern.proofs.Counting.{kept_small}
use Rattle.pattern.proofs.Writing.{Writing, write-first, write-turn, write-last, ranks_long, ranks_at}
use Rattle.pattern.proofs.inner.Local.write_ranked.Goals.{In-Some, After-write_row-next}
use Rattle.pattern.proofs.inner.Local.write_ranked.Goals as goal

pub loop-k-init : goal.loop-k-init
loop-k-init c =
    let from : c.into_iter-k-iterator.result.iter ≡ c.members.result = ap (λ e. e.iter) c.into_iter-k-iterator.ensures.into_iter_gives ∙ c.enumerate-k-items.ensures.source in
    let none : c.into_iter-k-iterator.result.count ≡ 0 = ap (λ e. e.count) c.into_iter-k-iterator.ensures.into_iter_gives ∙ c.enumerate-k-items.ensures.count in (
      record { sized = rw from (rw c.members.ensures.mask refl); held = rw from (rw c.members.ensures.mask refl) },
      rw none (write-first _ _ _ _ _ _ _ (walk-starts _ _ c.into_iter-k-iterator.result.iter (rw from c.members.ensures.at)) (omega arith)),
    )

-- member r came
module _ (c : In-Some) where
  came : Given c.args.self.region.len c.args.self.region.words.now c.loop-k.k-iterator.iter c.in-Some.r c.next.new.self.iter
  came = walk-gives _ _ _ c.loop-k.invariant.0 _ _ c.in-Some.ensures.steps.0

  before : Writing c.args.self.region.len (side_holds c.args.self.rows.row_word_ptr.now c.args.self.rows.word_indices.now c.args.self.rows.masks.now) c.args.self.region.words.now c.args.global_nodes.now c.args.row_ptr.now c.args.col_idx.now c.loop-k.global_nodes c.loop-k.row_ptr c.loop-k.col_idx c.loop-k.next c.loop-k.k-iterator.count c.in-Some.r
  before = rw came.here c.loop-k.invariant.1

pub invariant_of-ranked : goal.invariant_of-ranked
invariant_of-ranked c =
    let filled = c.fill_ranks.ensures in record {
      counted = ranks_at c.args.self.region.len (in_mask c.args.self.region.words.now) _ _ filled;
      long = ranks_long c.args.self.region.len (in_mask c.args.self.region.words.now) _ _ filled;
    }

pub overflow_cast-row_ptr : goal.overflow_cast-row_ptr
overflow_cast-row_ptr c =
    let s = (goal.at.overflow_cast-row_ptr c).In-Some in
    let within : c.write_row-next.result ≤ pairs_inside c.args.self.region.len (in_mask c.args.self.region.words.now) (pairs c.args.self.rows) = rw c.write_row-next.ensures.value ((before s).room (came s).inside) in
    omega (arith, within, (kept_small _ _ _ _ c.args.self.square (in_mask c.args.self.region.words.now)).rows.few_kept)

pub loop-k-preserved : goal.loop-k-preserved
loop-k-preserved c =
    let s = (goal.at.loop-k-preserved c).In-Some in (
      (came s).over,
      rw c.in-Some.ensures.steps.1 (rw c.in-Some.ensures.steps.2 (write-turn _ _ _ _ _ _ _ _ _ _ _ _ (before s) (came s).inside c.requires.0 c.requires.1 _ _ _ (came s).next c.write_row-next.ensures.value c.write_row-next.ensures.cols_after)),
    )

pub returns : goal.returns
returns c =
    let done = write-last _ _ _ _ _ _ _ _ _ _ _ _ c.loop-k.invariant.1 (walk-ends _ _ c.loop-k.k-iterator.iter c.loop-k.invariant.0 c.next.new.self.iter c.in-None.ensures.steps.0) in record {
      members = done.0;
      pointers = done.1;
      columns = done.2;
    }
