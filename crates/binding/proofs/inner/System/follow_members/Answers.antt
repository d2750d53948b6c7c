-- `binding::inner::System::follow_members` meets its contract. The invariant: the rows of the members before the one that comes next pass, are
-- counted, and are marked where they have a pair. Assumes nothing.
use mathlib.Core.Path.{◌≡◌, refl, sym, ap, ◌∙◌}
use Rattle.std.specs.Prelude.{Ok}
use Rattle.std.proofs.lemmas.Option.{same_Some}
use native.Mathlib.Omega.{arith}
use Rattle.base.proofs.Sets.{count-le}
use Rattle.mask.specs.Mask.{in_mask}
use Rattle.mask.proofs.Masks.{is-of}
use Rattle.mask.proofs.Nexts.{Given, walk-starts, walk-gives, walk-ends}
use Rattle.side.specs.Side.{side_holds}
use Rattle.binding.proofs.Answers.{bound-passes}
use Rattle.binding.proofs.Paired.{Marks, marks-first, marks-turn, marks-last}
use Rattle.binding.proofs.Sources.{row-follows, row_answer, Settling, settle_first, settle_turn, settle_last, row_pairs, settle_room}
use Rattle.binding.proofs.inner.System.follow_members.Goals.{In-Some, In_ok-row}
use Rattle.binding.proofs.inner.System.follow_members.Goals as goal

-- row r was followed: it binds
binds : (c : In_ok-row) → Ok c.in_ok-row.row ≡ row_answer c.args.self.local.region.len c.args.self.local.region.words.now c.args.self.local.rows.row_word_ptr.now c.args.self.local.rows.word_indices.now c.args.self.local.rows.masks.now c.args.self.matrix.row_ptr.now c.args.self.matrix.col_idx.now c.in-Some.r
binds c =
    let a = c.args in
    row-follows a.self.local.region.len (in_mask a.self.local.region.words.now) (side_holds a.self.local.rows.row_word_ptr.now a.self.local.rows.word_indices.now a.self.local.rows.masks.now) a.self.matrix.row_ptr.now a.self.matrix.col_idx.now c.in-Some.r _ _ c.follow.ensures c.in_ok-row.was

module _ (c : In-Some) where
  -- member r came
  came : Given c.args.self.local.region.len c.args.self.local.region.words.now c.loop-r.r-iterator c.in-Some.r c.next.new.self
  came = walk-gives _ _ _ c.loop-r.invariant.0 _ _ c.in-Some.ensures.steps

  -- and the rows before it are settled
  before : Settling c.args.self.local.region.len c.args.self.local.region.words.now c.args.self.local.rows.row_word_ptr.now c.args.self.local.rows.word_indices.now c.args.self.local.rows.masks.now c.args.self.matrix.row_ptr.now c.args.self.matrix.col_idx.now c.loop-r.members c.loop-r.rows c.in-Some.r
  before = rw came.here c.loop-r.invariant.1

  marked : Marks c.args.self.local.region.len c.args.self.local.region.words.now (side_holds c.args.self.local.rows.row_word_ptr.now c.args.self.local.rows.word_indices.now c.args.self.local.rows.masks.now) c.loop-r.paired c.in-Some.r
  marked = rw came.here c.loop-r.invariant.2

pub loop-r-init : goal.loop-r-init
loop-r-init c =
    let a = c.args in
    let from : c.into_iter-r-iterator.result ≡ c.members-r-items.result = c.into_iter-r-iterator.ensures.into_iter_gives in
    let next = walk-starts a.self.local.region.len a.self.local.region.words.now c.into_iter-r-iterator.result (rw from c.members-r-items.ensures.at) in (
      record { sized = rw from (rw c.members-r-items.ensures.mask refl); held = rw from (rw c.members-r-items.ensures.mask refl) },
      settle_first a.self.local.region.len a.self.local.region.words.now a.self.local.rows.row_word_ptr.now a.self.local.rows.word_indices.now a.self.local.rows.masks.now a.self.matrix.row_ptr.now a.self.matrix.col_idx.now _ _ (λ i. let e = c.default-rows.ensures in record { pairs = e.0 i; sources = e.1 i }) next,
      marks-first a.self.local.region.len a.self.local.region.words.now (side_holds a.self.local.rows.row_word_ptr.now a.self.local.rows.word_indices.now a.self.local.rows.masks.now) a.paired.now _ next c.requires,
    )

pub follow-requires : goal.follow-requires
follow-requires c = (came (goal.at.follow-requires c).In-Some).inside

pub overflow_add-members : goal.overflow_add-members
overflow_add-members c =
    let s = (goal.at.overflow_add-members c).In-Some in
    omega (arith, (before s).members, count-le c.in-Some.r (in_mask c.args.self.local.region.words.now), (came s).inside, c.args.self.local.region.accepted.short)

pub add-rows-requires : goal.add-rows-requires
add-rows-requires c =
    let a = c.args in
    let l = c.loop-r in
    let s = (goal.at.add-rows-requires c).In-Some in
    settle_room a.self.local.region.len a.self.local.region.words.now a.self.local.rows.row_word_ptr.now a.self.local.rows.word_indices.now a.self.local.rows.masks.now a.self.matrix.row_ptr.now a.self.matrix.col_idx.now l.members l.rows c.in-Some.r (before s) (came s).inside _ (binds (goal.at.add-rows-requires c).In_ok-row) a.self.local.square a.self.square

pub mark_row-requires : goal.mark_row-requires
mark_row-requires c = (is-of _ _ _ c.args.self.local.region.accepted.short c.loop-r.invariant.2, (came (goal.at.mark_row-requires c).In-Some).inside)

pub loop-r-preserved : goal.loop-r-preserved
loop-r-preserved c =
    let a = c.args in
    let l = c.loop-r in
    let s = (goal.at.loop-r-preserved c).In-Some in
    let test = (came s).inside in
    let told = binds (goal.at.loop-r-preserved c).In_ok-row in
    let next = (came s).next in (
      (came s).over,
      settle_turn a.self.local.region.len a.self.local.region.words.now a.self.local.rows.row_word_ptr.now a.self.local.rows.word_indices.now a.self.local.rows.masks.now a.self.matrix.row_ptr.now a.self.matrix.col_idx.now l.members l.rows c.in-Some.r (before s) test _ told _ c.add-rows.ensures _ next,
      marks-turn a.self.local.region.len a.self.local.region.words.now (side_holds a.self.local.rows.row_word_ptr.now a.self.local.rows.word_indices.now a.self.local.rows.masks.now) l.paired _ c.in-Some.r _ _ (marked s) test ((before s).checked.member test) next (row_pairs a.self.local.region.len a.self.local.region.words.now a.self.local.rows.row_word_ptr.now a.self.local.rows.word_indices.now a.self.local.rows.masks.now a.self.matrix.row_ptr.now a.self.matrix.col_idx.now l.members l.rows c.in-Some.r (before s) test _ told) c.mark_row.ensures,
    )

pub returns : goal.returns
returns c =
    let a = c.args in
    let l = c.loop-r in record {
      counts_value = λ counts told. bound-passes _ _ _ (ap Ok (sym (same_Some _ _ told)) ∙ settle_last a.self.local.region.len a.self.local.region.words.now a.self.local.rows.row_word_ptr.now a.self.local.rows.word_indices.now a.self.local.rows.masks.now a.self.matrix.row_ptr.now a.self.matrix.col_idx.now l.members l.rows _ l.invariant.1 (walk-ends _ _ c.loop-r.r-iterator c.loop-r.invariant.0 c.next.new.self c.in-None.ensures.steps));
      marks = λ counts told. marks-last a.self.local.region.len a.self.local.region.words.now (side_holds a.self.local.rows.row_word_ptr.now a.self.local.rows.word_indices.now a.self.local.rows.masks.now) l.paired _ l.invariant.2 (walk-ends _ _ c.loop-r.r-iterator c.loop-r.invariant.0 c.next.new.self c.in-None.ensures.steps);
    }
