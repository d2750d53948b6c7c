use Rattle.std.proofs.Common.{◌≡◌, arith, length}
use Rattle.word.specs.Answers.{on}
use Rattle.word.proofs.Answers.{off}
use Rattle.side_sets.proofs.Rows.{own_words}
use Rattle.side_sets.proofs.Merging.{Turn, merge-start, merge-end, goes_on, within, merge-skip, merge-put}
use Rattle.side_sets.proofs.inner.combine_row.Goals.{After-apply-mask}
use Rattle.side_sets.proofs.inner.combine_row.Goals as goal

pub loop-i-init : goal.loop-i-init
loop-i-init c = merge-start _ (own_words c.args.a.accepted) (own_words c.args.b.accepted) _ _ _

-- in a turn: what the two rows and the result have for the next word
turn : (c : After-apply-mask) →
    Turn (on c.args.op) c.args.a.word_indices.now c.args.a.masks.now 0 (length c.args.a.masks.now) c.args.b.word_indices.now c.args.b.masks.now 0 (length c.args.b.masks.now)
    c.args.from c.args.word_indices.now c.args.masks.now c.loop-i.word_indices c.loop-i.masks c.loop-i.i c.loop-i.j c.loop-i.to c.next_word-word.result c.take-left.result c.take-right.result c.apply-mask.result
turn c = record {
  none = off c.args.op;
  row_left = own_words c.args.a.accepted;
  row_right = own_words c.args.b.accepted;
  merging = c.loop-i.invariant;
  next = rw (a, b) at c.next_word-word.ensures;
  from_left = rw a at c.take-left.ensures;
  from_right = rw b at c.take-right.ensures;
  result = c.apply-mask.ensures;
}
  where
    a : length c.args.a.word_indices.now ≡ length c.args.a.masks.now
    a = c.args.a.accepted.as_many

    b : length c.args.b.word_indices.now ≡ length c.args.b.masks.now
    b = c.args.b.accepted.as_many

pub loop-i-smaller-then-mask-eq0 : goal.loop-i-smaller-then-mask-eq0
loop-i-smaller-then-mask-eq0 c = let w = turn (goal.at.loop-i-smaller-then-mask-eq0 c).After-apply-mask in omega (arith, goes_on w, within w)

pub loop-i-preserved-then-mask-eq0 : goal.loop-i-preserved-then-mask-eq0
loop-i-preserved-then-mask-eq0 c = merge-skip (turn (goal.at.loop-i-preserved-then-mask-eq0 c).After-apply-mask) c.if-mask-eq0.true

pub loop-i-smaller : goal.loop-i-smaller
loop-i-smaller c = let w = turn (goal.at.loop-i-smaller c).After-apply-mask in omega (arith, goes_on w, within w)

pub loop-i-preserved : goal.loop-i-preserved
loop-i-preserved c = merge-put (turn (goal.at.loop-i-preserved c).After-apply-mask) (omega (arith, c.requires.0)) (omega (arith, c.requires.1)) c.if-mask-eq0.false

pub returns : goal.returns
returns c =
    let a = c.args.a.accepted in
    let b = c.args.b.accepted in
    let g = merge-end (on c.args.op) (own_words a) (own_words b) (off c.args.op) c.loop-i.invariant (omega (arith, c.loop-i-test.false, a.as_many, b.as_many)) in
    record { low = g.low; high = omega (arith, g.high); idx_kept = g.idx_kept; masks_kept = g.masks_kept; row = g.row }
