use Rattle.std.proofs.Common.{◌≡◌, ◌+◌, ◌≤◌, ℕ, arith, length, length-set}
use Rattle.word.specs.Answers.{on}
use Rattle.word.proofs.Answers.{off}
use Rattle.side.specs.Side.{side_holds}
use Rattle.side.specs.Row.{NewRow}
use Rattle.side.proofs.Writing.{sofar-none, sofar-next, pairs-few, end-counts, end-words, end-masks, end-pointers}
use Rattle.side_sets.specs.Sets.{pairwise_pairs}
use Rattle.side_sets.proofs.Rows.{both, own_at, limit-in, small, new_row, row-few}
use Rattle.side_sets.proofs.inner.combine.Goals.{After-combine_row-end}
use Rattle.side_sets.proofs.inner.combine.Goals as goal

pub loop-row-init : goal.loop-row-init
loop-row-init c = sofar-none _ _ _ c.args.row_word_ptr.now _ _ (omega (arith, c.requires.1))

pub row-requires-in-loop-row : goal.row-requires-in-loop-row
row-requires-in-loop-row c = omega (arith, c.loop-row-test.true, c.requires.0.shape.rows, c.args.b.accepted.shape.rows)

pub combine_row-end-requires : goal.combine_row-end-requires
combine_row-end-requires c =
    let s = c.loop-row.invariant in
    let u = own_at c.args.a.accepted _ c.loop-row-test.true in
    let v = own_at c.requires.0 _ c.loop-row-test.true in
    (omega (arith, s.high, u.order, v.order, u.masks_long, v.masks_long, c.row.ensures.long, c.row-in-loop-row.ensures.long, s.idx_kept.long, c.requires.2), omega (arith, s.high, u.order, v.order, u.masks_long, v.masks_long, c.row.ensures.long, c.row-in-loop-row.ensures.long, s.masks_kept.long, c.requires.3))

row : (c : After-combine_row-end) → NewRow (pairwise_pairs (on c.args.op) (side_holds c.args.a.row_word_ptr.now c.args.a.word_indices.now c.args.a.masks.now) (side_holds c.args.b.row_word_ptr.now c.args.b.word_indices.now c.args.b.masks.now) c.loop-row.row)
    c.loop-row.word_indices c.loop-row.masks c.combine_row-end.new.word_indices c.combine_row-end.new.masks c.loop-row.to c.combine_row-end.result (both c.args.a.row_word_ptr.now c.args.b.row_word_ptr.now (c.loop-row.row + 1))
row c = new_row (on c.args.op) (off c.args.op) c.args.a.accepted c.requires.0 _ c.loop-row-test.true c.loop-row.invariant.high (rw (c.row.ensures.columns, c.row-in-loop-row.ensures.columns, c.row.ensures.long, c.row-in-loop-row.ensures.long) at c.combine_row-end.ensures)

-- the new end is not past the words of both sides
inside : (c : After-combine_row-end) → c.combine_row-end.result ≤ length c.args.a.masks.now + length c.args.b.masks.now
inside c = omega (arith, (row c).high, limit-in (on c.args.op) (off c.args.op) c.args.a.accepted c.requires.0 c.loop-row.row c.loop-row-test.true)

pub count_bits-requires : goal.count_bits-requires
count_bits-requires c =
    let w = (goal.at.count_bits-requires c).After-combine_row-end in
    let g = c.combine_row-end.ensures in
    let s = c.loop-row.invariant in
    let m : c.combine_row-end.result ≤ length c.combine_row-end.new.masks = omega (arith, inside w, g.masks_kept.long, s.masks_kept.long, c.requires.3) in
    (g.low, m, row-few (on c.args.op) (off c.args.op) c.args.a.accepted c.requires.0 _ c.loop-row-test.true (row w) (omega (arith, inside w, g.idx_kept.long, s.idx_kept.long, c.requires.2)) m)

pub overflow_add-pairs : goal.overflow_add-pairs
overflow_add-pairs c =
    let w = (goal.at.overflow_add-pairs c).After-combine_row-end in
    omega (arith, inside w, c.args.a.accepted.shape.few_words, c.requires.0.shape.few_words, pairs-few c.loop-row.invariant (row w) _ c.count_bits.ensures)

pub overflow_cast-row_word_ptr : goal.overflow_cast-row_word_ptr
overflow_cast-row_word_ptr c = omega (arith, inside (goal.at.overflow_cast-row_word_ptr c).After-combine_row-end, c.args.a.accepted.shape.few_words, c.requires.0.shape.few_words)

pub loop-row-preserved : goal.loop-row-preserved
loop-row-preserved c =
    let h = c.loop-row-test.true in
    let e = limit-in (on c.args.op) (off c.args.op) c.args.a.accepted c.requires.0 c.loop-row.row h in
    sofar-next c.loop-row.invariant (row (goal.at.loop-row-preserved c).After-combine_row-end) (small (on c.args.op) (off c.args.op) c.args.a.accepted c.requires.0 c.loop-row.row h)
    (omega (arith, e, c.requires.2)) (omega (arith, e, c.requires.3)) (omega (arith, length-set {A = ℕ}, c.requires.1)) _ c.count_bits.ensures

pub returns : goal.returns
returns c =
    let n : c.loop-row.row ≡ c.args.a.nrows = omega arith in
    let w = rw n at c.loop-row.invariant in
    let high : both c.args.a.row_word_ptr.now c.args.b.row_word_ptr.now c.args.a.nrows ≤ length c.args.a.masks.now + length c.args.b.masks.now = omega (arith, c.args.a.accepted.shape.ends, c.requires.0.shape.ends) in
    record {
      value = end-counts high c.requires.2 c.requires.3 w;
      pointers = end-pointers _ c.requires.1 w;
      words = end-words high c.requires.2 c.requires.3 w _ (c.fill.ensures.after (λ y k. k));
      masked = end-masks high c.requires.2 c.requires.3 w _ (c.fill-2.ensures.after (λ y k. k));
    }
