-- `binding::inner::System::follow_row` meets its contract. The invariant: the words of the row before k hold the columns of its entries before e, and
-- what both hold inside the region is counted. Assumes nothing.
use Prim.Native.Nat.{◌+◌, ◌≤◌}
use native.Mathlib.Omega.{arith}
use lib.ListN.{length, get_or}
use Rattle.mask.proofs.Masks.{is-length}
use Rattle.csr32.proofs.Matrix.{ptr_le}
use Rattle.side.proofs.AtRow.{at_up, at_words, at-masks}
use Rattle.pattern.proofs.Rows.{row_word}
use Rattle.binding.proofs.Runs.{same_start, same_turn, follow_start, follow_turn, pairs_fit, sources_fit, follow-last}
use Rattle.binding.proofs.inner.System.follow_row.Goals.{In-loop-k}
use Rattle.binding.proofs.inner.System.follow_row.Goals as goal

-- the row's entries are stored
in_cols : (c : In-loop-k) → get_or c.args.self.matrix.row_ptr.now (c.args.r + 1) 0 ≤ length c.args.self.matrix.col_idx.now
in_cols c = ptr_le _ _ _ _ c.args.self.square (c.args.r + 1) (omega (arith, c.requires))

pub loop-k-init : goal.loop-k-init
loop-k-init c =
    let r = c.args.r in
    let up = at_up _ _ _ _ _ c.args.self.local.square r c.requires in
    follow_start c.args.self.local.rows.word_indices.now c.args.self.local.rows.masks.now c.args.self.local.region.words.now c.args.self.matrix.col_idx.now _ _ _
    (same_start c.args.self.local.rows.word_indices.now c.args.self.local.rows.masks.now c.args.self.matrix.col_idx.now _ _ _
    (omega (arith, up, at_words _ _ _ _ _ c.args.self.local.square r c.requires)) (omega (arith, up, at-masks _ _ _ _ _ c.args.self.local.square r c.requires)) (c.args.self.square.rises r c.requires))

pub bounds-self-k : goal.bounds-self-k
bounds-self-k c = omega (arith, at_words _ _ _ _ _ c.args.self.local.square c.args.r c.requires)

pub bounds-self-w : goal.bounds-self-w
bounds-self-w c =
    omega (arith, is-length _ _ c.args.self.local.region.accepted, row_word c.args.self.local.region.len c.args.self.local.rows.row_word_ptr.now c.args.self.local.rows.word_indices.now c.args.self.local.rows.masks.now c.args.self.local.region.words.now c.args.self.local.square c.args.self.local.region.accepted c.args.r c.requires c.loop-k.k c.loop-k-test.true)

pub take_word-run-requires : goal.take_word-run-requires
take_word-run-requires c = (c.loop-k.invariant.match.inside, in_cols (goal.at.take_word-run-requires c).In-loop-k, c.args.self.square.few_entries)

pub bounds-self-k-in-loop-k : goal.bounds-self-k-in-loop-k
bounds-self-k-in-loop-k c = omega (arith, at-masks _ _ _ _ _ c.args.self.local.square c.args.r c.requires)

pub overflow_add-pairs : goal.overflow_add-pairs
overflow_add-pairs c =
    let l = c.loop-k in
    omega (arith, pairs_fit c.args.self.local.rows.word_indices.now c.args.self.local.rows.masks.now c.args.self.local.region.words.now c.args.self.matrix.col_idx.now _ _ _ l.k l.e l.pairs l.sources l.invariant _ c.take_word-run.ensures, at-masks _ _ _ _ _ c.args.self.local.square c.args.r c.requires, c.args.self.local.square.shape.few_words)

pub overflow_add-sources : goal.overflow_add-sources
overflow_add-sources c =
    let l = c.loop-k in
    omega (arith, sources_fit c.args.self.local.rows.word_indices.now c.args.self.local.rows.masks.now c.args.self.local.region.words.now c.args.self.matrix.col_idx.now _ _ _ l.k l.e l.pairs l.sources l.invariant _ c.take_word-run.ensures, c.take_word-run.ensures.within, in_cols (goal.at.overflow_add-sources c).In-loop-k, c.args.self.square.few_entries)

pub loop-k-preserved : goal.loop-k-preserved
loop-k-preserved c =
    let l = c.loop-k in
    let r = c.args.r in
    follow_turn c.args.self.local.rows.word_indices.now c.args.self.local.rows.masks.now c.args.self.local.region.words.now c.args.self.matrix.col_idx.now _ _ _ l.k l.e l.pairs l.sources l.invariant _ c.take_word-run.ensures l.auto.k c.if-run-self.false
    (same_turn c.args.self.local.rows.word_indices.now c.args.self.local.rows.masks.now c.args.self.matrix.col_idx.now _ _ _ _ l.k l.e l.auto.k
    (at_words _ _ _ _ _ c.args.self.local.square r c.requires) (at-masks _ _ _ _ _ c.args.self.local.square r c.requires) (c.args.self.local.square.rising r c.requires) (in_cols (goal.at.loop-k-preserved c).In-loop-k) l.invariant.match c.loop-k-test.true
    _ _ c.take_word-run.ensures c.if-run-self.false)

pub returns : goal.returns
returns c =
    let l = c.loop-k in
    follow-last c.args.self.local.region.len c.args.self.local.rows.row_word_ptr.now c.args.self.local.rows.word_indices.now c.args.self.local.rows.masks.now c.args.self.matrix.row_ptr.now c.args.self.matrix.col_idx.now c.args.self.local.region.words.now c.args.r c.args.self.local.square c.args.self.local.region.accepted c.requires l.k l.e l.pairs l.sources (omega (arith, l.auto.k-end (at_up _ _ _ _ _ c.args.self.local.square c.args.r c.requires))) c.if-e-end.false l.invariant
