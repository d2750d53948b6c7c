-- `binding::inner::System::follow_single` meets its contract. The invariant: where nothing differs so far, the first i words of the row are its first
-- i entries, one each. Assumes nothing.
use mathlib.Core.Path.{ap, ◌∙◌}
use Prim.Native.Nat.{◌+◌, ◌≤◌}
use native.Mathlib.Omega.{arith}
use lib.ListN.{length, get_or}
use Rattle.base.specs.Sets.{one_if}
use Rattle.csr32.proofs.Matrix.{ptr_le}
use Rattle.side.proofs.AtRow.{at_up, at_words, at-masks}
use Rattle.pattern.proofs.Counting.{bool-number, bool-small}
use Rattle.binding.proofs.Runs.{same_start, single_start, single_turn, single_few, follow-last}
use Rattle.binding.proofs.inner.System.follow_single.Goals.{In-loop-i}
use Rattle.binding.proofs.inner.System.follow_single.Goals as goal

-- the row's entries are stored
in_cols : (c : In-loop-i) → get_or c.args.self.matrix.row_ptr.now (c.args.r + 1) 0 ≤ length c.args.self.matrix.col_idx.now
in_cols c = ptr_le _ _ _ _ c.args.self.square (c.args.r + 1) (omega (arith, c.requires.0))

pub loop-i-init : goal.loop-i-init
loop-i-init c =
    let r = c.args.r in
    let up = at_up _ _ _ _ _ c.args.self.local.square r c.requires.0 in
    single_start c.args.self.local.rows.word_indices.now c.args.self.local.rows.masks.now c.args.self.local.region.words.now c.args.self.matrix.col_idx.now _ _ _
    (same_start c.args.self.local.rows.word_indices.now c.args.self.local.rows.masks.now c.args.self.matrix.col_idx.now _ _ _
    (omega (arith, up, at_words _ _ _ _ _ c.args.self.local.square r c.requires.0)) (omega (arith, up, at-masks _ _ _ _ _ c.args.self.local.square r c.requires.0)) (c.args.self.square.rises r c.requires.0))

pub bounds-self-first : goal.bounds-self-first
bounds-self-first c = omega (arith, in_cols (goal.at.bounds-self-first c).In-loop-i)

pub bounds-self-from : goal.bounds-self-from
bounds-self-from c = omega (arith, at_words _ _ _ _ _ c.args.self.local.square c.args.r c.requires.0)

pub bounds-self-from-in-loop-i : goal.bounds-self-from-in-loop-i
bounds-self-from-in-loop-i c = omega (arith, at-masks _ _ _ _ _ c.args.self.local.square c.args.r c.requires.0)

pub overflow_add-sources : goal.overflow_add-sources
overflow_add-sources c =
    omega (arith, c.from-sources.ensures, bool-small c.holds.result, single_few _ _ _ _ _ _ _ _ _ _ c.loop-i.invariant (omega arith))

pub loop-i-preserved : goal.loop-i-preserved
loop-i-preserved c =
    let l = c.loop-i in
    let r = c.args.r in
    single_turn c.args.self.local.rows.word_indices.now c.args.self.local.rows.masks.now c.args.self.local.region.words.now c.args.self.matrix.col_idx.now _ _ _ l.i l.other l.sources l.invariant (omega arith) (get_or c.args.self.local.rows.row_word_ptr.now (r + 1) 0) (omega arith)
    (at_words _ _ _ _ _ c.args.self.local.square r c.requires.0) (at-masks _ _ _ _ _ c.args.self.local.square r c.requires.0) (c.args.self.local.square.rising r c.requires.0) (in_cols (goal.at.loop-i-preserved c).In-loop-i)
    _ (c.from-sources.ensures ∙ bool-number c.holds.result ∙ ap one_if c.holds.ensures)

pub returns : goal.returns
returns c =
    let l = c.loop-i in
    let r = c.args.r in
    let words = at_up _ _ _ _ _ c.args.self.local.square r c.requires.0 in
    let entries = c.args.self.square.rises r c.requires.0 in
    follow-last c.args.self.local.region.len c.args.self.local.rows.row_word_ptr.now c.args.self.local.rows.word_indices.now c.args.self.local.rows.masks.now c.args.self.matrix.row_ptr.now c.args.self.matrix.col_idx.now c.args.self.local.region.words.now r c.args.self.local.square c.args.self.local.region.accepted c.requires.0 _ _ l.sources l.sources (omega (arith, words, entries)) (omega (arith, entries)) (l.invariant.alike c.if-other-ne0.false)
