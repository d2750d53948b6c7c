-- `binding::inner::System::follow_single` meets its contract. The invariant: where nothing differs so far, the first i words of the row are its first
-- i entries, one each. Assumes nothing.
use lib.ListN.{get_or}
use Rattle.binding.proofs.Runs.{Singly}
use Rattle.binding.proofs.inner.System.follow_single.Given as goal

abbrev pub invariant-loop-i : goal.invariant-loop-i
invariant-loop-i l = Singly l.self.local.rows.word_indices.now l.self.local.rows.masks.now l.self.local.region.words.now l.self.matrix.col_idx.now (get_or l.self.local.rows.row_word_ptr.now l.r 0) (get_or l.self.matrix.row_ptr.now l.r 0) l.end l.i l.other l.sources
