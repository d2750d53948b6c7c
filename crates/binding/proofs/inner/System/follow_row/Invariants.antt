-- `binding::inner::System::follow_row` meets its contract. The invariant: the words of the row before k hold the columns of its entries before e, and
-- what both hold inside the region is counted. Assumes nothing.
use lib.ListN.{get_or}
use Rattle.binding.proofs.Runs.{Following}
use Rattle.binding.proofs.inner.System.follow_row.Given as goal

abbrev pub invariant-loop-k : goal.invariant-loop-k
invariant-loop-k l = Following l.self.local.rows.word_indices.now l.self.local.rows.masks.now l.self.local.region.words.now l.self.matrix.col_idx.now (get_or l.self.local.rows.row_word_ptr.now l.r 0) (get_or l.self.matrix.row_ptr.now l.r 0) l.end l.k l.e l.pairs l.sources
