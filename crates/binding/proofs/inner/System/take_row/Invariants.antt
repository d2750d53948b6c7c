-- `binding::inner::System::take_row` meets its contract. The invariant: the words of the row before k have taken their columns. Assumes nothing.
use lib.ListN.{get_or}
use Rattle.binding.proofs.Seen.{Taking}
use Rattle.binding.proofs.inner.System.take_row.Given as goal

abbrev pub invariant-loop-k : goal.invariant-loop-k
invariant-loop-k l = Taking l.self.local.region.len l.self.local.rows.word_indices.now l.self.local.rows.masks.now l.self.local.region.words.now l.initial.seen (get_or l.self.local.rows.row_word_ptr.now l.r 0) l.k l.seen l.missing
