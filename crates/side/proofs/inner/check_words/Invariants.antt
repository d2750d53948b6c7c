use Rattle.std.proofs.Common.{get_or}
use Rattle.base.proofs.Sets.{None}
use Rattle.side.specs.Check.{bad_at}
use Rattle.side.proofs.inner.check_words.Given as goal

abbrev pub invariant-loop-r : goal.invariant-loop-r
invariant-loop-r l = None (bad_at l.nrows l.ncols l.row_word_ptr l.word_indices l.masks) (get_or l.row_word_ptr l.r 0)
