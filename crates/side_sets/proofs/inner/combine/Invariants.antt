use Rattle.word.specs.Answers.{on}
use Rattle.side.specs.Side.{side_holds}
use Rattle.side.proofs.Writing.{Sofar}
use Rattle.side_sets.specs.Sets.{pairwise_pairs}
use Rattle.side_sets.proofs.Rows.{both}
use Rattle.side_sets.proofs.inner.combine.Given as goal

abbrev pub invariant-loop-row : goal.invariant-loop-row
invariant-loop-row l =
    Sofar l.a.ncols (pairwise_pairs (on l.op) (side_holds l.a.row_word_ptr.now l.a.word_indices.now l.a.masks.now) (side_holds l.b.row_word_ptr.now l.b.word_indices.now l.b.masks.now)) (both l.a.row_word_ptr.now l.b.row_word_ptr.now)
    l.row l.to l.pairs l.initial.row_word_ptr l.initial.word_indices l.initial.masks l.row_word_ptr l.word_indices l.masks
