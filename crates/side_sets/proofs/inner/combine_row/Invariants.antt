-- The words below a bound are merged, and both rows go on at or past it.
use Rattle.std.proofs.Common.{◌+◌, ◌-◌, length}
use Rattle.word.specs.Answers.{on}
use Rattle.side_sets.proofs.Merging.{Merging}
use Rattle.side_sets.proofs.inner.combine_row.Given as goal

abbrev pub invariant-loop-i : goal.invariant-loop-i
invariant-loop-i l =
    Merging (on l.op) l.a.word_indices.now l.a.masks.now 0 (length l.a.masks.now) l.b.word_indices.now l.b.masks.now 0 (length l.b.masks.now) l.from l.initial.word_indices l.initial.masks l.word_indices l.masks l.i l.j l.to

abbrev pub decreases-loop-i : goal.decreases-loop-i
decreases-loop-i l = length l.a.masks.now + length l.b.masks.now - (l.i + l.j)
