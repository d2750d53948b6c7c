-- `pattern::inner::Local::count` meets its contract. The invariant: the members before the one that comes next are counted. Assumes nothing.
use Rattle.mask.proofs.Nexts.{Over, coming}
use Rattle.side.specs.Side.{side_holds}
use Rattle.pattern.proofs.Counting.{Walked}
use Rattle.pattern.proofs.inner.Local.count.Given as goal

abbrev pub invariant-loop-r : goal.invariant-loop-r
invariant-loop-r l =
    Over l.self.region.len l.self.region.words.now l.r-iterator
    × Walked l.self.region.len (side_holds l.self.rows.row_word_ptr.now l.self.rows.word_indices.now l.self.rows.masks.now) l.self.region.words.now l.members l.rows (coming l.self.region.len l.self.region.words.now l.r-iterator)
