-- `binding::inner::System::follow_members` meets its contract. The invariant: the rows of the members before the one that comes next pass, are
-- counted, and are marked where they have a pair. Assumes nothing.
use Rattle.mask.proofs.Nexts.{Over, coming}
use Rattle.side.specs.Side.{side_holds}
use Rattle.binding.proofs.Paired.{Marks}
use Rattle.binding.proofs.Sources.{Settling}
use Rattle.binding.proofs.inner.System.follow_members.Given as goal

abbrev pub invariant-loop-r : goal.invariant-loop-r
invariant-loop-r l =
    Over l.self.local.region.len l.self.local.region.words.now l.r-iterator
    × Settling l.self.local.region.len l.self.local.region.words.now l.self.local.rows.row_word_ptr.now l.self.local.rows.word_indices.now l.self.local.rows.masks.now l.self.matrix.row_ptr.now l.self.matrix.col_idx.now l.members l.rows (coming l.self.local.region.len l.self.local.region.words.now l.r-iterator)
    × Marks l.self.local.region.len l.self.local.region.words.now (side_holds l.self.local.rows.row_word_ptr.now l.self.local.rows.word_indices.now l.self.local.rows.masks.now) l.paired (coming l.self.local.region.len l.self.local.region.words.now l.r-iterator)
