-- `binding::inner::count_sources` meets its contract. The invariant: the entries of the members before the one that comes next are counted.
-- Assumes nothing.
use Rattle.mask.proofs.Nexts.{Over, coming}
use Rattle.binding.proofs.Sources.{Counting}
use Rattle.binding.proofs.inner.count_sources.Given as goal

abbrev pub invariant-loop-r : goal.invariant-loop-r
invariant-loop-r l = Over l.region.len l.region.words.now l.r-iterator × Counting l.region.len l.region.words.now l.matrix.row_ptr.now l.matrix.col_idx.now l.sources (coming l.region.len l.region.words.now l.r-iterator)
