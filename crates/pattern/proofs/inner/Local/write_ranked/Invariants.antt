-- `pattern::inner::Local::write_ranked` meets its contract. The invariant: the members before the one that comes next are written. Assumes nothing.
use Rattle.mask.proofs.Nexts.{Over, coming}
use Rattle.side.specs.Side.{side_holds}
use Rattle.pattern.proofs.Writing.{Writing}
use Rattle.pattern.proofs.inner.Local.write_ranked.Given as goal

abbrev pub invariant-loop-k : goal.invariant-loop-k
invariant-loop-k l =
    Over l.self.region.len l.self.region.words.now l.k-iterator.iter
    × Writing l.self.region.len (side_holds l.self.rows.row_word_ptr.now l.self.rows.word_indices.now l.self.rows.masks.now) l.self.region.words.now l.fn.global_nodes l.fn.row_ptr l.fn.col_idx l.global_nodes l.row_ptr l.col_idx l.next l.k-iterator.count (coming l.self.region.len l.self.region.words.now l.k-iterator.iter)
