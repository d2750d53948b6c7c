-- `numeric_plan::inner::Numbered::write_rows` meets its contract. The invariant: the first k rows are written. Assumes nothing.
use Rattle.mask.specs.Mask.{in_mask}
use Rattle.side.specs.Side.{side_holds}
use Rattle.numeric_plan.proofs.Rows.{Rows}
use Rattle.numeric_plan.proofs.inner.Numbered.write_rows.Given as goal

abbrev pub invariant-loop-k : goal.invariant-loop-k
invariant-loop-k l =
    let t = l.self.bound.system in
    Rows t.local.region.len (in_mask t.local.region.words.now) (side_holds t.local.rows.row_word_ptr.now t.local.rows.word_indices.now t.local.rows.masks.now) t.matrix.row_ptr.now t.matrix.col_idx.now l.initial.local_ptr l.initial.local_cols l.initial.source_ptr l.initial.sources l.local_ptr l.local_cols l.source_ptr l.sources l.pair l.source l.k
