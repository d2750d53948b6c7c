-- `binding::inner::System::settle_row` meets its contract. Assumes nothing.
use mathlib.Core.Path.{refl}
use Rattle.mask.specs.Mask.{in_mask}
use Rattle.side.specs.Side.{side_holds}
use Rattle.binding.proofs.Sources.{row-follows}
use Rattle.binding.proofs.inner.System.settle_row.Goals as goal

pub returns-in-Some-clause-value : goal.returns-in-Some-clause-value
returns-in-Some-clause-value c =
    let a = c.args in
    row-follows a.self.local.region.len (in_mask a.self.local.region.words.now) (side_holds a.self.local.rows.row_word_ptr.now a.self.local.rows.word_indices.now a.self.local.rows.masks.now) a.self.matrix.row_ptr.now a.self.matrix.col_idx.now a.r _ _ c.in-Some.ensures refl
