-- A job's matrix, layout and seeds as they are lent: the region's lines, and the room that they have.
use Rattle.std.specs.Prelude.{◌≡◌, Ok, List, ℕ, ◌≤◌, length}
use Rattle.csr32.specs.declared.Csr32Matrix.{Csr32Matrix}
use Rattle.mask.specs.declared.DofMask.{DofMask}
use Rattle.mask.specs.Mask.{mask_check}
use Rattle.dof_layout.specs.declared.FieldAwareDofLayout.{FieldAwareDofLayout}
use Rattle.peak_job.specs.Answer.{region_text}

-- the five lines of the region
abbrev pub lent_text : Csr32Matrix → FieldAwareDofLayout → DofMask → ℕ → List ℕ
lent_text m l s h = region_text m.nrows m.row_ptr.now m.col_idx.now l.blocks.components.now s.words.now h

-- a square matrix and a mask of its nodes that have room in the arrays
pub record Small (m : Csr32Matrix) (s : DofMask) : Type 0 where
  pub square : m.ncols ≡ m.nrows
  pub few : m.nrows ≤ 256
  pub short : length m.col_idx.now ≤ 1023
  pub alike : s.len ≡ m.nrows
  pub mask : mask_check m.nrows s.words.now ≡ Ok tt
