-- `csr32::inner::Matrix::row_columns` meets its contract. Assumes nothing.
use Prim.Native.Nat.{◌+◌}
use native.Mathlib.Omega.{arith}
use Rattle.csr32.proofs.Matrix.{ptr_le}
use Rattle.csr32.proofs.inner.Matrix.row_columns.Goals as goal

pub slice_bounds-result-end : goal.slice_bounds-result-end
slice_bounds-result-end c = ptr_le _ _ _ _ c.args.self.accepted (c.args.row + 1) (omega (arith, c.requires))
