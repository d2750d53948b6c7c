-- What is said of a matrix, of one that is lent and of one that was accepted: `check_x` is `x_check` of the struct in the place of its numbers and
-- lists.
use Rattle.std.specs.Prelude.{◌≡◌, Bool, List, ℕ}
use Rattle.base.specs.Checks.{Check}
use Rattle.csr32.specs.declared.Csr32Matrix.{Csr32Matrix}
use Rattle.csr32.specs.declared.inner.Matrix.{Matrix}
use Rattle.csr32.specs.Matrix.{matrix_check, row_of, stored}

-- refusals 1 to 8
abbrev pub check_matrix : Csr32Matrix → Check
check_matrix m = matrix_check m.nrows m.ncols m.row_ptr.now m.col_idx.now m.values.now

-- the pairs that it stores
abbrev pub stores : Csr32Matrix → ℕ → ℕ → Bool
stores m = stored m.row_ptr.now m.col_idx.now

abbrev pub entries : Matrix → ℕ → ℕ → Bool
entries m = stored m.row_ptr.now m.col_idx.now

-- the columns of row r's entries, in stored order
abbrev pub columns_of_row : Matrix → ℕ → List ℕ
columns_of_row m = row_of m.row_ptr.now m.col_idx.now

-- the lent matrix as it was accepted
abbrev pub AcceptedFrom : Csr32Matrix → Matrix → Type 0
AcceptedFrom c m = (m.nrows ≡ c.nrows) × (m.ncols ≡ c.ncols) × (m.row_ptr ≡ c.row_ptr) × (m.col_idx ≡ c.col_idx)
