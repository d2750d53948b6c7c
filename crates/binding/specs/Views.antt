-- What is said of a system: a region of a square topology, and the matrix of the same nodes.
use Rattle.std.specs.Prelude.{Bool, Option, ℕ}
use Rattle.base.specs.Checks.{Check}
use Rattle.mask.specs.Views.{nodes}
use Rattle.csr32.specs.Views.{entries}
use Rattle.side.specs.Views.{pairs}
use Rattle.binding.specs.declared.inner.System.{System}
use Rattle.binding.specs.declared.RowCounts.{RowCounts}
use Rattle.binding.specs.declared.Counts.{Counts}
use Rattle.binding.specs.Binding.{row_faults, binding_check}
use Rattle.binding.specs.Steps.{Followed, has_pair, row_counts, counts_of}

-- 23 and 24 by local row
abbrev pub check_binding : System → Check
check_binding s = binding_check s.local.region.len (nodes s.local.region) (pairs s.local.rows) (entries s.matrix)

-- 23 and 24 of row r
abbrev pub row_check : System → ℕ → Check
row_check s r = row_faults s.local.region.len (nodes s.local.region) (pairs s.local.rows r) (entries s.matrix r)

-- what its members' rows hold, and what row r holds
abbrev pub held : System → Counts
held s = counts_of s.local.region.len (nodes s.local.region) (pairs s.local.rows) s.matrix.row_ptr.now s.matrix.col_idx.now

abbrev pub row_held : System → ℕ → RowCounts
row_held s r = row_counts s.local.region.len (nodes s.local.region) (pairs s.local.rows) s.matrix.row_ptr.now s.matrix.col_idx.now r

-- what is said of row r where its words are its entries
abbrev pub FollowedRow : System → ℕ → Option RowCounts → Type 0
FollowedRow s r k = Followed s.local.region.len (nodes s.local.region) (pairs s.local.rows) s.matrix.row_ptr.now s.matrix.col_idx.now r k

-- member r's row has a pair inside
abbrev pub paired_row : System → ℕ → Bool
paired_row s = has_pair s.local.region.len (nodes s.local.region) (pairs s.local.rows)
