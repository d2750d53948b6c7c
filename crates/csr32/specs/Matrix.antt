-- The check of a matrix, refusals 1 to 8 in order, and the pairs that a matrix stores.
use Rattle.std.specs.Prelude.{◌≡◌, ℕ, ◌+◌, ◌≤◌, ◌<◌, Bool, true, false, List, length, get_or, leb, eqb, Float}
use Rattle.base.specs.Checks.{Check}
use Rattle.base.specs.declared.Refusal.TheVariants.{OverLimit, RowPtrLength, EntryLengths, RowPtrStart, RowPtrEnd, RowPtrFalls, ColumnOutside, NotFinite}
use Rattle.std.proofs.Math.Seq.{slice}
use Rattle.std.specs.Float.{nan, inf, fin}
use Rattle.base.specs.Checks.{must, ◌then◌, side_limit, entry_limit}
use Rattle.base.specs.Lists.{every, rising, below, is_in}

-- neither a NaN nor an infinity
abbrev pub finite : Float → Bool
finite nan = false
finite (inf s) = false
finite (fin s m e) = true

unfoldable pub matrix_check : ℕ → ℕ → List ℕ → List ℕ → List Float → Check
matrix_check nrows ncols ptr cols values =
    must (leb nrows side_limit) OverLimit
    then must (leb ncols side_limit) OverLimit
    then must (leb (length cols) entry_limit) OverLimit
    then must (leb (length values) entry_limit) OverLimit
    then must (eqb (length ptr) (nrows + 1)) RowPtrLength
    then must (eqb (length cols) (length values)) EntryLengths
    then must (eqb (get_or ptr 0 0) 0) RowPtrStart
    then must (eqb (get_or ptr nrows 0) (length values)) RowPtrEnd
    then must (rising ptr) RowPtrFalls
    then must (every (below ncols) cols) ColumnOutside
    then must (every finite values) NotFinite

-- the columns of row r's entries, in stored order
abbrev pub row_of : List ℕ → List ℕ → ℕ → List ℕ
row_of ptr cols r = slice (get_or ptr r 0) (get_or ptr (r + 1) 0) cols

-- the pair (r, c) is stored: some entry of row r has column c
unfoldable pub stored : List ℕ → List ℕ → ℕ → ℕ → Bool
stored ptr cols r c = is_in c (row_of ptr cols r)

-- an accepted matrix, without its values
pub record IsMatrix (nrows ncols : ℕ) (ptr cols : List ℕ) : Type 0 where
  pub few_rows : nrows ≤ side_limit
  pub few_cols : ncols ≤ side_limit
  pub few_entries : length cols ≤ entry_limit
  pub rows : length ptr ≡ nrows + 1
  pub starts : get_or ptr 0 0 ≡ 0
  pub ends : get_or ptr nrows 0 ≡ length cols
  pub rises : (r : ℕ) → r < nrows → get_or ptr r 0 ≤ get_or ptr (r + 1) 0
  pub inside : (k : ℕ) → k < length cols → get_or cols k 0 < ncols

-- and its values
pub record IsValues (cols : List ℕ) (values : List Float) : Type 0 where
  pub as_many : length values ≡ length cols
  pub finite_at : (k : ℕ) → k < length values → finite (get_or values k nan) ≡ true

pub record Accepts (nrows ncols : ℕ) (ptr cols : List ℕ) (values : List Float) : Type 0 where
  pub matrix : IsMatrix nrows ncols ptr cols
  pub entries : IsValues cols values
