-- What is said of a side, of one that is lent and of one that was accepted: `check_x` is `x_check` of the struct in the place of its numbers and
-- lists.
use Rattle.std.specs.Prelude.{◌≡◌, Bool, Result, ℕ, ◌≤◌, length}
use Rattle.base.specs.Checks.{Check, side_limit, entry_limit}
use Rattle.side.specs.declared.AbtmTopology.{AbtmTopology}
use Rattle.side.specs.declared.Fault.{Fault}
use Rattle.side.specs.declared.inner.Side.{Side}
use Rattle.side.specs.declared.inner.RowWords.{RowWords}
use Rattle.side.specs.Side.{row_holds, side_holds}
use Rattle.side.specs.Check.{limit_check, side_fault, side_check, bits_in, IsSide}

-- 1, 9
abbrev pub check_side : AbtmTopology → Check
check_side t = side_check t.nrows t.ncols t.row_word_ptr.now t.word_indices.now t.masks.now t.structural_nnz

-- 1
abbrev pub check_limits : AbtmTopology → Check
check_limits t = limit_check t.nrows t.ncols t.word_indices.now t.masks.now t.structural_nnz

-- its first fault, where it is within the limits
abbrev pub fault_in : AbtmTopology → Result Unit Fault
fault_in t = side_fault t.nrows t.ncols t.row_word_ptr.now t.word_indices.now t.masks.now t.structural_nnz

-- row r is paired with column c
abbrev pub holds : AbtmTopology → ℕ → ℕ → Bool
holds t = side_holds t.row_word_ptr.now t.word_indices.now t.masks.now

abbrev pub pairs : Side → ℕ → ℕ → Bool
pairs s = side_holds s.row_word_ptr.now s.word_indices.now s.masks.now

-- the row has column c
abbrev pub held : RowWords → ℕ → Bool
held r = row_holds r.word_indices.now r.masks.now 0 (length r.masks.now)

-- it is within the limits of refusal 1
abbrev pub WithinLimits : AbtmTopology → Type 0
WithinLimits t = (t.nrows ≤ side_limit) × (t.ncols ≤ side_limit) × (length t.masks.now ≤ entry_limit) × (t.structural_nnz ≤ entry_limit)

-- its numbers and lists are a side
abbrev pub IsLent : AbtmTopology → Type 0
IsLent t = IsSide t.nrows t.ncols t.row_word_ptr.now t.word_indices.now t.masks.now

-- what is known of a side that its check accepts: it is one, and its pair count is right
abbrev pub SoundSide : AbtmTopology → Type 0
SoundSide t = IsLent t × (t.structural_nnz ≡ bits_in t.masks.now 0 (length t.masks.now))

-- the lent side as it was accepted
abbrev pub AcceptedFrom : AbtmTopology → Side → Type 0
AcceptedFrom t s =
    (s.nrows ≡ t.nrows) × (s.ncols ≡ t.ncols) × (s.row_word_ptr ≡ t.row_word_ptr) × (s.word_indices ≡ t.word_indices) × (s.masks ≡ t.masks)
