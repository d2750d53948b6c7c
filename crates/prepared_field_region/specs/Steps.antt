-- What the steps of a prepared region hand on to one another; no caller of the API needs it.
use Rattle.std.specs.Prelude.{◌≡◌, Bool, List, ℕ, ◌+◌, ◌≤◌, ◌<◌, take, length}
use Rattle.side.specs.Side.{flip, side_ptr, side_words, side_masks}
use Rattle.dual_topology.specs.declared.TopologyCounts.{TopologyCounts}

-- the lists of a topology's building reach their needed lengths
abbrev pub BuildingFits : ℕ → ℕ → ℕ → List ℕ → List ℕ → List ℕ → List ℕ → List ℕ → List ℕ → List ℕ → List ℕ → Type 0
BuildingFits nrows ncols entries rptr ridx rmasks cptr cidx cmasks starts order =
    (nrows < length rptr) × (entries ≤ length ridx) × (entries ≤ length rmasks) × (ncols < length cptr) × (entries ≤ length cidx) × (entries ≤ length cmasks) × (ncols < length starts) × (entries ≤ length order)

-- a part that holds an answer alone
pub record Own (part : ℕ) (list answer : List ℕ) : Type 0 where
  pub room : part ≤ length list
  pub long : part ≡ length (take part list)
  pub same : take part list ≡ answer

-- both sides of s, each list's at its front
pub record BuiltLists (nrows ncols : ℕ) (s : ℕ → ℕ → Bool) (counts : TopologyCounts) (rptr ridx rmasks cptr cidx cmasks : List ℕ) : Type 0 where
  pub row_pointers : Own (nrows + 1) rptr (side_ptr nrows ncols s)
  pub row_words : Own counts.row_words ridx (side_words nrows ncols s)
  pub row_masks : Own counts.row_words rmasks (side_masks nrows ncols s)
  pub column_pointers : Own (ncols + 1) cptr (side_ptr ncols nrows (flip s))
  pub column_words : Own counts.column_words cidx (side_words ncols nrows (flip s))
  pub column_masks : Own counts.column_words cmasks (side_masks ncols nrows (flip s))
