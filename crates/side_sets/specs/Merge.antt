-- What the steps of a merge of two rows hand on to one another; no caller needs it.
use Rattle.std.specs.Prelude.{◌≡◌, ◌⊎◌, cond, ◌&&◌, List, ℕ, ◌+◌, ◌≤◌, ◌<◌, eqb, ltb, length, get_or}
use Rattle.side.specs.Side.{row_holds}
use Rattle.side.specs.Row.{Row}
use Rattle.side_sets.specs.declared.inner.Taken.{Taken}

-- at from..to of two lists stand the words of the columns that they hold
pub record OwnRow (idx masks : List ℕ) (from to : ℕ) : Type 0 where
  pub order : from ≤ to
  pub words_long : to ≤ length idx
  pub masks_long : to ≤ length masks
  pub row : Row (row_holds idx masks from to) idx masks from to

-- of the words at a, before a', and at b, before b', the smaller
pub record Next (left : List ℕ) (a a' : ℕ) (right : List ℕ) (b b' word : ℕ) : Type 0 where
  pub low_left : a < a' → word ≤ get_or left a 0
  pub low_right : b < b' → word ≤ get_or right b 0
  pub own : ((a < a') × (get_or left a 0 ≡ word)) ⊎ ((b < b') × (get_or right b 0 ≡ word))

-- where the word stands at k, before `to`: its mask, and the place after k; where it does not: 0 and k
unfoldable pub taken_at : List ℕ → List ℕ → ℕ → ℕ → ℕ → Taken
taken_at idx masks k to word = cond (ltb k to && eqb (get_or idx k 0) word) (record { mask = get_or masks k 0; next = k + 1 }) (record { mask = 0; next = k })
