-- A run of blocks of one field. No promise of a public call speaks of it.
use Rattle.std.specs.Prelude.{◌≡◌, List, ℕ, ◌≤◌, ◌<◌, length, get_or}

-- the blocks from a up to b have the field, and b, if there is such a block, has not
pub record Run (fields : List ℕ) (field a b : ℕ) : Type 0 where
  pub from : a ≤ b
  pub within : b ≤ length fields
  pub all : (c : ℕ) → a ≤ c → c < b → get_or fields c 0 ≡ field
  pub ends : b < length fields → get_or fields b 0 ≡ field → ⊥
