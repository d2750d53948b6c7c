-- The pairs of two sides under an operation.
use Rattle.std.specs.Prelude.{Bool, ℕ}

-- pair by pair
abbrev pub pairwise_pairs : (Bool → Bool → Bool) → (ℕ → ℕ → Bool) → (ℕ → ℕ → Bool) → ℕ → ℕ → Bool
pairwise_pairs on a b r c = on (a r c) (b r c)
