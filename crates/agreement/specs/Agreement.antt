-- The columns side is the transpose of the rows side.
use Rattle.std.specs.Prelude.{Bool, not, cond, ◌||◌, ℕ}
use Rattle.base.specs.Sets.{every_below}

abbrev pub same : Bool → Bool → Bool
same a b = cond a b (not b)

-- (r, c) is a pair of the rows exactly if (c, r) is one of the columns
unfoldable pub turned : ℕ → ℕ → (ℕ → ℕ → Bool) → (ℕ → ℕ → Bool) → Bool
turned nrows ncols rows columns = every_below nrows (λ r. every_below ncols (λ c. same (rows r c) (columns c r)))

-- every member of p below n is one of q
unfoldable pub within : ℕ → (ℕ → Bool) → (ℕ → Bool) → Bool
within n p q = every_below n (λ i. not (p i) || q i)
