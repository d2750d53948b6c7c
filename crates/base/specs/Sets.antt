-- A set of numbers is a predicate `ℕ → Bool`. What is said of the members below a bound: whether there is one, which is the first, whether all
-- are, how many, a sum over them, the largest, and the members in rising order.
use Rattle.std.specs.Prelude.{Bool, true, false, cond, ◌&&◌, ◌||◌, List, [], ◌∷◌, ℕ, zero, suc, ◌+◌, max, leb, ltb, eqb}

-- the numbers from lo up to, and without, hi
abbrev pub between : ℕ → ℕ → ℕ → Bool
between lo hi i = leb lo i && ltb i hi

-- the set with c in it
abbrev pub adding : (ℕ → Bool) → ℕ → ℕ → Bool
adding p c i = p i || eqb c i

-- some number below n passes
unfoldable pub any_below : ℕ → (ℕ → Bool) → Bool
any_below zero p = false
any_below (suc n) p = any_below n p || p n

-- the lowest number below n that passes, or n where none does
unfoldable pub first_below : ℕ → (ℕ → Bool) → ℕ
first_below zero p = 0
first_below (suc n) p = cond (p 0) 0 (suc (first_below n (λ i. p (suc i))))

-- every number below n passes
unfoldable pub every_below : ℕ → (ℕ → Bool) → Bool
every_below zero p = true
every_below (suc n) p = every_below n p && p n

-- the sum of f 0, f 1, … , n of them
unfoldable pub sum_below : ℕ → (ℕ → ℕ) → ℕ
sum_below zero f = 0
sum_below (suc n) f = sum_below n f + f n

-- the largest of f 0, f 1, … , n of them, or 0 where there is none
unfoldable pub largest_below : ℕ → (ℕ → ℕ) → ℕ
largest_below zero f = 0
largest_below (suc n) f = max (largest_below n f) (f n)

abbrev pub one_if : Bool → ℕ
one_if true = 1
one_if false = 0

-- how many numbers below n pass
abbrev pub count_below : ℕ → (ℕ → Bool) → ℕ
count_below n p = sum_below n (λ i. one_if (p i))

-- the sum of f over the members below n
abbrev pub sum_over : ℕ → (ℕ → Bool) → (ℕ → ℕ) → ℕ
sum_over n p f = sum_below n (λ i. cond (p i) (f i) 0)

-- `i`, in front of the rest, where it is wanted
abbrev pub keep : Bool → ℕ → List ℕ → List ℕ
keep true i rest = i ∷ rest
keep false i rest = rest

-- of the `n` numbers from `b` on, those that pass, in rising order
unfoldable pub members_from : (ℕ → Bool) → ℕ → ℕ → List ℕ
members_from p b zero = []
members_from p b (suc n) = keep (p b) b (members_from p (suc b) n)

-- the members below n, in rising order
abbrev pub members_below : ℕ → (ℕ → Bool) → List ℕ
members_below n p = members_from p 0 n
