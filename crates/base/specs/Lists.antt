-- Lists: tests of their elements, membership, lists made by a rule, and a list written over the front of a lent one.
use Rattle.std.specs.Prelude.{Bool, true, false, ◌&&◌, ◌||◌, List, [], ◌∷◌, ◌++◌, ℕ, zero, suc, ◌+◌, ◌-◌, leb, ltb, eqb, length, take, drop, replicate}
use Rattle.std.specs.List.{list_all}

-- every element of the list passes the test
abbrev pub every : {A : Type 0} → (A → Bool) → List A → Bool
every f xs = list_all f xs

-- every element and the one after it pass the test together
abbrev pub pairwise : {A : Type 0} → (A → A → Bool) → List A → Bool
pairwise f [] = true
pairwise f (x ∷ []) = true
pairwise f (x ∷ (y ∷ ys)) = f x y && pairwise f (y ∷ ys)

-- no element is larger than the next
abbrev pub rising : List ℕ → Bool
rising = pairwise leb

abbrev pub below : ℕ → ℕ → Bool
below n x = ltb x n

-- the number is in the list
unfoldable pub is_in : ℕ → List ℕ → Bool
is_in c [] = false
is_in c (x ∷ xs) = eqb x c || is_in c xs

-- the same numbers in the same places, length included
unfoldable pub same_list : List ℕ → List ℕ → Bool
same_list [] [] = true
same_list [] (y ∷ ys) = false
same_list (x ∷ xs) [] = false
same_list (x ∷ xs) (y ∷ ys) = eqb x y && same_list xs ys

-- f at, f (at + 1), …: k of them
unfoldable pub list_from : {A : Type 0} → (ℕ → A) → ℕ → ℕ → List A
list_from f zero at = []
list_from f (suc k) at = f at ∷ list_from f k (suc at)

-- f 0, then f 1, … , n lists end to end
unfoldable pub join_below : {A : Type 0} → ℕ → (ℕ → List A) → List A
join_below zero f = []
join_below (suc n) f = join_below n f ++ f n

-- the first k elements of the answer in the place of the lent list's own
abbrev pub written : {A : Type 0} → ℕ → List A → List A → List A
written k answer lent = take k answer ++ drop k lent

-- the answer over the front of the lent list: elements past it are unchanged
abbrev pub over : {A : Type 0} → List A → List A → List A
over answer lent = answer ++ drop (length answer) lent

-- the answer in the places from `from` on: elements before and past it are unchanged
unfoldable pub placed : {A : Type 0} → ℕ → List A → List A → List A
placed from answer lent = take from lent ++ (answer ++ drop (from + length answer) lent)

-- the answer, zero past it up to the needed length, and unchanged past that
abbrev pub over_with_zeros : List ℕ → ℕ → List ℕ → List ℕ
over_with_zeros answer needed lent = over (answer ++ replicate (needed - length answer) 0) lent

-- zeros in the places from lo up to hi, the rest unchanged
abbrev pub zeroed : ℕ → ℕ → List ℕ → List ℕ
zeroed lo hi lent = take lo lent ++ replicate (hi - lo) 0 ++ drop hi lent
