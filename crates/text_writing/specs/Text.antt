-- Numbers, lists and lines as bytes of text: decimal, no leading zero; lists use commas, an empty list is an empty value; a line
-- is a key and its value, and ends in a newline.
use Rattle.std.specs.Prelude.{cond, List, [], ◌∷◌, ◌++◌, ℕ, zero, suc, ◌+◌, ◌/◌, ◌%◌, ltb}

-- ',' and the newline
abbrev pub comma : ℕ
comma = 44

abbrev pub newline : ℕ
newline = 10

-- '0' and what is added to it
abbrev pub digit : ℕ → ℕ
digit d = 48 + d

-- the decimal digits of a number with at most k of them, the highest first
unfoldable pub digits_of : ℕ → ℕ → List ℕ
digits_of zero n = []
digits_of (suc k) n = cond (ltb n 10) (digit n ∷ []) (digits_of k (n / 10) ++ (digit (n % 10) ∷ []))

-- a number of 64 bits has at most 20
abbrev pub decimal : ℕ → List ℕ
decimal n = digits_of 20 n

-- a comma before each number
unfoldable pub further : List ℕ → List ℕ
further [] = []
further (x ∷ xs) = comma ∷ (decimal x ++ further xs)

-- the numbers, a comma between two
unfoldable pub numbers : List ℕ → List ℕ
numbers [] = []
numbers (x ∷ xs) = decimal x ++ further xs

-- the key, '=' included, the value, the newline
unfoldable pub line : List ℕ → List ℕ → List ℕ
line key value = key ++ (value ++ (newline ∷ []))
