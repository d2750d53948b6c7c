-- What a text says: numbers have no leading zero, and a larger one than the most is none; lists use commas, an empty list is an
-- empty value; a line has its key and ends in a newline.
use Rattle.std.specs.Prelude.{Bool, false, not, cond, ◌&&◌, List, [], ◌∷◌, map, ℕ, zero, suc, ◌+◌, ◌-◌, ◌*◌, ◌≤◌, eqb, leb, ltb, length, take, drop}
use Rattle.std.specs.Prelude.{Option, Result, Ok, Err}
use Rattle.std.specs.Bool.{then_some}
use Rattle.base.specs.Lists.{every, is_in, same_list}
use Rattle.text_writing.specs.Text.{comma, newline}

-- a figure, and whether what was read is one
abbrev pub told : {A : Type 0} → Bool → A → Result A A
told good x = cond good (Ok x) (Err x)

-- ---- a number

-- '0' to '9'
abbrev pub is_digit : ℕ → Bool
is_digit b = leb 48 b && leb b 57

-- the number of the digits, where v was read before them
unfoldable pub value_from : ℕ → List ℕ → ℕ
value_from v [] = v
value_from v (d ∷ ds) = value_from (10 * v + (d - 48)) ds

-- a '0' with more behind it
unfoldable pub leading_zero : List ℕ → Bool
leading_zero [] = false
leading_zero (d ∷ ds) = eqb d 48 && ltb 0 (length ds)

-- a number of one digit is at most `most`
abbrev pub DigitFits : ℕ → Type 0
DigitFits most = 9 ≤ most

-- the bytes are a number of at most `most`: digits, one at least, no leading zero
unfoldable pub is_number : ℕ → List ℕ → Bool
is_number most ds = ltb 0 (length ds) && not (leading_zero ds) && every is_digit ds && leb (value_from 0 ds) most

-- which number, 0 where they are none
unfoldable pub number_of : ℕ → List ℕ → ℕ
number_of most ds = cond (is_number most ds) (value_from 0 ds) 0

-- the number, if the bytes are one
abbrev pub number_read : ℕ → List ℕ → Option ℕ
number_read most ds = then_some (is_number most ds) (number_of most ds)

-- ---- parts

-- the bytes before the first c, all where there is none
unfoldable pub before : ℕ → List ℕ → List ℕ
before c [] = []
before c (b ∷ t) = cond (eqb b c) [] (b ∷ before c t)

-- the bytes behind the first c, none where there is none
unfoldable pub behind : ℕ → List ℕ → List ℕ
behind c [] = []
behind c (b ∷ t) = cond (eqb b c) t (behind c t)

-- a byte more at the front of the first part
abbrev pub on_first : ℕ → List (List ℕ) → List (List ℕ)
on_first b [] = (b ∷ []) ∷ []
on_first b (p ∷ ps) = (b ∷ p) ∷ ps

-- the parts between one c and the next: one more than there are c
unfoldable pub parts : ℕ → List ℕ → List (List ℕ)
parts c [] = [] ∷ []
parts c (b ∷ t) = cond (eqb b c) ([] ∷ parts c t) (on_first b (parts c t))

-- ---- a list

-- what stands between the commas; an empty value has nothing
unfoldable pub fields : List ℕ → List (List ℕ)
fields [] = []
fields (b ∷ v) = parts comma (b ∷ v)

-- each is a number of at most `most`
unfoldable pub is_list : ℕ → List ℕ → Bool
is_list most v = every (is_number most) (fields v)

unfoldable pub list_of : ℕ → List ℕ → List ℕ
list_of most v = map (number_of most) (fields v)

-- how many fields, and whether the bytes are a list
abbrev pub list_read : ℕ → List ℕ → Result ℕ ℕ
list_read most v = told (is_list most v) (length (fields v))

-- ---- a line

-- the first line of the text has the key, '=' included, and a newline ends it
unfoldable pub is_line : List ℕ → List ℕ → Bool
is_line key t = is_in newline t && same_list (take (length key) (before newline t)) key

-- its value
unfoldable pub value_of : List ℕ → List ℕ → List ℕ
value_of key t = drop (length key) (before newline t)

-- what was read of a line's value, and whether the line is one too
abbrev pub held : {A : Type 0} → Bool → Result A A → Result A A
held good (Ok x) = told good x
held good (Err x) = Err x

-- the number of the first line, and whether it is a line of the key with one
abbrev pub number_found : List ℕ → ℕ → List ℕ → Result ℕ ℕ
number_found key most t = told (is_line key t && is_number most (value_of key t)) (number_of most (value_of key t))

-- how many numbers its list has, and whether it is a line of the key with one
abbrev pub list_found : List ℕ → ℕ → List ℕ → Result ℕ ℕ
list_found key most t = told (is_line key t && is_list most (value_of key t)) (length (list_of most (value_of key t)))

-- the text from line k on
unfoldable pub from_line : ℕ → List ℕ → List ℕ
from_line zero t = t
from_line (suc k) t = behind newline (from_line k t)
