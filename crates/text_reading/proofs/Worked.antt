-- Small numbers, lists and lines, by computing the definitions. Assumes nothing.
use mathlib.Core.Path.{◌≡◌, refl}
use mathlib.Core.Bool.{true, false}
use mathlib.Core.List.{List, [], ◌∷◌}
use Prim.Native.Nat.{ℕ}
use Rattle.base.specs.Lists.{is_in, same_list}
use Rattle.text_reading.specs.Reading.{value_from, leading_zero, is_number, number_of, before, behind, parts, fields, is_list, list_of, is_line, value_of, from_line}

-- of at most 255
pub record Numbers : Type 0 where
  -- "0", "10", "255"
  pub zero : is_number 255 (48 ∷ []) ≡ true
  pub ten : is_number 255 (49 ∷ 48 ∷ []) ≡ true
  pub ten_value : number_of 255 (49 ∷ 48 ∷ []) ≡ 10
  pub most : is_number 255 (50 ∷ 53 ∷ 53 ∷ []) ≡ true
  -- "256", "03", "", "1 ", "-1"
  pub past : is_number 255 (50 ∷ 53 ∷ 54 ∷ []) ≡ false
  pub past_value : number_of 255 (50 ∷ 53 ∷ 54 ∷ []) ≡ 0
  pub leading : is_number 255 (48 ∷ 51 ∷ []) ≡ false
  pub nothing : is_number 255 [] ≡ false
  pub space : is_number 255 (49 ∷ 32 ∷ []) ≡ false
  pub minus : is_number 255 (45 ∷ 49 ∷ []) ≡ false

pub numbers : Numbers
unfolding value_from leading_zero is_number number_of
numbers =
    record {
      zero = refl;
      ten = refl;
      ten_value = refl;
      most = refl;
      past = refl;
      past_value = refl;
      leading = refl;
      nothing = refl;
      space = refl;
      minus = refl;
    }

pub record Lists : Type 0 where
  -- "", "1", "1,2"
  pub none : is_list 255 [] ≡ true
  pub none_list : list_of 255 [] ≡ []
  pub one : is_list 255 (49 ∷ []) ≡ true
  pub two : is_list 255 (49 ∷ 44 ∷ 50 ∷ []) ≡ true
  pub two_list : list_of 255 (49 ∷ 44 ∷ 50 ∷ []) ≡ 1 ∷ 2 ∷ []
  -- "1,", ",1"
  pub last_missing : is_list 255 (49 ∷ 44 ∷ []) ≡ false
  pub first_missing : is_list 255 (44 ∷ 49 ∷ []) ≡ false

pub lists : Lists
unfolding value_from leading_zero is_number number_of parts fields is_list list_of
lists = record { none = refl; none_list = refl; one = refl; two = refl; two_list = refl; last_missing = refl; first_missing = refl }

-- "n="
abbrev key : List ℕ
key = 110 ∷ 61 ∷ []

-- "n=12", a newline, "m"
abbrev text : List ℕ
text = 110 ∷ 61 ∷ 49 ∷ 50 ∷ 10 ∷ 109 ∷ []

pub record Lines : Type 0 where
  pub line : is_line key text ≡ true
  pub value : value_of key text ≡ 49 ∷ 50 ∷ []
  pub next : from_line 1 text ≡ 109 ∷ []
  -- "m" and a newline: another key; "n=1": no newline
  pub other : is_line key (109 ∷ 10 ∷ []) ≡ false
  pub unended : is_line key (110 ∷ 61 ∷ 49 ∷ []) ≡ false

pub lines : Lines
unfolding before behind is_in same_list is_line value_of from_line
lines = record { line = refl; value = refl; next = refl; other = refl; unended = refl }
