-- A list of numbers as text, with one number more; a line; a byte put before what stands already. Assumes nothing.
use mathlib.Core.Path.{◌≡◌, refl, sym, ap, ap₂, ◌∙◌}
use mathlib.Core.List.{List, [], ◌∷◌, ◌++◌, append_assoc, append-nil}
use Prim.Native.Nat.{ℕ, zero, suc, ◌+◌, ◌-◌, ◌*◌, ◌≤◌, ◌<◌}
use native.Mathlib.Numerals.{add-one}
use native.Mathlib.Omega.{arith}
use lib.ListN.{length, get_or, set, take, drop, length-append}
use lib.Seq.{take-suc, set_at, length-take-le}
use Rattle.std.specs.List.{sum_by}
use Rattle.std.proofs.lemmas.List.Sums.{sum_by-cons}
use Rattle.base.specs.Lists.{placed}
use Rattle.base.proofs.Lists.{placed-none, placed-length, placed-more, placed-next}
use Rattle.text_writing.specs.Text.{comma, newline, decimal, further, numbers, line}
use Rattle.text_writing.proofs.Digits.{decimal-most, decimal-some}

-- ---- a list

pub numbers-none : (xs : List ℕ) → length xs ≡ 0 → numbers xs ≡ []
unfolding numbers
numbers-none [] h = refl
numbers-none (x ∷ xs) h = absurd (omega arith)

-- a number behind others
further-last : (xs : List ℕ) (x : ℕ) → further (xs ++ (x ∷ [])) ≡ further xs ++ (comma ∷ decimal x)
unfolding further
further-last [] x = ap (λ (t : List ℕ). comma ∷ t) (append-nil (decimal x))
further-last (y ∷ ys) x =
    ap (λ (t : List ℕ). comma ∷ t) (ap (λ (t : List ℕ). decimal y ++ t) (further-last ys x) ∙ sym (append_assoc (decimal y) (further ys) (comma ∷ decimal x)))

-- the first number of a list, and number k behind it with its comma
module _ (xs : List ℕ) (x : ℕ) (r : List ℕ) (e : xs ≡ x ∷ r) where
  pub numbers-first : numbers (take (0 + 1) xs) ≡ decimal x
  unfolding numbers further
  numbers-first = ap (λ (l : List ℕ). numbers (take 1 l)) e ∙ append-nil (decimal x)

  pub numbers-next : (k : ℕ) → k < length r → numbers (take (k + 1 + 1) xs) ≡ numbers (take (k + 1) xs) ++ (comma ∷ decimal (get_or r k 0))
  unfolding numbers
  numbers-next k h =
      ap₂ (λ (n : ℕ) (l : List ℕ). numbers (take n l)) (add-one (k + 1)) e
      ∙ ap (λ (t : List ℕ). decimal x ++ further t) (ap (λ (n : ℕ). take n r) (add-one k) ∙ take-suc r k 0 h)
      ∙ ap (λ (t : List ℕ). decimal x ++ t) (further-last (take k r) (get_or r k 0))
      ∙ sym (append_assoc (decimal x) (further (take k r)) (comma ∷ decimal (get_or r k 0)))
      ∙ ap (λ (t : List ℕ). t ++ (comma ∷ decimal (get_or r k 0))) (sym (ap₂ (λ (n : ℕ) (l : List ℕ). numbers (take n l)) (add-one k) e))

-- ---- a byte before what stands from the next place on

pub placed-ahead : (at : ℕ) (X l : List ℕ) (v : ℕ) → at < length l → set (placed (at + 1) X l) at v ≡ placed at (v ∷ X) l
unfolding placed
placed-ahead at X l v h =
    let long : length (take at l) ≡ at = length-take-le at l (omega arith) in
    let e : at + 1 + length X ≡ at + length (v ∷ X) = omega arith in
    ap (λ (t : List ℕ). set (t ++ (X ++ drop (at + 1 + length X) l)) at v) (ap (λ (k : ℕ). take k l) (add-one at) ∙ take-suc l at 0 h)
    ∙ ap (λ (t : List ℕ). set t at v) (append_assoc (take at l) (get_or l at 0 ∷ []) (X ++ drop (at + 1 + length X) l))
    ∙ set_at (take at l) (get_or l at 0) (X ++ drop (at + 1 + length X) l) v at long
    ∙ ap (λ (k : ℕ). take at l ++ (v ∷ (X ++ drop k l))) e

-- ---- a text put behind another

pub placed_one : (at : ℕ) (l : List ℕ) (v : ℕ) → at < length l → set l at v ≡ placed at (v ∷ []) l
placed_one at l v h =
    let e : at ≡ at + 0 = omega arith in
    ap₂ (λ (x : List ℕ) (i : ℕ). set x i v) (sym (placed-none at l)) e ∙ placed-next at [] l v 0 (omega arith)

module _ (at : ℕ) (X o : List ℕ) (h : at + length X ≤ length o) (l : List ℕ) (p : l ≡ placed at X o) where
  pub put-long : length l ≡ length o
  put-long = ap length p ∙ placed-length at X o h

  pub put-behind : (Y m : List ℕ) (n : ℕ) → n ≡ at + length X → m ≡ placed n Y l → m ≡ placed at (X ++ Y) o
  put-behind Y m n e q = q ∙ ap₂ (λ (i : ℕ) (x : List ℕ). placed i Y x) e p ∙ placed-more at X Y o h

-- ---- lengths

-- the text of the first numbers is no longer than that of all
further-part : (xs : List ℕ) (k : ℕ) → length (further (take k xs)) ≤ length (further xs)
unfolding further
further-part [] zero = omega arith
further-part [] (suc k) = omega arith
further-part (x ∷ xs) zero = omega arith
further-part (x ∷ xs) (suc k) = omega (arith, further-part xs k, length-append (decimal x) (further (take k xs)), length-append (decimal x) (further xs))

pub numbers-part : (xs : List ℕ) (k : ℕ) → length (numbers (take k xs)) ≤ length (numbers xs)
unfolding numbers
numbers-part [] zero = omega arith
numbers-part [] (suc k) = omega arith
numbers-part (x ∷ xs) zero = omega arith
numbers-part (x ∷ xs) (suc k) = omega (arith, further-part xs k, length-append (decimal x) (further (take k xs)), length-append (decimal x) (further xs))

-- the digits, and a comma between two numbers
length-further : (xs : List ℕ) → length (further xs) ≡ sum_by (λ x. length (decimal x)) xs + length xs
unfolding further
length-further [] = refl
length-further (x ∷ xs) = omega (arith, length-further xs, length-append (decimal x) (further xs), sum_by-cons (λ x. length (decimal x)) x xs)

pub length-numbers : (xs : List ℕ) → length (numbers xs) ≡ sum_by (λ x. length (decimal x)) xs + (length xs - 1)
unfolding numbers
length-numbers [] = refl
length-numbers (x ∷ xs) = omega (arith, length-further xs, length-append (decimal x) (further xs), sum_by-cons (λ x. length (decimal x)) x xs)

-- a digit for each number at least
further-least : (xs : List ℕ) → length xs ≤ length (further xs)
unfolding further
further-least [] = omega arith
further-least (x ∷ xs) = omega (arith, further-least xs, length-append (decimal x) (further xs))

pub numbers-least : (xs : List ℕ) → length xs ≤ length (numbers xs)
unfolding numbers
numbers-least [] = omega arith
numbers-least (x ∷ xs) = omega (arith, further-least xs, decimal-some x, length-append (decimal x) (further xs))

-- 21 bytes for each number at most
further-most : (xs : List ℕ) → length (further xs) ≤ 21 * length xs
unfolding further
further-most [] = omega arith
further-most (x ∷ xs) = omega (arith, further-most xs, decimal-most x, length-append (decimal x) (further xs))

pub numbers-most : (xs : List ℕ) → length (numbers xs) ≤ 21 * length xs
unfolding numbers
numbers-most [] = omega arith
numbers-most (x ∷ xs) = omega (arith, further-most xs, decimal-most x, length-append (decimal x) (further xs))

-- ---- a line

pub length-line : (key value : List ℕ) → length (line key value) ≡ length key + length value + 1
unfolding line
length-line key value = length-append key (value ++ (newline ∷ [])) ∙ omega (arith, length-append value (newline ∷ []))

-- what decides how long a line is
pub ruleset sums = (length-line)
