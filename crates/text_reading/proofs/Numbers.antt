-- Laws of numbers: their digits one after the other, and what a number is once its first digit was looked at. Assumes nothing.
use mathlib.Core.Path.{◌≡◌, refl, sym, ap, ap₂, ◌∙◌}
use mathlib.Core.Bool.{Bool, true, false, cond, not, ◌&&◌, and-true}
use mathlib.Core.List.{List, [], ◌∷◌, ◌++◌}
use Prim.Native.Nat.{ℕ, ◌+◌, ◌-◌, ◌*◌, ◌≤◌, ◌<◌}
use native.Mathlib.Nat.{le_refl, not-suc-le-zero}
use native.Mathlib.Numerals.{add-one}
use native.Mathlib.Omega.{arith}
use borrow.Author.Tests.{lt-ltb, le-ltb, leb-true}
use lib.Dec.{eqb, ltb, leb}
use lib.ListN.{length, get_or, take, drop, take-append-drop}
use lib.Seq.{take-suc}
use Rattle.std.specs.Prelude.{is_some, unwrap_or}
use Rattle.std.specs.Option.{ok_or}
use Rattle.std.specs.Bool.{then_some}
use Rattle.base.specs.Lists.{every}
use Rattle.base.proofs.Bools.{and_right}
use Rattle.text_reading.specs.Reading.{is_digit, value_from, leading_zero, told, is_number, number_of, number_read}

-- ---- the digits one after the other

pub value_grows : (v : ℕ) (ds : List ℕ) → v ≤ value_from v ds
unfolding value_from
value_grows v [] = le_refl v
value_grows v (d ∷ ds) = omega (arith, value_grows (10 * v + (d - 48)) ds)

pub value-append : (v : ℕ) (a b : List ℕ) → value_from v (a ++ b) ≡ value_from (value_from v a) b
unfolding value_from
value-append v [] b = refl
value-append v (d ∷ a) b = value-append (10 * v + (d - 48)) a b

-- with one digit more, and of the first of them
pub value-more : (v : ℕ) (s : List ℕ) (i : ℕ) → i < length s → value_from v (take (i + 1) s) ≡ 10 * value_from v (take i s) + (get_or s i 0 - 48)
unfolding value_from
value-more v s i h = ap (value_from v) (ap (λ (k : ℕ). take k s) (add-one i) ∙ take-suc s i 0 h) ∙ value-append v (take i s) (get_or s i 0 ∷ [])

pub value-front : (v : ℕ) (s : List ℕ) (n : ℕ) → value_from v (take n s) ≤ value_from v s
value-front v s n = omega (arith, value_grows (value_from v (take n s)) (drop n s), value-append v (take n s) (drop n s), ap (value_from v) (take-append-drop n s))

-- ---- the first digit

pub zero-before : (s : List ℕ) → 1 < length s → eqb (get_or s 0 0) 48 ≡ leading_zero s
unfolding leading_zero
zero-before [] h = absurd (not-suc-le-zero h)
zero-before (d ∷ ds) h = sym (ap (λ (t : Bool). eqb d 48 && t) (lt-ltb 0 (length ds) (omega arith)) ∙ and-true (eqb d 48))

module _ (most : ℕ) (s : List ℕ) where
  pub number-empty : length s ≡ 0 → is_number most s ≡ false
  unfolding is_number
  number-empty h = ap (λ (t : Bool). t && not (leading_zero s) && every is_digit s && leb (value_from 0 s) most) (le-ltb 0 (length s) (omega arith))

  -- where there is a first digit
  pub number-first : 0 < length s → (zero : Bool) → leading_zero s ≡ zero → is_number most s ≡ (not zero && every is_digit s && leb (value_from 0 s) most)
  unfolding is_number
  number-first h zero e = ap₂ (λ (p q : Bool). p && not q && every is_digit s && leb (value_from 0 s) most) (lt-ltb 0 (length s) h) e

pub zero-alone : (s : List ℕ) → length s ≤ 1 → leading_zero s ≡ false
unfolding leading_zero
zero-alone [] h = refl
zero-alone (d ∷ ds) h = ap (λ (t : Bool). eqb d 48 && t) (le-ltb 0 (length ds) (omega arith)) ∙ none (eqb d 48)
  where
    none : (t : Bool) → (t && false) ≡ false
    none true = refl
    none false = refl

-- whether there is one, and which, 0 where there is none
module _ (most : ℕ) (s : List ℕ) where
  pub number-some : is_some (number_read most s) ≡ is_number most s
  number-some = go (is_number most s)
    where
      go : (b : Bool) → is_some (then_some b (number_of most s)) ≡ b
      go true = refl
      go false = refl

  pub number-or : unwrap_or (number_read most s) 0 ≡ number_of most s
  unfolding number_of
  number-or = go (is_number most s)
    where
      go : (b : Bool) → unwrap_or (then_some b (cond b (value_from 0 s) 0)) 0 ≡ cond b (value_from 0 s) 0
      go true = refl
      go false = refl

  pub number-told : ok_or (number_read most s) 0 ≡ told (is_number most s) (number_of most s)
  unfolding number_of
  number-told = go (is_number most s)
    where
      go : (b : Bool) → ok_or (then_some b (cond b (value_from 0 s) 0)) 0 ≡ told b (cond b (value_from 0 s) 0)
      go true = refl
      go false = refl

  pub number-is : then_some (is_number most s) (value_from 0 s) ≡ number_read most s
  unfolding number_of
  number-is = go (is_number most s)
    where
      go : (b : Bool) → then_some b (value_from 0 s) ≡ then_some b (cond b (value_from 0 s) 0)
      go true = refl
      go false = refl

-- at most the most
pub number-within : (most : ℕ) (s : List ℕ) → number_of most s ≤ most
unfolding number_of is_number
number-within most s = go (is_number most s) refl
  where
    go : (t : Bool) → is_number most s ≡ t → cond t (value_from 0 s) 0 ≤ most
    go true e = leb-true (value_from 0 s) most (and_right (ltb 0 (length s) && not (leading_zero s) && every is_digit s) (leb (value_from 0 s) most) e)
    go false e = omega arith
