-- The decimal digits of a number: one more at the end for each division by 10, at least one and at most 20. Assumes nothing.
use mathlib.Core.Path.{◌≡◌, refl, sym, ap, ◌∙◌}
use mathlib.Core.Bool.{Bool, cond}
use mathlib.Core.List.{List, [], ◌∷◌, ◌++◌, append_assoc}
use mathlib.Core.Logic.{◌⊎◌, inl, inr}
use Prim.Native.Nat.{ℕ, zero, suc, ◌+◌, ◌-◌, ◌*◌, ◌/◌, ◌%◌, ◌^◌, ◌≤◌, ◌<◌}
use native.Mathlib.Nat.{pow-suc, one-le-pow, not-suc-le-zero}
use native.Mathlib.Omega.{arith}
use borrow.Author.Tests.{lt-ltb, le-ltb}
use lib.ListN.{length, length-append}
use Rattle.base.proofs.Bools.{lt-or-le}
use Rattle.text_writing.specs.Text.{digit, digits_of, decimal}

-- a digit alone, and a digit behind others
pub digits-one : (k n : ℕ) → n < 10 → digits_of (suc k) n ≡ digit n ∷ []
unfolding digits_of
digits-one k n h = ap (λ (t : Bool). cond t (digit n ∷ []) (digits_of k (n / 10) ++ (digit (n % 10) ∷ []))) (lt-ltb n 10 h)

pub digits_more : (k n : ℕ) → 10 ≤ n → digits_of (suc k) n ≡ digits_of k (n / 10) ++ (digit (n % 10) ∷ [])
unfolding digits_of
digits_more k n h = ap (λ (t : Bool). cond t (digit n ∷ []) (digits_of k (n / 10) ++ (digit (n % 10) ∷ []))) (le-ltb n 10 h)

-- room for more digits makes no difference
pub digits-room : (k j n : ℕ) → n < 10 ^ k → 0 < k → k ≤ j → digits_of k n ≡ digits_of j n
digits-room zero j n h z u = absurd (not-suc-le-zero z)
digits-room (suc k) zero n h z u = absurd (not-suc-le-zero u)
digits-room (suc k) (suc j) n h z u = go (lt-or-le n 10) (lt-or-le 0 k) (digits-room k j (n / 10))
  where
    p : 10 ^ suc k ≡ 10 ^ k * 10
    p = pow-suc 10 k

    go : (n < 10) ⊎ (10 ≤ n) → (0 < k) ⊎ (k ≤ 0) → (n / 10 < 10 ^ k → 0 < k → k ≤ j → digits_of k (n / 10) ≡ digits_of j (n / 10)) → digits_of (suc k) n ≡ digits_of (suc j) n
    go (inl a) b ih = digits-one k n a ∙ sym (digits-one j n a)
    go (inr a) (inl b) ih =
        digits_more k n a ∙ ap (λ (x : List ℕ). x ++ (digit (n % 10) ∷ [])) (ih (omega (arith, p)) b (omega arith)) ∙ sym (digits_more j n a)
    go (inr a) (inr b) ih =
        let z : k ≡ 0 = omega arith in
        let q : 10 ^ k ≡ 1 = ap (λ (i : ℕ). 10 ^ i) z in
        absurd (omega (arith, p))

pub decimal-one : (n : ℕ) → n < 10 → decimal n ≡ digit n ∷ []
decimal-one n h = digits-one 19 n h

pub decimal-more : (n : ℕ) → 10 ≤ n → n < 10 ^ 20 → decimal n ≡ decimal (n / 10) ++ (digit (n % 10) ∷ [])
decimal-more n h u = digits_more 19 n h ∙ ap (λ (x : List ℕ). x ++ (digit (n % 10) ∷ [])) (digits-room 19 20 (n / 10) (omega arith) (omega arith) (omega arith))

-- how many digits
pub digits-most : (k n : ℕ) → length (digits_of k n) ≤ k
unfolding digits_of
digits-most zero n = omega arith
digits-most (suc k) n = go (lt-or-le n 10) (digits-most k (n / 10))
  where
    go : (n < 10) ⊎ (10 ≤ n) → length (digits_of k (n / 10)) ≤ k → length (digits_of (suc k) n) ≤ suc k
    go (inl a) ih = omega (arith, ap length (digits-one k n a))
    go (inr a) ih = omega (arith, ap length (digits_more k n a), length-append (digits_of k (n / 10)) (digit (n % 10) ∷ []))

pub digits-some : (k n : ℕ) → 0 < length (digits_of (suc k) n)
digits-some k n = go (lt-or-le n 10)
  where
    go : (n < 10) ⊎ (10 ≤ n) → 0 < length (digits_of (suc k) n)
    go (inl a) = omega (arith, ap length (digits-one k n a))
    go (inr a) = omega (arith, ap length (digits_more k n a), length-append (digits_of k (n / 10)) (digit (n % 10) ∷ []))

pub decimal-most : (n : ℕ) → length (decimal n) ≤ 20
decimal-most n = digits-most 20 n

pub decimal-some : (n : ℕ) → 0 < length (decimal n)
decimal-some n = digits-some 19 n

pub length_more : (n : ℕ) → 10 ≤ n → n < 10 ^ 20 → length (decimal n) ≡ length (decimal (n / 10)) + 1
length_more n h u = ap length (decimal-more n h u) ∙ length-append (decimal (n / 10)) (digit (n % 10) ∷ [])

-- by the largest power of ten that is no larger; 0 has one digit too
pub length-decimal : (k n : ℕ) → (0 < k → 10 ^ k ≤ n) → n < 10 * 10 ^ k → n < 10 ^ 20 → length (decimal n) ≡ k + 1
length-decimal zero n lo hi u = ap length (decimal-one n hi)
length-decimal (suc k) n lo hi u =
    let p : 10 ^ suc k ≡ 10 ^ k * 10 = pow-suc 10 k in
    let q : 1 ≤ 10 ^ k = one-le-pow k 10 (omega arith) in
    let l : 10 ^ suc k ≤ n = lo (omega arith) in
    omega (arith, length_more n (omega arith) u, length-decimal k (n / 10) (λ z. omega arith) (omega arith) (omega arith))

-- the last digit of those that are left is taken, if any is: `rest` of the whole stands before what is put
pub digit-turn : (left : ℕ) (rest put whole : List ℕ) (at len : ℕ) → left < 10 ^ 20 → len < at → (rest ≡ decimal left) ⊎ (rest ≡ []) → at ≡ len + length rest → whole ≡ rest ++ put
    → (r : List ℕ) × ((r ≡ decimal (left / 10)) ⊎ (r ≡ [])) × (at - 1 ≡ len + length r) × (whole ≡ r ++ (digit (left % 10) ∷ put))
digit-turn left rest put whole at len u some is e w = go is (lt-or-le left 10)
  where
    go : (rest ≡ decimal left) ⊎ (rest ≡ []) → (left < 10) ⊎ (10 ≤ left) → (r : List ℕ) × ((r ≡ decimal (left / 10)) ⊎ (r ≡ [])) × (at - 1 ≡ len + length r) × (whole ≡ r ++ (digit (left % 10) ∷ put))
    go (inr n) b = absurd (omega (arith, e, ap length n))
    go (inl n) (inl a) =
        let one : rest ≡ digit left ∷ [] = n ∙ decimal-one left a in
        let same : left ≡ left % 10 = omega arith in
        ([], inr refl, omega (arith, e, ap length one), w ∙ ap (λ (x : List ℕ). x ++ put) one ∙ ap (λ (k : ℕ). digit k ∷ put) same)
    go (inl n) (inr a) =
        let more : rest ≡ decimal (left / 10) ++ (digit (left % 10) ∷ []) = n ∙ decimal-more left a u in
        (decimal (left / 10), inl refl, omega (arith, e, ap length more, length-append (decimal (left / 10)) (digit (left % 10) ∷ [])), w ∙ ap (λ (x : List ℕ). x ++ put) more ∙ append_assoc (decimal (left / 10)) (digit (left % 10) ∷ []) put)
