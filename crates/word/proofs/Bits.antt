-- Laws of a word's bits: the language's own operations, bit by bit, over plain numbers in the shape that a goal has. Assumes nothing.
use mathlib.Core.Bool.{Bool, false, not, ◌&&◌, ◌||◌, cond}
use mathlib.Core.List.{List, [], ◌∷◌, map}
use mathlib.Core.Path.{◌≡◌, refl, sym, ap, ap₂, subst, ◌∙◌}
use Prim.Native.Nat.{ℕ, zero, suc, ◌+◌, ◌-◌, ◌*◌, ◌/◌, ◌%◌, ◌^◌, ◌≤◌, ◌<◌, min, max}
use native.Mathlib.Nat.{div-one, mod-lt, zero-lt-suc, pow-suc, mod-eq_of_lt, one-mul, zero-mul, div-eq_of_lt, mul-div_cancel, mul-mod_left}
use native.Mathlib.Numerals.{add-one, one-add}
use native.Mathlib.Nat.{zero-add}
use native.Mathlib.Omega.{arith}
use borrow.Author.Tests.{ne_eqb}
use lib.Arith.{lt-one, digits_mod}
use lib.Bits.{bit_and, bit_or, and_step, or_step, and_self, and_mask, and_shr, or_shr, and_high, bit_xor, differ, xor_step, xor_shr}
use lib.Count.{ones, ones_in, ones_step, count_trailing_zeros}
use lib.Dec.{T, eqb, eqb-suc-suc, eqb-zero-suc, eqb-suc-zero}
use lib.ListN.{length, length-map, get_or}
use lib.Pow.{pow_pos, pow-lt, shr-shr, shr_lt, field, mod-mod-pow}
use Rattle.base.specs.Sets.{keep, members_from, members_below, count_below}
use Rattle.base.proofs.Bools.{not-T-of}
use Rattle.base.proofs.Sets.{First, members-suc, members-zero, members-up, members-ext, members-none, members-at, count-members, count-get_or, count-pos}
use Rattle.word.specs.Bits.{bit_at, set_bits}

-- ---- a bit at a time, lowest first

pub bit-zero : (m : ℕ) → bit_at m 0 ≡ eqb (m % 2) 1
unfolding bit_at
bit-zero m = rw div-one

pub bit-suc : (m i : ℕ) → bit_at m (suc i) ≡ bit_at (m / 2) i
unfolding bit_at
bit-suc m i = ap (λ (x : ℕ). eqb (x % 2) 1) (ap (λ (k : ℕ). m / 2 ^ k) (sym (one-add i)) ∙ sym (shr-shr m 1 i))

-- the bits below k + 1: the lowest, and the rest one place up
pub bits-step : (m k : ℕ) → members_from (bit_at m) 0 (suc k) ≡ keep (eqb (m % 2) 1) 0 (map suc (members_from (bit_at (m / 2)) 0 k))
bits-step m k =
    members-suc (bit_at m) 0 k
    ∙ ap₂ (λ (t : Bool) (l : List ℕ). keep t 0 l) (bit-zero m)
    (members-up (bit_at m) 0 k ∙ ap (map suc) (members-ext (λ i. bit_at m (suc i)) (bit_at (m / 2)) 0 k (λ i l u. bit-suc m i)))

half_lt : {m : ℕ} (k : ℕ) → m < 2 ^ suc k → m / 2 < 2 ^ k
half_lt {m} k h = shr_lt k 1 (subst (λ (x : ℕ). m < 2 ^ x) (sym (add-one k)) h)

-- a digit that is kept is counted
count-digit : (d : ℕ) → d < 2 → (i : ℕ) (l : List ℕ) → length (keep (eqb d 1) i l) ≡ d + length l
count-digit zero h i l = rw zero-add
count-digit (suc zero) h i l = rw one-add
count-digit (suc (suc d)) h i l = absurd (omega arith)

ones-zero : ones 0 ≡ 0
unfolding ones ones_in
ones-zero = refl

-- `count_ones`: the number of set bits
pub ones-bits : (k m : ℕ) → m < 2 ^ k → ones m ≡ length (members_from (bit_at m) 0 k)
ones-bits zero m h = rw (lt-one h, members-zero) ones-zero
ones-bits (suc k) m h =
    ones_step m
    ∙ ap (λ (x : ℕ). m % 2 + x) (ones-bits k (m / 2) (half_lt k h) ∙ sym (length-map (members_from (bit_at (m / 2)) 0 k) suc))
    ∙ sym (count-digit (m % 2) (mod-lt m (zero-lt-suc 1)) 0 (map suc (members_from (bit_at (m / 2)) 0 k)))
    ∙ ap length (sym (bits-step m k))

-- a bit below k is a bit of the remainder by 2 ^ k
pub bit-mod : (m k i : ℕ) → i < k → bit_at (m % 2 ^ k) i ≡ bit_at m i
unfolding bit_at
bit-mod m k i h = ap (λ (x : ℕ). eqb x 1) (go (k - suc i) (omega arith))
  where
    go : (j : ℕ) → suc j + i ≡ k → m % 2 ^ k / 2 ^ i % 2 ≡ m / 2 ^ i % 2
    go j e =
        ap (λ (x : ℕ). m % 2 ^ x / 2 ^ i % 2) (sym e)
        ∙ ap (λ (x : ℕ). x % 2) (field m (suc j) i)
        ∙ ap (λ (x : ℕ). m / 2 ^ i % 2 ^ x % 2) (sym (add-one j))
        ∙ mod-mod-pow (m / 2 ^ i) j 1

-- `rank`: the number of set bits below k
pub rank-bits : (m k : ℕ) → ones (bit_and m (2 ^ k - 1)) ≡ length (members_from (bit_at m) 0 k)
rank-bits m k =
    ap ones (and_mask m k)
    ∙ ones-bits k (m % 2 ^ k) (mod-lt m (pow_pos k))
    ∙ ap length (members-ext (bit_at (m % 2 ^ k)) (bit_at m) 0 k (λ i l u. bit-mod m k i (omega arith)))

-- ---- the lowest set bit

-- `&` of the lowest bits
and_low : (a b : ℕ) → bit_and a b % 2 ≡ min (a % 2) (b % 2)
and_low a b =
    ap (λ (x : ℕ). x % 2) (and_step a b)
    ∙ digits_mod (bit_and (a / 2) (b / 2)) (omega (arith, mod-lt a (zero-lt-suc 1)))

-- what `m & (m - 1)` is, by halves
clear-half-odd : (m : ℕ) → m % 2 ≡ 1 → bit_and m (m - 1) / 2 ≡ m / 2
clear-half-odd m e = and_shr m (m - 1) 1 ∙ ap (bit_and (m / 2)) (same m e) ∙ and_self (m / 2)
  where
    same : (m : ℕ) → m % 2 ≡ 1 → (m - 1) / 2 ≡ m / 2
    same m e = omega arith

clear-half-even : (m : ℕ) → 0 < m → m % 2 ≡ 0 → bit_and m (m - 1) / 2 ≡ bit_and (m / 2) (m / 2 - 1)
clear-half-even m p e = and_shr m (m - 1) 1 ∙ ap (bit_and (m / 2)) (same m p e)
  where
    same : (m : ℕ) → 0 < m → m % 2 ≡ 0 → (m - 1) / 2 ≡ m / 2 - 1
    same m p e = omega arith

clear-even : (m : ℕ) → 0 < m → bit_and m (m - 1) % 2 ≡ 0
clear-even m p = and_low m (m - 1) ∙ omega arith

-- the set bits are the lowest, which is the count of trailing zeros, and those that are left after `m & (m - 1)`
pub lowest : (k m : ℕ) → 0 < m → m < 2 ^ k
    → members_from (bit_at m) 0 k ≡ count_trailing_zeros k m ∷ members_from (bit_at (bit_and m (m - 1))) 0 k
unfolding count_trailing_zeros
lowest zero m p h = absurd (omega (arith, lt-one h))
lowest (suc k) m p h = go (m % 2) refl (λ q. lowest k (m / 2) q (half_lt k h))
  where
    x : ℕ
    x = bit_and m (m - 1)

    rest : members_from (bit_at x) 0 (suc k) ≡ map suc (members_from (bit_at (x / 2)) 0 k)
    rest = bits-step x k ∙ ap (λ (d : ℕ). keep (eqb d 1) 0 (map suc (members_from (bit_at (x / 2)) 0 k))) (clear-even m p)

    go : (d : ℕ) → m % 2 ≡ d
        → (0 < m / 2 → members_from (bit_at (m / 2)) 0 k ≡ count_trailing_zeros k (m / 2) ∷ members_from (bit_at (bit_and (m / 2) (m / 2 - 1))) 0 k)
        → members_from (bit_at m) 0 (suc k) ≡ count_trailing_zeros (suc k) m ∷ members_from (bit_at x) 0 (suc k)
    go zero e ih = rw (bits-step m k, e, ih (omega arith), rest, clear-half-even m p e)
    go (suc zero) e ih = rw (bits-step m k, e, rest, clear-half-odd m e)
    go (suc (suc d)) e ih = absurd (omega (arith, mod-lt m (zero-lt-suc 1)))

-- a word with no bit set
-- trailing zeros: the place of the lowest set bit
pub first_bit : (k m : ℕ) → 0 < m → m < 2 ^ k → (count_trailing_zeros k m < k) × First k (bit_at m) (count_trailing_zeros k m)
first_bit k m p h =
    let is : get_or (members_below k (bit_at m)) 0 0 ≡ count_trailing_zeros k m = ap (λ (l : List ℕ). get_or l 0 0) (lowest k m p h) in
    let some : 0 < length (members_below k (bit_at m)) = omega (arith, ap (λ (l : List ℕ). length l) (lowest k m p h)) in
    let at : (0 ≤ get_or (members_below k (bit_at m)) 0 0) × (get_or (members_below k (bit_at m)) 0 0 < 0 + k) × T (bit_at m (get_or (members_below k (bit_at m)) 0 0)) = members-at (bit_at m) 0 k 0 some in
    let none : count_below (count_trailing_zeros k m) (bit_at m) ≡ 0 = ap (λ (n : ℕ). count_below n (bit_at m)) (sym is) ∙ count-get_or k (bit_at m) 0 some in (
      omega (arith, is, at.1),
      record {
        within = omega (arith, is, at.1);
        passes = λ l. subst (λ (n : ℕ). T (bit_at m n)) is at.2;
        before = λ j l u. absurd (omega (arith, none, count-pos (count_trailing_zeros k m) (bit_at m) j l u));
      },
    )

pub zero_bit : (i : ℕ) → bit_at 0 i ≡ false
unfolding bit_at
zero_bit i = ap (λ (x : ℕ). eqb (x % 2) 1) (div-eq_of_lt (pow_pos i))

pub no_bits : (k : ℕ) → members_from (bit_at 0) 0 k ≡ []
no_bits k = members-none (bit_at 0) 0 k (λ i l u t. not-T-of (bit_at 0 i) (zero_bit i) t)

-- the first of a word's set bits
pub head_bit : (m b : ℕ) (l : List ℕ) → set_bits m ≡ b ∷ l → (b < 64) × T (bit_at m b)
head_bit m b l e =
    let is : get_or (set_bits m) 0 0 ≡ b = ap (λ (k : List ℕ). get_or k 0 0) e in
    let at : (0 ≤ get_or (set_bits m) 0 0) × (get_or (set_bits m) 0 0 < 0 + 64) × T (bit_at m (get_or (set_bits m) 0 0)) = members-at (bit_at m) 0 64 0 (omega (arith, ap (λ (k : List ℕ). length k) e)) in
    (omega (arith, is, at.1), subst (λ (n : ℕ). T (bit_at m n)) is at.2)

-- ---- one bit: `1 << k`

-- `1 << k` loses nothing
pub one_shl : (k : ℕ) → k < 64 → (1 * 2 ^ k) % 2 ^ 64 ≡ 2 ^ k
one_shl k h = ap (λ (x : ℕ). x % 2 ^ 64) (one-mul (2 ^ k)) ∙ mod-eq_of_lt (pow-lt h)

-- `m & (1 << k)`
pub and-bit : (m k : ℕ) → bit_and m (2 ^ k) ≡ m / 2 ^ k % 2 * 2 ^ k
and-bit m k = ap (bit_and m) (go (2 ^ k) (2 ^ (1 + k)) (ap (λ (x : ℕ). 2 ^ x) (one-add k) ∙ pow-suc 2 k)) ∙ and_high m 1 k
  where
    go : (a b : ℕ) → b ≡ a * 2 → a ≡ b - a
    go a b e = omega arith

-- the test `m & (1 << k) != 0`
pub bit_test : (m k : ℕ) → not (eqb (bit_and m (2 ^ k)) 0) ≡ bit_at m k
unfolding bit_at
bit_test m k = ap (λ (x : ℕ). not (eqb x 0)) (and-bit m k) ∙ go (m / 2 ^ k % 2) (mod-lt (m / 2 ^ k) (zero-lt-suc 1))
  where
    go : (d : ℕ) → d < 2 → not (eqb (d * 2 ^ k) 0) ≡ eqb d 1
    go zero h = ap (λ (x : ℕ). not (eqb x 0)) (zero-mul (2 ^ k))
    go (suc zero) h = ap (λ (x : ℕ). not (eqb x 0)) (one-mul (2 ^ k)) ∙ ap not (ne_eqb (2 ^ k) 0 (λ e. omega (arith, pow_pos k)))
    go (suc (suc d)) h = absurd (omega arith)

-- the bits of `a | b`, of `a & b`
pub bit-or : (a b i : ℕ) → bit_at (bit_or a b) i ≡ (bit_at a i || bit_at b i)
unfolding bit_at
bit-or a b i =
    ap (λ (x : ℕ). eqb (x % 2) 1) (or_shr a b i)
    ∙ ap (λ (x : ℕ). eqb x 1) (or-low (a / 2 ^ i) (b / 2 ^ i))
    ∙ go (a / 2 ^ i % 2) (b / 2 ^ i % 2) (mod-lt (a / 2 ^ i) (zero-lt-suc 1)) (mod-lt (b / 2 ^ i) (zero-lt-suc 1))
  where
    or-low : (a b : ℕ) → bit_or a b % 2 ≡ max (a % 2) (b % 2)
    or-low a b =
        ap (λ (x : ℕ). x % 2) (or_step a b)
        ∙ digits_mod (bit_or (a / 2) (b / 2)) (omega (arith, mod-lt a (zero-lt-suc 1), mod-lt b (zero-lt-suc 1)))

    go : (d e : ℕ) → d < 2 → e < 2 → eqb (max d e) 1 ≡ (eqb d 1 || eqb e 1)
    go zero zero h k = refl
    go zero (suc zero) h k = refl
    go (suc zero) zero h k = refl
    go (suc zero) (suc zero) h k = refl
    go zero (suc (suc e)) h k = absurd (omega arith)
    go (suc zero) (suc (suc e)) h k = absurd (omega arith)
    go (suc (suc d)) e h k = absurd (omega arith)

pub bit-and : (a b i : ℕ) → bit_at (bit_and a b) i ≡ (bit_at a i && bit_at b i)
unfolding bit_at
bit-and a b i =
    ap (λ (x : ℕ). eqb (x % 2) 1) (and_shr a b i)
    ∙ ap (λ (x : ℕ). eqb x 1) (and_low (a / 2 ^ i) (b / 2 ^ i))
    ∙ go (a / 2 ^ i % 2) (b / 2 ^ i % 2) (mod-lt (a / 2 ^ i) (zero-lt-suc 1)) (mod-lt (b / 2 ^ i) (zero-lt-suc 1))
  where
    go : (d e : ℕ) → d < 2 → e < 2 → eqb (min d e) 1 ≡ (eqb d 1 && eqb e 1)
    go zero zero h k = refl
    go zero (suc zero) h k = refl
    go (suc zero) zero h k = refl
    go (suc zero) (suc zero) h k = refl
    go zero (suc (suc e)) h k = absurd (omega arith)
    go (suc zero) (suc (suc e)) h k = absurd (omega arith)
    go (suc (suc d)) e h k = absurd (omega arith)

-- of `a ^ b`
pub bit-xor : (a b i : ℕ) → bit_at (bit_xor a b) i ≡ cond (bit_at a i) (not (bit_at b i)) (bit_at b i)
unfolding bit_at
bit-xor a b i =
    ap (λ (x : ℕ). eqb (x % 2) 1) (xor_shr a b i)
    ∙ ap (λ (x : ℕ). eqb x 1) (xor_low (a / 2 ^ i) (b / 2 ^ i))
    ∙ go (a / 2 ^ i % 2) (b / 2 ^ i % 2) (mod-lt (a / 2 ^ i) (zero-lt-suc 1)) (mod-lt (b / 2 ^ i) (zero-lt-suc 1))
  where
    small : (d e : ℕ) → d < 2 → e < 2 → differ d e < 2
    small zero e h k = k
    small (suc zero) zero h k = h
    small (suc zero) (suc zero) h k = omega arith
    small (suc zero) (suc (suc e)) h k = absurd (omega arith)
    small (suc (suc d)) e h k = absurd (omega arith)

    xor_low : (a b : ℕ) → bit_xor a b % 2 ≡ differ (a % 2) (b % 2)
    xor_low a b =
        ap (λ (x : ℕ). x % 2) (xor_step a b)
        ∙ digits_mod (bit_xor (a / 2) (b / 2)) (small (a % 2) (b % 2) (mod-lt a (zero-lt-suc 1)) (mod-lt b (zero-lt-suc 1)))

    go : (d e : ℕ) → d < 2 → e < 2 → eqb (differ d e) 1 ≡ cond (eqb d 1) (not (eqb e 1)) (eqb e 1)
    go zero e h k = refl
    go (suc zero) zero h k = refl
    go (suc zero) (suc zero) h k = refl
    go (suc zero) (suc (suc e)) h k = absurd (omega arith)
    go (suc (suc d)) e h k = absurd (omega arith)

-- the bits of `1 << k`
pub bit-pow : (k i : ℕ) → bit_at (2 ^ k) i ≡ eqb i k
bit-pow zero zero = bit-zero 1
bit-pow zero (suc i) = bit-suc 1 i ∙ zero_bit i ∙ sym (eqb-suc-zero i)
bit-pow (suc k) zero =
    bit-zero (2 ^ suc k) ∙ ap (λ (x : ℕ). eqb x 1) (ap (λ (x : ℕ). x % 2) (pow-suc 2 k) ∙ mul-mod_left (2 ^ k) 2) ∙ sym (eqb-zero-suc k)
bit-pow (suc k) (suc i) =
    bit-suc (2 ^ suc k) i
    ∙ ap (λ (x : ℕ). bit_at x i) (ap (λ (x : ℕ). x / 2) (pow-suc 2 k) ∙ mul-div_cancel (2 ^ k) (zero-lt-suc 1))
    ∙ bit-pow k i ∙ sym (eqb-suc-suc i k)

-- the bits of `!m`
pub bit_not : (k m i : ℕ) → m < 2 ^ k → i < k → bit_at (2 ^ k - 1 - m) i ≡ not (bit_at m i)
bit_not zero m i h l = absurd (omega arith)
bit_not (suc k) m zero h l =
    bit-zero (2 ^ suc k - 1 - m)
    ∙ ap (λ (x : ℕ). eqb x 1) (low (2 ^ k) (2 ^ suc k) (pow-suc 2 k) h)
    ∙ flip (m % 2) (mod-lt m (zero-lt-suc 1))
    ∙ ap not (sym (bit-zero m))
  where
    low : (a b : ℕ) → b ≡ a * 2 → m < b → (b - 1 - m) % 2 ≡ 1 - m % 2
    low a b e h = omega arith

    flip : (d : ℕ) → d < 2 → eqb (1 - d) 1 ≡ not (eqb d 1)
    flip zero h = refl
    flip (suc zero) h = refl
    flip (suc (suc d)) h = absurd (omega arith)
bit_not (suc k) m (suc i) h l =
    bit-suc (2 ^ suc k - 1 - m) i
    ∙ ap (λ (x : ℕ). bit_at x i) (half (2 ^ k) (2 ^ suc k) (pow-suc 2 k) h)
    ∙ bit_not k (m / 2) i (less (2 ^ k) (2 ^ suc k) (pow-suc 2 k) h) (omega arith)
    ∙ ap not (sym (bit-suc m i))
  where
    half : (a b : ℕ) → b ≡ a * 2 → m < b → (b - 1 - m) / 2 ≡ a - 1 - m / 2
    half a b e h = omega arith

    less : (a b : ℕ) → b ≡ a * 2 → m < b → m / 2 < a
    less a b e h = omega arith

-- ---- a word that is shifted down

-- the bits of a word that is shifted down
pub bit-shr : (m k i : ℕ) → bit_at (m / 2 ^ k) i ≡ bit_at m (k + i)
unfolding bit_at
bit-shr m k i = ap (λ (x : ℕ). eqb (x % 2) 1) (shr-shr m k i)

-- ---- counts

-- `count_ones`
pub ones-count : (k m : ℕ) → m < 2 ^ k → ones m ≡ count_below k (bit_at m)
ones-count k m h = ones-bits k m h ∙ count-members k (bit_at m)

-- `count_ones` of the bits below k
pub rank-count : (m k : ℕ) → ones (bit_and m (2 ^ k - 1)) ≡ count_below k (bit_at m)
rank-count m k = rank-bits m k ∙ count-members k (bit_at m)
