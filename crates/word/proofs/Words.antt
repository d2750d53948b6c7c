-- Laws of words made from a set: their bits, that bits determine a word, and word operations as set operations. Assumes nothing.
use mathlib.Core.Path.{◌≡◌, refl, sym, ap, ap₂, ◌∙◌, subst}
use mathlib.Core.Logic.{◌⊎◌, inl, inr, ◌≢◌}
use mathlib.Core.Bool.{Bool, true, false, not, cond, ◌&&◌, ◌||◌}
use Prim.Native.Nat.{ℕ, zero, suc, ◌+◌, ◌-◌, ◌*◌, ◌/◌, ◌%◌, ◌^◌, ◌≤◌, ◌<◌}
use native.Mathlib.Omega.{arith}
use native.Mathlib.Nat.{not-suc-le-zero, lt_of_le_of_lt, lt_of_lt_of_le, div-eq_of_lt, zero-add}
use borrow.Author.Tests.{eq-eqb, ne_eqb, lt-ltb, le-ltb}
use lib.Bits.{bit_and, bit_or, bit_xor, and_le_l, or_lt, xor_lt}
use lib.Dec.{T, eqb, ltb, eqb→eq}
use lib.Pow.{pow_mono, pow-lt, pow_pos}
use Rattle.base.specs.Sets.{one_if, adding, any_below, sum_below, count_below}
use Rattle.base.proofs.Bools.{bool-ext, decide, T_false, not-T-of, lt-or-le, eqb_swap, or-false}
use Rattle.base.proofs.Sets.{any-i, any-e, any_none, sum-append, any-cong, any-or}
use Rattle.word.specs.Bits.{bit_at, word_from, word_of}
use Rattle.word.proofs.Bits.{bit-zero, bit-suc, bit-or, bit-and, bit-xor, bit_not, bit-pow, zero_bit}

-- ---- a word and its bits

one-if-small : (b : Bool) → one_if b < 2
one-if-small true = omega arith
one-if-small false = omega arith

one-if-bit : (b : Bool) → eqb (one_if b) 1 ≡ b
one-if-bit true = refl
one-if-bit false = refl

pub word_lt : (p : ℕ → Bool) (k at : ℕ) → word_from p k at < 2 ^ k
unfolding word_from
word_lt p zero at = omega arith
word_lt p (suc k) at = omega (arith, word_lt p k (suc at), one-if-small (p at))

pub word-half : (p : ℕ → Bool) (k at : ℕ) → word_from p (suc k) at / 2 ≡ word_from p k (suc at)
unfolding word_from
word-half p k at = omega (arith, one-if-small (p at))

pub word-odd : (p : ℕ → Bool) (k at : ℕ) → word_from p (suc k) at % 2 ≡ one_if (p at)
unfolding word_from
word-odd p k at = omega (arith, one-if-small (p at))

-- bit j of the word is number at + j of the set
pub bit_word : (p : ℕ → Bool) (k at j : ℕ) → j < k → bit_at (word_from p k at) j ≡ p (at + j)
bit_word p zero at j h = absurd (not-suc-le-zero h)
bit_word p (suc k) at zero h = bit-zero (word_from p (suc k) at) ∙ ap (λ (x : ℕ). eqb x 1) (word-odd p k at) ∙ one-if-bit (p at) ∙ ap p (omega arith)
bit_word p (suc k) at (suc j) h =
    bit-suc (word_from p (suc k) at) j ∙ ap (λ (x : ℕ). bit_at x j) (word-half p k at) ∙ bit_word p k (suc at) j (omega arith) ∙ ap p (omega arith)

parity : (x : ℕ) → x < 2 → one_if (eqb x 1) ≡ x
parity zero h = refl
parity (suc zero) h = refl
parity (suc (suc x)) h = absurd (omega arith)

-- a word is made of its bits
pub word-of-bits : (p : ℕ → Bool) (k at w : ℕ) → w < 2 ^ k → ((j : ℕ) → j < k → p (at + j) ≡ bit_at w j) → word_from p k at ≡ w
unfolding word_from
word-of-bits p zero at w h e = omega arith
word-of-bits p (suc k) at w h e =
    let r : word_from p k (suc at) ≡ w / 2 = word-of-bits p k (suc at) (w / 2) (omega arith) (λ j hj. ap p (omega arith) ∙ e (suc j) (omega arith) ∙ bit-suc w j) in
    let b : one_if (p at) ≡ w % 2 = ap one_if (ap p (omega arith) ∙ e 0 (omega arith) ∙ bit-zero w) ∙ parity (w % 2) (omega arith) in
    omega arith

-- two words with the same bits are the same
pub bits-ext : (k m n : ℕ) → m < 2 ^ k → n < 2 ^ k → ((i : ℕ) → i < k → bit_at m i ≡ bit_at n i) → m ≡ n
bits-ext k m n hm hn e =
    sym (word-of-bits (bit_at n) k 0 m hm (λ j h. ap (bit_at n) (omega arith) ∙ sym (e j h))) ∙ word-of-bits (bit_at n) k 0 n hn (λ j h. ap (bit_at n) (omega arith))

-- tests that agree on the range make the same word
pub word-ext : (p q : ℕ → Bool) (k at : ℕ) → ((i : ℕ) → at ≤ i → i < at + k → p i ≡ q i) → word_from p k at ≡ word_from q k at
unfolding word_from
word-ext p q zero at e = refl
word-ext p q (suc k) at e =
    ap₂ (λ (x y : ℕ). x + 2 * y) (ap one_if (e at (omega arith) (omega arith))) (word-ext p q k (suc at) (λ i l u. e i (omega arith) (omega arith)))

-- past its width a word has no bit
pub bit_past : (m k i : ℕ) → m < 2 ^ k → k ≤ i → bit_at m i ≡ false
unfolding bit_at
bit_past m k i h l = ap (λ (x : ℕ). eqb (x % 2) 1) (div-eq_of_lt (lt_of_lt_of_le h (pow_mono l)))

-- ---- empty words

-- a word of no number, and a word that has one
pub word_none : (p : ℕ → Bool) (k at : ℕ) → ((i : ℕ) → at ≤ i → i < at + k → T (p i) → ⊥) → word_from p k at ≡ 0
word_none p k at h =
    word-ext p (λ i. false) k at (λ i l u. T_false (p i) (h i l u)) ∙ word-of-bits (λ i. false) k at 0 (pow_pos k) (λ j l. sym (zero_bit j))

-- a word that is not 0 has a bit
pub some-bit : (k w : ℕ) → w < 2 ^ k → w ≢ 0 → (j : ℕ) × (j < k) × T (bit_at w j)
some-bit k w h ne = go (decide (any_below k (bit_at w)))
  where
    go : T (any_below k (bit_at w)) ⊎ (T (any_below k (bit_at w)) → ⊥) → (j : ℕ) × (j < k) × T (bit_at w j)
    go (inl t) = any-e k (bit_at w) t
    go (inr f) =
        absurd
        (ne
        (sym (word-of-bits (λ i. false) k 0 w h (λ j hj. sym (T_false (bit_at w j) (λ t. f (any-i k (bit_at w) j hj t)))))
        ∙ word_none (λ i. false) k 0 (λ i l u t. t)))

-- a word that is not 0 holds a number, and one that holds a number is not 0
pub word_some : (p : ℕ → Bool) (k at : ℕ) → 0 < word_from p k at → (i : ℕ) × (at ≤ i) × (i < at + k) × T (p i)
word_some p k at h =
    let r : (j : ℕ) × (j < k) × T (bit_at (word_from p k at) j) = some-bit k (word_from p k at) (word_lt p k at) (λ e. omega arith) in
    (at + r.0, omega arith, omega arith, subst (λ (b : Bool). T b) (bit_word p k at r.0 r.1) r.2)

pub word-pos : (p : ℕ → Bool) (k at i : ℕ) → at ≤ i → i < at + k → T (p i) → 0 < word_from p k at
word-pos p k at i l u t = go (word_from p k at) refl
  where
    here : bit_at (word_from p k at) (i - at) ≡ p i
    here = let e : at + (i - at) ≡ i = omega arith in bit_word p k at (i - at) (omega arith) ∙ ap p e

    go : (m : ℕ) → word_from p k at ≡ m → 0 < m
    go zero e = absurd (not-T-of (p i) (sym here ∙ ap (λ (m : ℕ). bit_at m (i - at)) e ∙ zero_bit (i - at)) t)
    go (suc m) e = omega arith

-- a word is 0 exactly where it has no bit
pub word-empty : (k w : ℕ) → w < 2 ^ k → not (eqb w 0) ≡ any_below k (bit_at w)
word-empty k zero h = sym (any_none k (bit_at 0) (λ i l t. not-T-of (bit_at 0 i) (zero_bit i) t))
word-empty k (suc w) h =
    let r : (j : ℕ) × (j < k) × T (bit_at (suc w) j) = some-bit k (suc w) h (λ e. omega arith) in
    ap not (ne_eqb (suc w) 0 (λ e. omega arith))
    ∙ sym (bool-ext (any_below k (bit_at (suc w))) true (λ t. tt) (λ t. any-i k (bit_at (suc w)) r.0 r.1 r.2))

-- two words together are 0 exactly where both are
pub or-empty : (k a b : ℕ) → a < 2 ^ k → b < 2 ^ k → not (eqb (bit_or a b) 0) ≡ (not (eqb a 0) || not (eqb b 0))
or-empty k a b ha hb =
    word-empty k (bit_or a b) (or_lt k a b ha hb)
    ∙ any-cong k (bit_at (bit_or a b)) (λ i. bit_at a i || bit_at b i) (λ i h. bit-or a b i)
    ∙ any-or k (bit_at a) (bit_at b) ∙ sym (ap₂ ◌||◌ (word-empty k a ha) (word-empty k b hb))

-- ---- operations on words that work bit by bit

-- what an operation on words of k bits owes: its bits, and that it stays in a word
pub record Bitwise (k : ℕ) (op : ℕ → ℕ → ℕ) (on : Bool → Bool → Bool) : Type 0 where
  pub bits : (a b i : ℕ) → a < 2 ^ k → b < 2 ^ k → i < k → bit_at (op a b) i ≡ on (bit_at a i) (bit_at b i)
  pub fits : (a b : ℕ) → a < 2 ^ k → b < 2 ^ k → op a b < 2 ^ k

pub or-bitwise : (k : ℕ) → Bitwise k bit_or (λ s t. s || t)
or-bitwise k = record { bits = λ a b i p q l. bit-or a b i; fits = λ a b p q. or_lt k a b p q }

pub and-bitwise : (k : ℕ) → Bitwise k bit_and (λ s t. s && t)
and-bitwise k = record { bits = λ a b i p q l. bit-and a b i; fits = λ a b p q. lt_of_le_of_lt (and_le_l a b) p }

pub and-not-bitwise : (k : ℕ) → Bitwise k (λ a b. bit_and a (2 ^ k - 1 - b)) (λ s t. s && not t)
and-not-bitwise k = record {
  bits = λ a b i p q l. bit-and a (2 ^ k - 1 - b) i ∙ ap (λ (t : Bool). bit_at a i && t) (bit_not k b i q l);
  fits = λ a b p q. lt_of_le_of_lt (and_le_l a (2 ^ k - 1 - b)) p;
}

pub xor-bitwise : (k : ℕ) → Bitwise k bit_xor (λ s t. cond s (not t) t)
xor-bitwise k = record { bits = λ a b i p q l. bit-xor a b i; fits = λ a b p q. xor_lt k a b p q }

-- the operation as the word of its bits
pub op-bits : (k : ℕ) (op : ℕ → ℕ → ℕ) (on : Bool → Bool → Bool) → Bitwise k op on → (a b : ℕ) → a < 2 ^ k → b < 2 ^ k
    → op a b ≡ word_from (λ i. on (bit_at a i) (bit_at b i)) k 0
op-bits k op on laws a b p q =
    sym (word-of-bits (λ i. on (bit_at a i) (bit_at b i)) k 0 (op a b) (laws.fits a b p q) (λ j h. ap (λ (i : ℕ). on (bit_at a i) (bit_at b i)) (zero-add j) ∙ sym (laws.bits a b j p q h)))

-- and read as an operation on the words of two sets
pub on-words : (k : ℕ) (on : Bool → Bool → Bool) (p q : ℕ → Bool) (at : ℕ)
    → word_from (λ i. on (bit_at (word_from p k at) i) (bit_at (word_from q k at) i)) k 0 ≡ word_from (λ i. on (p i) (q i)) k at
on-words k on p q at =
    sym
    (word-of-bits (λ i. on (p i) (q i)) k at (word_from (λ i. on (bit_at (word_from p k at) i) (bit_at (word_from q k at) i)) k 0)
    (word_lt (λ i. on (bit_at (word_from p k at) i) (bit_at (word_from q k at) i)) k 0)
    (λ j h. ap₂ on (sym (bit_word p k at j h)) (sym (bit_word q k at j h))
    ∙ ap (λ (i : ℕ). on (bit_at (word_from p k at) i) (bit_at (word_from q k at) i)) (sym (zero-add j))
    ∙ sym (bit_word (λ i. on (bit_at (word_from p k at) i) (bit_at (word_from q k at) i)) k 0 j h)))

-- the operation on the words of two sets is the word of the operation on the sets
pub word-op : (k : ℕ) (op : ℕ → ℕ → ℕ) (on : Bool → Bool → Bool) → Bitwise k op on → (p q : ℕ → Bool) (at : ℕ)
    → op (word_from p k at) (word_from q k at) ≡ word_from (λ i. on (p i) (q i)) k at
word-op k op on laws p q at = op-bits k op on laws (word_from p k at) (word_from q k at) (word_lt p k at) (word_lt q k at) ∙ on-words k on p q at

-- ---- the word of one number

-- `1 << b` is the word of one number
pub word-one : (at b : ℕ) (k : ℕ) → b < k → word_from (λ i. eqb i (at + b)) k at ≡ 2 ^ b
word-one at b k h = word-of-bits (λ i. eqb i (at + b)) k at (2 ^ b) (pow-lt h) (λ j l. same j ∙ sym (bit-pow b j))
  where
    same : (j : ℕ) → eqb (at + j) (at + b) ≡ eqb j b
    same j = bool-ext (eqb (at + j) (at + b)) (eqb j b) (λ t. to t) (λ t. from t)
      where
        to : T (eqb (at + j) (at + b)) → T (eqb j b)
        to t = let e : j ≡ b = omega (arith, eqb→eq (at + j) (at + b) t) in subst (λ (x : Bool). T x) (sym (eq-eqb j b e)) tt

        from : T (eqb j b) → T (eqb (at + j) (at + b))
        from t = let e : at + j ≡ at + b = omega (arith, eqb→eq j b t) in subst (λ (x : Bool). T x) (sym (eq-eqb (at + j) (at + b) e)) tt

-- one number more: in its own word a bit, in another nothing
pub word-add-same : (p : ℕ → Bool) (w b : ℕ) → b < 64 → word_of (adding p (64 * w + b)) w ≡ bit_or (word_of p w) (2 ^ b)
word-add-same p w b h =
    sym (word-op 64 bit_or (λ s t. s || t) (or-bitwise 64) p (λ i. eqb (64 * w + b) i) (64 * w))
    ∙ ap (bit_or (word_of p w)) (word-ext (λ i. eqb (64 * w + b) i) (λ i. eqb i (64 * w + b)) 64 (64 * w) (λ i l u. eqb_swap (64 * w + b) i) ∙ word-one (64 * w) b 64 h)

pub word-add-other : (p : ℕ → Bool) (w b v : ℕ) → b < 64 → v ≢ w → word_of (adding p (64 * w + b)) v ≡ word_of p v
word-add-other p w b v h ne =
    word-ext (adding p (64 * w + b)) p 64 (64 * v) (λ i l u. ap (λ (t : Bool). p i || t) (ne_eqb (64 * w + b) i (λ e. ne (omega arith))) ∙ or-false (p i))

-- `(1 << k) - 1` has the bits below k
pub bit-ones : (k j : ℕ) → bit_at (2 ^ k - 1) j ≡ ltb j k
bit-ones k j = go (lt-or-le j k)
  where
    less : (x : ℕ) → 0 < x → x - 1 < x
    less x h = omega arith

    zero-less : (x : ℕ) → x ≡ x - 0
    zero-less x = omega arith

    go : (j < k) ⊎ (k ≤ j) → bit_at (2 ^ k - 1) j ≡ ltb j k
    go (inl h) = ap (λ (x : ℕ). bit_at x j) (zero-less (2 ^ k - 1)) ∙ bit_not k 0 j (pow_pos k) h ∙ ap not (zero_bit j) ∙ sym (lt-ltb j k h)
    go (inr h) = bit_past (2 ^ k - 1) k j (less (2 ^ k) (pow_pos k)) h ∙ sym (le-ltb j k h)

-- the word of the numbers below a bound that lies in it
pub word_below : (at n k : ℕ) → n ≤ k → word_from (λ i. ltb i (at + n)) k at ≡ 2 ^ n - 1
word_below at n k h =
    word-of-bits (λ i. ltb i (at + n)) k at (2 ^ n - 1) (less (2 ^ n) (2 ^ k) (pow_pos n) (pow_mono h)) (λ j l. same j ∙ sym (bit-ones n j))
  where
    less : (x y : ℕ) → 0 < x → x ≤ y → x - 1 < y
    less x y p q = omega arith

    same : (j : ℕ) → ltb (at + j) (at + n) ≡ ltb j n
    same j = go (lt-or-le j n)
      where
        go : (j < n) ⊎ (n ≤ j) → ltb (at + j) (at + n) ≡ ltb j n
        go (inl l) = lt-ltb (at + j) (at + n) (omega arith) ∙ sym (lt-ltb j n l)
        go (inr l) = le-ltb (at + j) (at + n) (omega arith) ∙ sym (le-ltb j n l)

-- a count by words
pub count-words : (n : ℕ) (p : ℕ → Bool) → sum_below n (λ w. count_below 64 (λ j. p (64 * w + j))) ≡ count_below (64 * n) p
unfolding sum_below
count-words zero p = refl
count-words (suc n) p =
    let e : 64 * n + 64 ≡ 64 * suc n = omega arith in
    ap (λ (x : ℕ). x + count_below 64 (λ j. p (64 * n + j))) (count-words n p) ∙ sym (sum-append (64 * n) 64 (λ i. one_if (p i))) ∙ ap (λ (m : ℕ). count_below m p) e
