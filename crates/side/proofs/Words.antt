-- The check of one word: whether it stays inside the columns, and the first bad word of a row. Assumes nothing.
use mathlib.Core.Path.{◌≡◌, sym, ap, ◌∙◌, subst, refl}
use mathlib.Core.Logic.{◌⊎◌, inl, inr}
use Rattle.std.specs.Prelude.{Option, Some, None as Nothing}
use mathlib.Core.Bool.{Bool, true, false, not, cond, ◌&&◌, ◌||◌, and-true}
use mathlib.Core.List.{List}
use Prim.Native.Nat.{ℕ, ◌+◌, ◌-◌, ◌*◌, ◌/◌, ◌^◌, ◌≤◌, ◌<◌, ◌%◌}
use native.Mathlib.Omega.{arith}
use native.Mathlib.Nat.{le_refl, lt_of_le_of_lt}
use native.Mathlib.Decide.{ℕ_discrete}
use borrow.Author.Tests.{eq-eqb, eqb-true, lt-ltb, le-ltb, ltb-false}
use lib.Dec.{T, eqb, ltb, lt→ltb, ltb→lt, T_not}
use lib.ListN.{length, get_or, set}
use lib.Pow.{shr_le}
use lib.Bits.{bit_and, bit_or}
use Rattle.base.proofs.Bools.{bool-ext, T_false, T_true, T_of, not-T-of, or-e, or_l, or_r, lt-or-le, eq-or-ne, decide}
use Rattle.base.specs.Sets.{first_below}
use Rattle.base.proofs.Sets.{None, First, every-i, every-e, first-at, first-is, first-none}
use Rattle.base.specs.Checks.{side_limit}
use Rattle.word.specs.Bits.{bit_at, word_of}
use Rattle.word.proofs.Bits.{bit-shr, zero_bit, bit-and}
use Rattle.word.proofs.Words.{some-bit, bit_past, word_lt, bit_word, bits-ext, and-bitwise}
use Rattle.side.specs.Check.{is_word_inside, good_word, bad_word}
use Rattle.mask.specs.Mask.{in_mask, words_needed, mask_words}
use Rattle.mask.proofs.Masks.{mask-length, mask-cong, mask-holds, mask_is}
use Rattle.mask.proofs.Stores.{or-in}

module _ (ncols w m : ℕ) where
  abbrev fine : ℕ → Bool
  fine b = ltb (64 * w + b) ncols || not (bit_at m b)

  -- a set bit that is fine is below ncols
  inside-bit : (b : ℕ) → T (fine b) → T (bit_at m b) → 64 * w + b < ncols
  inside-bit b t s = go (or-e (ltb (64 * w + b) ncols) (not (bit_at m b)) t)
    where
      go : T (ltb (64 * w + b) ncols) ⊎ T (not (bit_at m b)) → 64 * w + b < ncols
      go (inl l) = ltb→lt (64 * w + b) ncols l
      go (inr n) = absurd (T_not (bit_at m b) n s)

  -- so is each of a word that is inside
  pub bit_in : is_word_inside ncols w m ≡ true → (b : ℕ) → b < 64 → T (bit_at m b) → 64 * w + b < ncols
  unfolding is_word_inside
  bit_in ins b l s = inside-bit b (every-e 64 fine (T_of (is_word_inside ncols w m) ins) b l) s

  -- the word starts past the columns
  pub inside-none : 0 < m → m < 2 ^ 64 → ncols ≤ w * 64 → false ≡ is_word_inside ncols w m
  unfolding is_word_inside
  inside-none p h u = sym (T_false _ (λ t. no t))
    where
      no : T (is_word_inside ncols w m) → ⊥
      no t =
          let r : (j : ℕ) × (j < 64) × T (bit_at m j) = some-bit 64 m h (λ e. omega arith) in
          absurd (omega (arith, bit_in (T_true _ t) r.0 r.1 r.2))

  -- it ends before they do
  pub inside-whole : w * 64 < ncols → 64 ≤ ncols - w * 64 → true ≡ is_word_inside ncols w m
  unfolding is_word_inside
  inside-whole l h = sym (T_true _ (every-i 64 fine (λ b u. or_l (ltb (64 * w + b) ncols) (not (bit_at m b)) (lt→ltb (64 * w + b) ncols (omega arith)))))

  -- the columns end in it
  pub inside-part : m < 2 ^ 64 → w * 64 < ncols → ncols - w * 64 < 64 → eqb (m / 2 ^ (ncols - w * 64)) 0 ≡ is_word_inside ncols w m
  unfolding is_word_inside
  inside-part h l u = bool-ext (eqb (m / 2 ^ d) 0) (is_word_inside ncols w m) there back
    where
      d : ℕ
      d = ncols - w * 64

      there : T (eqb (m / 2 ^ d) 0) → T (is_word_inside ncols w m)
      there t = every-i 64 fine (λ b v. one b (lt-or-le b d))
        where
          one : (b : ℕ) → (b < d) ⊎ (d ≤ b) → T (fine b)
          one b (inl a) = or_l (ltb (64 * w + b) ncols) (not (bit_at m b)) (lt→ltb (64 * w + b) ncols (omega arith))
          one b (inr a) =
              let s : d + (b - d) ≡ b = omega arith in
              or_r (ltb (64 * w + b) ncols) (not (bit_at m b))
              (T_of (not (bit_at m b)) (ap not (ap (bit_at m) (sym s) ∙ sym (bit-shr m d (b - d)) ∙ ap (λ (x : ℕ). bit_at x (b - d)) (eqb-true (m / 2 ^ d) 0 (T_true _ t)) ∙ zero_bit (b - d))))

      back : T (is_word_inside ncols w m) → T (eqb (m / 2 ^ d) 0)
      back t = go (eq-or-ne (m / 2 ^ d) 0)
        where
          go : (m / 2 ^ d ≡ 0) ⊎ (m / 2 ^ d ≡ 0 → ⊥) → T (eqb (m / 2 ^ d) 0)
          go (inl e) = T_of (eqb (m / 2 ^ d) 0) (eq-eqb (m / 2 ^ d) 0 e)
          go (inr n) =
              let r : (j : ℕ) × (j < 64) × T (bit_at (m / 2 ^ d) j) = some-bit 64 (m / 2 ^ d) (lt_of_le_of_lt (shr_le m d) h) n in
              let b : T (bit_at m (d + r.0)) = subst (λ (v : Bool). T v) (bit-shr m d r.0) r.2 in
              absurd (past r.0 b (lt-or-le (d + r.0) 64))
            where
              past : (j : ℕ) → T (bit_at m (d + j)) → (d + j < 64) ⊎ (64 ≤ d + j) → ⊥
              past j b (inl a) = omega (arith, bit_in (T_true _ t) (d + j) a b)
              past j b (inr a) = not-T-of (bit_at m (d + j)) (bit_past m 64 (d + j) h a) b

-- ---- a word inside the columns, in a mask of them

module _ (n w m : ℕ) (fits : m < 2 ^ 64) (ins : is_word_inside n w m ≡ true) where
  -- it is a word of the mask
  pub inside-word : 0 < m → w < words_needed n
  inside-word p =
      let r : (j : ℕ) × (j < 64) × T (bit_at m j) = some-bit 64 m fits (λ e. omega arith) in
      omega (arith, bit_in n w m ins r.0 r.1 r.2, r.1)

  -- and has no bit to drop
  inside-bits : m ≡ bit_and m (word_of (λ i. ltb i n) w)
  inside-bits =
      bits-ext 64 m (bit_and m (word_of (λ i. ltb i n) w)) fits ((and-bitwise 64).fits m (word_of (λ i. ltb i n) w) fits (word_lt (λ i. ltb i n) 64 (64 * w)))
      (λ j l. sym (bit-and m (word_of (λ i. ltb i n) w) j ∙ ap (λ (t : Bool). bit_at m j && t) (bit_word (λ i. ltb i n) 64 (64 * w) j l) ∙ keeps j l (decide (bit_at m j))))
    where
      keeps : (j : ℕ) → j < 64 → T (bit_at m j) ⊎ (T (bit_at m j) → ⊥) → (bit_at m j && ltb (64 * w + j) n) ≡ bit_at m j
      keeps j l (inl t) = ap (λ (b : Bool). bit_at m j && b) (lt-ltb (64 * w + j) n (bit_in n w m ins j l t)) ∙ and-true (bit_at m j)
      keeps j l (inr f) = ap (λ (b : Bool). b && ltb (64 * w + j) n) (T_false (bit_at m j) f) ∙ sym (T_false (bit_at m j) f)

  -- `words[w] |= m`
  pub or-whole : (q : ℕ → Bool) → n ≤ side_limit → w < words_needed n
      → set (mask_words n q) w (bit_or (get_or (mask_words n q) w 0) m) ≡ mask_words n (λ j. q j || (eqb (j / 64) w && bit_at m (j % 64)))
  or-whole q s h =
      ap (λ (x : ℕ). set (mask_words n q) w (bit_or (get_or (mask_words n q) w 0) x)) inside-bits
      ∙ or-in n (mask_words n q) (mask_is n q s) w m (word_of (λ i. ltb i n) w) (omega (arith, mask-length n q)) fits refl
      ∙ mask-cong n (λ j. in_mask (mask_words n q) j || (eqb (j / 64) w && bit_at m (j % 64))) (λ j. q j || (eqb (j / 64) w && bit_at m (j % 64)))
      (λ j l. ap (λ (t : Bool). t || (eqb (j / 64) w && bit_at m (j % 64))) (mask-holds n q j l))

nothing-some : (k : ℕ) → ◌≡◌ {A = Option ℕ} Nothing (Some k) → ⊥
nothing-some k e = cc

-- a word that fails one of the three conditions
module _ (ncols : ℕ) (idx masks : List ℕ) (from k : ℕ) where
  bad : (a b c : Bool) → (a ≡ false) ⊎ ((b ≡ false) ⊎ (c ≡ false)) → T (not (a && b && c))
  bad false b c e = tt
  bad true false c e = tt
  bad true true false e = tt
  bad true true true (inl e) = absurd (both e)
    where
      both : true ≡ false → ⊥
      both e = not-T-of true e tt
  bad true true true (inr (inl e)) = absurd (not-T-of true e tt)
  bad true true true (inr (inr e)) = absurd (not-T-of true e tt)

  pub bad-zero : get_or masks k 0 ≡ 0 → T (not (good_word ncols idx masks from k))
  unfolding good_word
  bad-zero e = bad (not (eqb (get_or masks k 0) 0)) (eqb k from || ltb (get_or idx (k - 1) 0) (get_or idx k 0)) (is_word_inside ncols (get_or idx k 0) (get_or masks k 0)) (inl (ap not (eq-eqb (get_or masks k 0) 0 e)))

  pub bad-order : from < k → get_or idx k 0 ≤ get_or idx (k - 1) 0 → T (not (good_word ncols idx masks from k))
  unfolding good_word
  bad-order l h =
      bad (not (eqb (get_or masks k 0) 0)) (eqb k from || ltb (get_or idx (k - 1) 0) (get_or idx k 0)) (is_word_inside ncols (get_or idx k 0) (get_or masks k 0))
      (inr (inl (T_false _ (λ t. no (or-e (eqb k from) (ltb (get_or idx (k - 1) 0) (get_or idx k 0)) t)))))
    where
      no : T (eqb k from) ⊎ T (ltb (get_or idx (k - 1) 0) (get_or idx k 0)) → ⊥
      no (inl t) = omega (arith, eqb-true k from (T_true (eqb k from) t))
      no (inr t) = omega (arith, ltb→lt (get_or idx (k - 1) 0) (get_or idx k 0) t)

  pub bad-inside : is_word_inside ncols (get_or idx k 0) (get_or masks k 0) ≡ false → T (not (good_word ncols idx masks from k))
  unfolding good_word
  bad-inside e = bad (not (eqb (get_or masks k 0) 0)) (eqb k from || ltb (get_or idx (k - 1) 0) (get_or idx k 0)) (is_word_inside ncols (get_or idx k 0) (get_or masks k 0)) (inr (inr e))

-- the first bad word of a row, of which those before k are good
module _ (ncols : ℕ) (idx masks : List ℕ) where
  abbrev bad-word : ℕ → Bool
  bad-word j = not (good_word ncols idx masks 0 j)

  abbrev answer : ℕ → Option ℕ
  answer i = cond (ltb i (length masks)) (Some i) Nothing

  module _ (k : ℕ) (good : (j : ℕ) → j < k → good_word ncols idx masks 0 j ≡ true) where
    none : None bad-word k
    none i a t = not-T-of (bad-word i) (ap not (good i a)) t

    pub good-next : good_word ncols idx masks 0 k ≡ true → (j : ℕ) → j < k + 1 → good_word ncols idx masks 0 j ≡ true
    good-next e j a = go (ℕ_discrete j k)
      where
        go : Dec (j ≡ k) → good_word ncols idx masks 0 j ≡ true
        go (yes d) = ap (good_word ncols idx masks 0) d ∙ e
        go (no d) = good j (omega arith)

    pub first-bad : k < length masks → T (bad-word k) → Some k ≡ bad_word ncols idx masks
    unfolding bad_word
    first-bad l t = sym (ap answer (first-is (length masks) bad-word k l t none) ∙ ap (λ (b : Bool). cond b (Some k) Nothing) (lt-ltb k (length masks) l))

    pub all-good : k ≡ length masks → Nothing ≡ bad_word ncols idx masks
    unfolding bad_word
    all-good e =
        sym (ap answer (first-none (length masks) bad-word (λ i a t. none i (omega arith) t)) ∙ ap (λ (b : Bool). cond b (Some (length masks)) Nothing) (le-ltb (length masks) (length masks) (le_refl (length masks))))

  -- what the answer says of the words
  first : First (length masks) bad-word (first_below (length masks) bad-word)
  first = first-at (length masks) bad-word

  pub bad-some : (k : ℕ) → bad_word ncols idx masks ≡ Some k → (k < length masks) × T (bad-word k) × None bad-word k
  unfolding bad_word
  bad-some k e = go (ltb (first_below (length masks) bad-word) (length masks)) refl e
    where
      go : (b : Bool) → ltb (first_below (length masks) bad-word) (length masks) ≡ b → cond b (Some (first_below (length masks) bad-word)) Nothing ≡ Some k → (k < length masks) × T (bad-word k) × None bad-word k
      go true t e =
          let s : first_below (length masks) bad-word ≡ k = cc in
          let l : first_below (length masks) bad-word < length masks = ltb→lt _ _ (T_of _ t) in
          subst (λ (i : ℕ). (i < length masks) × T (bad-word i) × None bad-word i) s (l, first.passes l, first.before)
      go false t e = absurd (nothing-some k e)

  pub bad-none : bad_word ncols idx masks ≡ Nothing → None bad-word (length masks)
  unfolding bad_word
  bad-none e = go (ltb (first_below (length masks) bad-word) (length masks)) refl e
    where
      go : (b : Bool) → ltb (first_below (length masks) bad-word) (length masks) ≡ b → cond b (Some (first_below (length masks) bad-word)) Nothing ≡ Nothing → None bad-word (length masks)
      go true t e = absurd (nothing-some _ (sym e))
      go false t e = λ i l. first.before i (omega (arith, ltb-false (first_below (length masks) bad-word) (length masks) t))
