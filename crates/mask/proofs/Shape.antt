-- The check of the bits past the length looks at the last word only: that is enough. Assumes nothing.
use mathlib.Core.Path.{◌≡◌, sym, ap, ◌∙◌, subst}
use mathlib.Core.Logic.{◌⊎◌, inl, inr, ◌≢◌}
use mathlib.Core.Bool.{Bool, true, false, not, ◌||◌}
use mathlib.Core.List.{List}
use Prim.Native.Nat.{ℕ, ◌+◌, ◌-◌, ◌*◌, ◌/◌, ◌%◌, ◌^◌, ◌≤◌, ◌<◌}
use native.Mathlib.Omega.{arith}
use native.Mathlib.Nat.{lt_of_le_of_lt}
use lib.Dec.{T, ltb, lt→ltb, ltb→lt, T_not}
use lib.ListN.{length, get_or}
use lib.Pow.{shr_le}
use Rattle.base.specs.Sets.{every_below}
use Rattle.base.proofs.Bools.{or_l, or_r, or-e, T_true, T_false, T_of, not-T-of, lt-or-le}
use Rattle.base.proofs.Checks.{checks}
use Rattle.base.proofs.Sets.{every-i, every-e}
use Rattle.word.specs.Bits.{bit_at}
use Rattle.word.proofs.Bits.{zero_bit, bit-shr}
use Rattle.word.proofs.Words.{some-bit, bit_past}
use Rattle.mask.specs.Mask.{in_mask, words_needed, clean}
use Rattle.mask.proofs.Masks.{in-word}

module _ (len : ℕ) (words : List ℕ) (count : length words ≡ words_needed len) where
  -- a length that fills its words
  pub clean-whole : len % 64 ≡ 0 → clean len words ≡ true
  unfolding clean
  clean-whole z =
      T_true (every_below (64 * length words) (λ i. ltb i len || not (in_mask words i)))
      (every-i (64 * length words) (λ i. ltb i len || not (in_mask words i))
      (λ i h. or_l (ltb i len) (not (in_mask words i)) (lt→ltb i len (omega (arith, count)))))

  -- the last word, shifted down by the bits in use
  pub clean-none : len % 64 ≢ 0 → get_or words (words_needed len - 1) 0 / 2 ^ (len % 64) ≡ 0 → clean len words ≡ true
  unfolding clean
  clean-none n z =
      T_true (every_below (64 * length words) (λ i. ltb i len || not (in_mask words i)))
      (every-i (64 * length words) (λ i. ltb i len || not (in_mask words i)) (λ i h. go i h (lt-or-le i len)))
    where
      out : (i : ℕ) → i < 64 * length words → len ≤ i → in_mask words i ≡ false
      out i h l =
          let w : 64 * (words_needed len - 1) + i % 64 ≡ i = omega (arith, count) in
          let j : len % 64 + (i % 64 - len % 64) ≡ i % 64 = omega (arith, count) in
          ap (in_mask words) (sym w) ∙ in-word words (words_needed len - 1) (i % 64) (omega arith)
          ∙ ap (bit_at (get_or words (words_needed len - 1) 0)) (sym j)
          ∙ sym (bit-shr (get_or words (words_needed len - 1) 0) (len % 64) (i % 64 - len % 64))
          ∙ ap (λ (x : ℕ). bit_at x (i % 64 - len % 64)) z ∙ zero_bit (i % 64 - len % 64)

      go : (i : ℕ) → i < 64 * length words → (i < len) ⊎ (len ≤ i) → T (ltb i len || not (in_mask words i))
      go i h (inl l) = or_l (ltb i len) (not (in_mask words i)) (lt→ltb i len l)
      go i h (inr l) = or_r (ltb i len) (not (in_mask words i)) (T_of (not (in_mask words i)) (ap not (out i h l)))

  pub clean-some : len % 64 ≢ 0 → get_or words (words_needed len - 1) 0 < 2 ^ 64 → get_or words (words_needed len - 1) 0 / 2 ^ (len % 64) ≢ 0 → clean len words ≡ false
  unfolding clean
  clean-some n fits z = T_false (every_below (64 * length words) (λ i. ltb i len || not (in_mask words i))) (λ t. stray t)
    where
      last : ℕ
      last = get_or words (words_needed len - 1) 0

      found : (j : ℕ) × (j < 64) × T (bit_at (last / 2 ^ (len % 64)) j)
      found = some-bit 64 (last / 2 ^ (len % 64)) (lt_of_le_of_lt (shr_le last (len % 64)) fits) z

      bit : T (bit_at last (len % 64 + found.0))
      bit = subst (λ (b : Bool). T b) (bit-shr last (len % 64) found.0) found.2

      inside : (len % 64 + found.0 < 64) ⊎ (64 ≤ len % 64 + found.0) → len % 64 + found.0 < 64
      inside (inl h) = h
      inside (inr h) = absurd (not-T-of (bit_at last (len % 64 + found.0)) (bit_past last 64 (len % 64 + found.0) fits h) bit)

      stray : T (every_below (64 * length words) (λ i. ltb i len || not (in_mask words i))) → ⊥
      stray t =
          let k : len % 64 + found.0 < 64 = inside (lt-or-le (len % 64 + found.0) 64) in
          let i : ℕ = 64 * (words_needed len - 1) + (len % 64 + found.0) in
          let h : i < 64 * length words = omega (arith, count) in
          let l : len ≤ i = omega (arith, count) in
          let held : T (in_mask words i) = subst (λ (b : Bool). T b) (sym (in-word words (words_needed len - 1) (len % 64 + found.0) k)) bit in
          go i l held (or-e (ltb i len) (not (in_mask words i)) (every-e (64 * length words) (λ i. ltb i len || not (in_mask words i)) t i h))
        where
          go : (i : ℕ) → len ≤ i → T (in_mask words i) → T (ltb i len) ⊎ T (not (in_mask words i)) → ⊥
          go i l held (inl a) = omega (arith, ltb→lt i len a)
          go i l held (inr a) = T_not (in_mask words i) a held

-- what the check of a mask's shape looks for
pub ruleset shapes = (clean-whole, clean-none, clean-some, checks)
