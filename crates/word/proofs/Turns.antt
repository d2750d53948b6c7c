-- A pass over the words of a set, one word a turn: word w is a number m whose bits are the set's there. Assumes nothing.
use mathlib.Core.Path.{◌≡◌, sym, ap, ◌∙◌, subst}
use mathlib.Core.Logic.{◌⊎◌, inl, inr, ◌≢◌}
use mathlib.Core.Bool.{Bool}
use mathlib.Core.List.{map}
use Prim.Native.Nat.{ℕ, ◌+◌, ◌-◌, ◌*◌, ◌^◌, ◌≤◌, ◌<◌}
use native.Mathlib.Omega.{arith}
use native.Mathlib.Nat.{add-zero}
use lib.Count.{ones}
use lib.Dec.{T}
use Rattle.base.specs.Sets.{count_below, one_if, members_from}
use Rattle.base.proofs.Bools.{lt-or-le, not-T-of}
use Rattle.base.proofs.Sets.{None, sum-append, count-cong, members-shift, members-ext}
use Rattle.word.specs.Bits.{bit_at, set_bits}
use Rattle.word.proofs.Bits.{zero_bit, ones-count}
use Rattle.word.proofs.Words.{some-bit}

module _ (p : ℕ → Bool) (w m : ℕ) (bits : (j : ℕ) → j < 64 → p (64 * w + j) ≡ bit_at m j) where
  -- the word is 0: nothing here
  pub none-turn : m ≡ 0 → None p (64 * w) → None p (64 * (w + 1))
  none-turn z none i h t = go (lt-or-le i (64 * w))
    where
      go : (i < 64 * w) ⊎ (64 * w ≤ i) → ⊥
      go (inl l) = none i l t
      go (inr l) =
          let e : i ≡ 64 * w + (i - 64 * w) = omega arith in
          not-T-of (p i) (ap p e ∙ bits (i - 64 * w) (omega arith) ∙ ap (λ (x : ℕ). bit_at x (i - 64 * w)) z ∙ zero_bit (i - 64 * w)) t

  -- it is not: a member
  pub some_turn : m < 2 ^ 64 → m ≢ 0 → (i : ℕ) × (64 * w ≤ i) × (i < 64 * (w + 1)) × T (p i)
  some_turn fits n =
      let r : (j : ℕ) × (j < 64) × T (bit_at m j) = some-bit 64 m fits n in
      (64 * w + r.0, omega arith, omega arith, subst (λ (b : Bool). T b) (sym (bits r.0 r.1)) r.2)

  -- its count
  pub count_turn : m < 2 ^ 64 → count_below (64 * w) p + ones m ≡ count_below (64 * (w + 1)) p
  count_turn fits =
      let e : 64 * w + 64 ≡ 64 * (w + 1) = omega arith in
      ap (λ (x : ℕ). count_below (64 * w) p + x) (ones-count 64 m fits ∙ count-cong 64 (bit_at m) (λ j. p (64 * w + j)) (λ j h. sym (bits j h)))
      ∙ sym (sum-append (64 * w) 64 (λ i. one_if (p i))) ∙ ap (λ (n : ℕ). count_below n p) e

  -- its members
  pub turn-members : members_from p (64 * w) 64 ≡ map (λ (i : ℕ). 64 * w + i) (set_bits m)
  turn-members =
      ap (λ (b : ℕ). members_from p b 64) (sym (add-zero (64 * w))) ∙ members-shift p (64 * w) 0 64
      ∙ ap (map (λ (i : ℕ). 64 * w + i)) (members-ext (λ i. p (64 * w + i)) (bit_at m) 0 64 (λ i l u. bits i (omega arith)))
