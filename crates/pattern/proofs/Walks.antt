-- A region's members one after the other: counts and sums over those that were met. Assumes nothing.
use mathlib.Core.Path.{◌≡◌, sym, ap, ◌∙◌}
use mathlib.Core.Bool.{Bool, cond}
use mathlib.Core.List.{List}
use Prim.Native.Nat.{ℕ, ◌+◌, ◌≤◌, ◌<◌}
use native.Mathlib.Omega.{arith}
use lib.Dec.{T}
use Rattle.base.specs.Sets.{sum_below, sum_over, count_below, one_if}
use Rattle.base.proofs.Bools.{T_true}
use Rattle.base.proofs.Sets.{over-past, over-le, sum-zero, sum-suc, sum_mono, count_past}
use Rattle.mask.specs.Mask.{in_mask}
use Rattle.mask.proofs.Nexts.{Next}

module _ (n : ℕ) (region : List ℕ) where
  pub sum_first : (i : ℕ) (f : ℕ → ℕ) → Next n region 0 i → 0 ≡ sum_over i (in_mask region) f
  sum_first i f next = sym (over-past 0 i (in_mask region) f (omega arith) next.none ∙ none f)
    where
      none : (f : ℕ → ℕ) → sum_over 0 (in_mask region) f ≡ 0
      none f = sum-zero (λ i. cond (in_mask region i) (f i) 0)

  pub sum_one : (i : ℕ) (f : ℕ → ℕ) → T (in_mask region i) → sum_over i (in_mask region) f + f i ≡ sum_over (i + 1) (in_mask region) f
  sum_one i f t =
      ap (λ (v : Bool). sum_over i (in_mask region) f + cond v (f i) 0) (sym (T_true (in_mask region i) t))
      ∙ sym (sum-suc i (λ a. cond (in_mask region a) (f a) 0))

  pub sum-turn : (i i' : ℕ) (f : ℕ → ℕ) → T (in_mask region i) → Next n region (i + 1) i' → sum_over i (in_mask region) f + f i ≡ sum_over i' (in_mask region) f
  sum-turn i i' f t next = sum_one i f t ∙ sym (over-past (i + 1) i' (in_mask region) f next.since next.none)

  pub count-first : (i : ℕ) → Next n region 0 i → 0 ≡ count_below i (in_mask region)
  count-first i next = sym (count_past 0 i (in_mask region) (omega arith) next.none ∙ sum-zero (λ i. one_if (in_mask region i)))

  pub count_turn : (i i' : ℕ) → T (in_mask region i) → Next n region (i + 1) i' → count_below i (in_mask region) + 1 ≡ count_below i' (in_mask region)
  count_turn i i' t next =
      ap (λ (v : Bool). count_below i (in_mask region) + one_if v) (sym (T_true (in_mask region i) t))
      ∙ sym (sum-suc i (λ a. one_if (in_mask region a)))
      ∙ sym (count_past (i + 1) i' (in_mask region) next.since next.none)

  -- a sum and the next number stay below the whole
  pub sum_room : (i : ℕ) (f : ℕ → ℕ) → i < n → sum_over i (in_mask region) f + f i ≤ sum_below n f
  sum_room i f l = omega (arith, over-le i (in_mask region) f, sum-suc i f, sum_mono (i + 1) n f (omega arith))
