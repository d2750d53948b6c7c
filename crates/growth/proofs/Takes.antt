-- A row's words joined into a mask, one word a turn. Assumes nothing.
use mathlib.Core.Path.{◌≡◌, sym, ap, ◌∙◌}
use mathlib.Core.Bool.{Bool, ◌&&◌, ◌||◌, or_assoc}
use mathlib.Core.List.{List}
use Prim.Native.Nat.{ℕ, ◌+◌, ◌/◌, ◌%◌, ◌≤◌, ◌<◌}
use native.Mathlib.Omega.{arith}
use lib.Bits.{bit_or}
use lib.Dec.{eqb}
use lib.ListN.{length, get_or, set}
use Rattle.base.proofs.Bools.{or-false}
use Rattle.word.specs.Bits.{bit_at}
use Rattle.mask.specs.Mask.{in_mask, words_needed, mask_words, IsMask}
use Rattle.mask.proofs.Masks.{mask-cong}
use Rattle.side.specs.Side.{row_holds}
use Rattle.side.specs.Check.{IsSide}
use Rattle.side.proofs.Holding.{holds-none, holds-next}
use Rattle.side.proofs.AtRow.{at-masks}
use Rattle.side.proofs.Words.{inside-word, or-whole}

-- ---- what `Rows::take` has taken at word k of a row

module _ (n : ℕ) (reached idx masks : List ℕ) (from : ℕ) where
  abbrev pub taking : ℕ → ℕ → Bool
  taking k j = in_mask reached j || row_holds idx masks from k j

  pub join-start : IsMask n reached → from ≤ length idx → from ≤ length masks → reached ≡ mask_words n (taking from)
  join-start m hi hm =
      m.exact
      ∙ mask-cong n (in_mask reached) (taking from)
      (λ j l. sym (ap (λ (t : Bool). in_mask reached j || t) (holds-none idx masks from j hi hm) ∙ or-false (in_mask reached j)))

module _ (n : ℕ) (ptr idx masks : List ℕ) (m : IsSide n n ptr idx masks) where
  -- a stored word stands at a word of a mask
  pub row-word : (k : ℕ) → k < length masks → get_or idx k 0 < words_needed n
  row-word k h = inside-word _ _ _ (m.fits k h) (m.inside k h) (m.used k h)

  -- word k of row i
  pub join-turn : (reached : List ℕ) (i : ℕ) → i < n → (k : ℕ) → get_or ptr i 0 ≤ k → k < get_or ptr (i + 1) 0
      → set (mask_words n (taking n reached idx masks (get_or ptr i 0) k)) (get_or idx k 0) (bit_or (get_or (mask_words n (taking n reached idx masks (get_or ptr i 0) k)) (get_or idx k 0) 0) (get_or masks k 0))
      ≡ mask_words n (taking n reached idx masks (get_or ptr i 0) (k + 1))
  join-turn reached i hi k l u =
      or-whole n (get_or idx k 0) (get_or masks k 0) (m.fits k h) (m.inside k h) (taking n reached idx masks from k) m.few_cols (row-word k h)
      ∙ mask-cong n (λ j. taking n reached idx masks from k j || (eqb (j / 64) (get_or idx k 0) && bit_at (get_or masks k 0) (j % 64))) (taking n reached idx masks from (k + 1))
      (λ j v. or_assoc (in_mask reached j) (row_holds idx masks from k j) (eqb (j / 64) (get_or idx k 0) && bit_at (get_or masks k 0) (j % 64))
      ∙ ap (λ (t : Bool). in_mask reached j || t) (sym (holds-next idx masks from k l (omega (arith, h, m.shape.as_many)) h (λ a b x y z. m.rising i hi a b x y (omega arith)) j)))
    where
      from : ℕ
      from = get_or ptr i 0

      h : k < length masks
      h = omega (arith, at-masks _ _ _ _ _ m i hi)
