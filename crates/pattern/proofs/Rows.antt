-- The columns of one row that are inside a region, word by word. Assumes nothing.
use mathlib.Core.Path.{◌≡◌, sym, ap, ap₂, ◌∙◌}
use mathlib.Core.Bool.{Bool, ◌&&◌, and_comm}
use mathlib.Core.List.{List, map, ◌++◌}
use Prim.Native.Nat.{ℕ, ◌+◌, ◌-◌, ◌*◌, ◌/◌, ◌%◌, ◌≤◌, ◌<◌}
use native.Mathlib.Nat.{add-zero}
use native.Mathlib.Omega.{arith}
use lib.Bits.{bit_and}
use lib.Dec.{T}
use lib.ListN.{get_or, length}
use Rattle.base.specs.Lists.{join_below}
use Rattle.base.specs.Sets.{members_below, count_below, sum_below}
use Rattle.base.proofs.Bools.{and_r}
use Rattle.base.proofs.Lists.{map-two}
use Rattle.base.proofs.Joins.{map-join, join-append, join-cong}
use Rattle.base.proofs.Sets.{map-alike, members-ext, count-cong, count-le, sum-zero, sum-suc, sum-cong, sum-most, sum-append}
use Rattle.word.specs.Bits.{bit_at, set_bits}
use Rattle.word.proofs.Bits.{bit-and}
use Rattle.mask.specs.Mask.{in_mask, words_needed, IsMask}
use Rattle.mask.proofs.Masks.{in-word, is-length}
use Rattle.side.specs.Side.{side_holds}
use Rattle.side.specs.Check.{IsSide}
use Rattle.side.proofs.AtRow.{at_up, at_words, at-masks}
use Rattle.side.proofs.Holding.{holds_at, found}
use Rattle.side.proofs.Sides.{held-col}
use Rattle.side.proofs.Words.{inside-word}
use Rattle.pattern.specs.Pattern.{number_of, inside, columns_of}
use Rattle.pattern.proofs.Words.{word_members, by_words, count-by-words}

-- the word at place k, with what is inside
abbrev pub kept_word : List ℕ → List ℕ → List ℕ → ℕ → ℕ
kept_word idx masks region k = bit_and (get_or masks k 0) (get_or region (get_or idx k 0) 0)

-- how many bits of the words from..k are inside
unfoldable pub kept_in : List ℕ → List ℕ → List ℕ → ℕ → ℕ → ℕ
kept_in idx masks region from k = sum_below (k - from) (λ j. count_below 64 (bit_at (kept_word idx masks region (from + j))))

-- the numbers of the columns inside, of the word at place k
abbrev pub numbers_of : List ℕ → List ℕ → List ℕ → ℕ → List ℕ
numbers_of idx masks region k =
    map (λ (b : ℕ). count_below (64 * get_or idx k 0) (in_mask region) + count_below b (bit_at (get_or region (get_or idx k 0) 0))) (set_bits (kept_word idx masks region k))

-- of the word at place from + j
abbrev pub numbers_at : List ℕ → List ℕ → List ℕ → ℕ → ℕ → List ℕ
numbers_at idx masks region from j = numbers_of idx masks region (from + j)

module _ (idx masks region : List ℕ) (from : ℕ) where
  pub kept-none : kept_in idx masks region from from ≡ 0
  unfolding kept_in
  kept-none = let z : from - from ≡ 0 = omega arith in ap (λ (x : ℕ). sum_below x (λ j. count_below 64 (bit_at (kept_word idx masks region (from + j))))) z ∙ sum-zero _

  pub kept_next : (k : ℕ) → from ≤ k → kept_in idx masks region from (k + 1) ≡ kept_in idx masks region from k + count_below 64 (bit_at (kept_word idx masks region k))
  unfolding kept_in
  kept_next k h =
      let z : k + 1 - from ≡ (k - from) + 1 = omega arith in
      let e : from + (k - from) ≡ k = omega arith in
      ap (λ (x : ℕ). sum_below x (λ j. count_below 64 (bit_at (kept_word idx masks region (from + j))))) z
      ∙ sum-suc (k - from) (λ j. count_below 64 (bit_at (kept_word idx masks region (from + j))))
      ∙ ap (λ (x : ℕ). kept_in idx masks region from k + count_below 64 (bit_at (kept_word idx masks region x))) e

  pub kept-le : (k : ℕ) → kept_in idx masks region from k ≤ 64 * (k - from)
  unfolding kept_in
  kept-le k = sum-most (k - from) 64 (λ j. count_below 64 (bit_at (kept_word idx masks region (from + j)))) (λ j l. count-le 64 (bit_at (kept_word idx masks region (from + j))))

-- the first word's numbers, and the others'
pub numbers_turn : (idx masks region : List ℕ) (from to : ℕ) → from < to
    → join_below (to - from) (numbers_at idx masks region from) ≡ numbers_of idx masks region from ++ join_below (to - (from + 1)) (numbers_at idx masks region (from + 1))
unfolding join_below
numbers_turn idx masks region from to h =
    let z : to - from ≡ 1 + (to - (from + 1)) = omega arith in
    ap (λ (x : ℕ). join_below x (numbers_at idx masks region from)) z ∙ join-append 1 (to - (from + 1)) (numbers_at idx masks region from)
    ∙ ap₂ (λ (x y : List ℕ). x ++ y) (ap (numbers_of idx masks region) (add-zero from))
    (join-cong (to - (from + 1)) (λ j. numbers_at idx masks region from (1 + j)) (numbers_at idx masks region (from + 1)) (λ j l. ap (numbers_of idx masks region) (omega arith)))

-- a node's number: the members before its word, and those before its bit in the word
pub number-at : (region : List ℕ) (w b : ℕ) → b < 64 → number_of (in_mask region) (64 * w + b) ≡ count_below (64 * w) (in_mask region) + count_below b (bit_at (get_or region w 0))
number-at region w b l = sum-append (64 * w) b _ ∙ ap (λ (x : ℕ). count_below (64 * w) (in_mask region) + x) (count-cong b (λ j. in_mask region (64 * w + j)) (bit_at (get_or region w 0)) (λ j m. in-word region w j (omega arith)))

module _ (n : ℕ) (ptr idx masks region : List ℕ) (side : IsSide n n ptr idx masks) (mask : IsMask n region) (r : ℕ) (h : r < n) where
  abbrev lo : ℕ
  lo = get_or ptr r 0

  abbrev hi : ℕ
  hi = get_or ptr (r + 1) 0

  abbrev q : ℕ → Bool
  q = inside (in_mask region) (side_holds ptr idx masks) r

  abbrev kept : ℕ → ℕ
  kept = kept_word idx masks region

  kept-bit : (k : ℕ) → lo ≤ k → k < hi → (b : ℕ) → b < 64 → q (64 * get_or idx k 0 + b) ≡ bit_at (kept k) b
  kept-bit k a z b l =
      let w = get_or idx k 0 in
      let here : get_or idx k 0 ≡ (64 * w + b) / 64 = omega arith in
      let bit : (64 * w + b) % 64 ≡ b = omega arith in
      ap₂ ◌&&◌ (in-word region w b l)
      (holds_at idx masks lo hi (at_up _ _ _ _ _ side r h) (at_words _ _ _ _ _ side r h) (at-masks _ _ _ _ _ side r h) (side.rising r h) k (64 * w + b) a z here ∙ ap (bit_at (get_or masks k 0)) bit)
      ∙ and_comm (bit_at (get_or region w 0) b) (bit_at (get_or masks k 0) b)
      ∙ sym (bit-and (get_or masks k 0) (get_or region w 0) b)

  home : (c : ℕ) → T (q c) → (k : ℕ) × (lo ≤ k) × (k < hi) × (get_or idx k 0 ≡ c / 64)
  home c t = found idx masks lo hi (at_up _ _ _ _ _ side r h) (at_words _ _ _ _ _ side r h) (at-masks _ _ _ _ _ side r h) (side.rising r h) c (and_r (in_mask region c) (side_holds ptr idx masks r c) t)

  small : (c : ℕ) → T (q c) → c < n
  small c t = held-col n n ptr idx masks side r c h (and_r (in_mask region c) (side_holds ptr idx masks r c) t)

  pub row_word : (k : ℕ) → k < hi → get_or idx k 0 < words_needed n
  row_word k z = let l : k < length masks = omega (arith, at-masks _ _ _ _ _ side r h) in inside-word _ _ _ (side.fits k l) (side.inside k l) (side.used k l)

  -- it is stored, and stands at a word of the region
  pub row_place : (k : ℕ) → k < hi → (k < length masks) × (k < length idx) × (get_or idx k 0 < length region)
  row_place k z =
      (omega (arith, at-masks _ _ _ _ _ side r h), omega (arith, at_words _ _ _ _ _ side r h), omega (arith, row_word k z, is-length n region mask))

  pub row_kept : count_below n q ≡ kept_in idx masks region lo hi
  unfolding kept_in
  row_kept =
      count-by-words q n idx lo hi (side.rising r h) home (at_up _ _ _ _ _ side r h) small (λ k a z. row_word k z)
      ∙ sum-cong (hi - lo) (λ j. count_below 64 (λ b. q (64 * get_or idx (lo + j) 0 + b))) (λ j. count_below 64 (bit_at (kept (lo + j))))
      (λ j l. count-cong 64 (λ b. q (64 * get_or idx (lo + j) 0 + b)) (bit_at (kept (lo + j))) (λ b m. kept-bit (lo + j) (omega arith) (omega arith) b m))

  abbrev numbers : ℕ → List ℕ
  numbers = numbers_at idx masks region lo

  one : (j : ℕ) → j < hi - lo → map (number_of (in_mask region)) (word_members q n idx lo hi (side.rising r h) home j) ≡ numbers j
  unfolding word_members
  one j l =
      let w = get_or idx (lo + j) 0 in
      map-two (number_of (in_mask region)) (λ (b : ℕ). 64 * w + b) (members_below 64 (λ b. q (64 * w + b)))
      ∙ ap (map (λ (b : ℕ). number_of (in_mask region) (64 * w + b))) (members-ext (λ b. q (64 * w + b)) (bit_at (kept (lo + j))) 0 64 (λ b a m. kept-bit (lo + j) (omega arith) (omega arith) b m))
      ∙ map-alike (λ b. number_of (in_mask region) (64 * w + b)) (λ b. count_below (64 * w) (in_mask region) + count_below b (bit_at (get_or region w 0))) (bit_at (kept (lo + j))) 0 64 (λ b a m t. number-at region w b m)

  pub row-numbers : map (number_of (in_mask region)) (columns_of n (in_mask region) (side_holds ptr idx masks) r) ≡ join_below (hi - lo) (numbers_at idx masks region lo)
  row-numbers =
      ap (map (number_of (in_mask region))) (by_words q n idx lo hi (side.rising r h) home (at_up _ _ _ _ _ side r h) small (λ k a z. row_word k z))
      ∙ map-join (number_of (in_mask region)) (hi - lo) (word_members q n idx lo hi (side.rising r h) home)
      ∙ join-cong (hi - lo) (λ j. map (number_of (in_mask region)) (word_members q n idx lo hi (side.rising r h) home j)) numbers one
