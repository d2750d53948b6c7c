-- A set of columns that lies in the words of a row: its members word by word. Assumes nothing.
use mathlib.Core.Path.{◌≡◌, sym, ap, ap₂, ◌∙◌}
use mathlib.Core.Bool.{Bool}
use mathlib.Core.List.{List, [], map, ◌++◌, append-nil}
use mathlib.Core.Logic.{◌⊎◌, inl, inr}
use Prim.Native.Nat.{ℕ, zero, suc, ◌+◌, ◌-◌, ◌*◌, ◌/◌, ◌≤◌, ◌<◌}
use native.Mathlib.Omega.{arith}
use lib.Dec.{T}
use lib.ListN.{get_or, length, length-map}
use Rattle.base.specs.Lists.{join_below}
use Rattle.base.specs.Sets.{members_from, members_below, count_below, sum_below}
use Rattle.base.proofs.Bools.{lt-or-le}
use Rattle.base.proofs.Joins.{join-none, join-next, join-count}
use Rattle.base.proofs.Sets.{members-append, members-none, members-past, members-shift, count-members, sum-cong}
use Rattle.mask.specs.Mask.{words_needed}
use Rattle.side.specs.Check.{Rising}

module _ (q : ℕ → Bool) (n : ℕ) (idx : List ℕ) (from to : ℕ) (up : Rising idx from to)
    (home : (c : ℕ) → T (q c) → (k : ℕ) × (from ≤ k) × (k < to) × (get_or idx k 0 ≡ c / 64)) where
  -- the members in the word at place from + j
  unfoldable pub word_members : ℕ → List ℕ
  word_members j = map (λ (b : ℕ). 64 * get_or idx (from + j) 0 + b) (members_below 64 (λ b. q (64 * get_or idx (from + j) 0 + b)))

  abbrev word : ℕ → ℕ
  word j = get_or idx (from + j) 0

  -- below a bound that lies between the words before place from + k and those from there on
  pub upto : (k b : ℕ) → from + k ≤ to → ((j : ℕ) → j < k → 64 * word j + 64 ≤ b) → ((j : ℕ) → k ≤ j → from + j < to → b ≤ 64 * word j) → members_below b q ≡ join_below k word_members
  unfolding word_members
  upto zero b h low high =
      members-none q 0 b
      (λ i l u t. let e = home i t in let f : from + (e.0 - from) ≡ e.0 = omega (arith, e.1) in
      absurd (omega (arith, high (e.0 - from) (omega arith) (omega (arith, f, e.2)), ap (λ (x : ℕ). get_or idx x 0) f, e.3)))
      ∙ sym (join-none word_members)
  upto (suc k) b h low high =
      let w = word k in
      let size : b ≡ 64 * w + (64 + (b - (64 * w + 64))) = omega (arith, low k (omega arith)) in
      let before : members_below (64 * w) q ≡ join_below k word_members = upto k (64 * w) (omega arith)
      (λ j l. omega (arith, up (from + j) (from + k) (omega arith) (omega arith) (omega arith)))
      (λ j l u. below k j l u) in
      let here : members_from q (0 + 64 * w) 64 ≡ word_members k = ap (λ (x : ℕ). members_from q x 64) (omega arith) ∙ members-shift q (64 * w) 0 64 in
      let past : members_from q (0 + 64 * w + 64) (b - (64 * w + 64)) ≡ [] = members-none q (0 + 64 * w + 64) (b - (64 * w + 64)) (λ i l u t. none k b h high i (omega arith) (omega (arith, low k (omega arith))) t) in
      ap (λ (x : ℕ). members_below x q) size
      ∙ members-append q 0 (64 * w) (64 + (b - (64 * w + 64)))
      ∙ ap₂ ◌++◌ before (members-append q (0 + 64 * w) 64 (b - (64 * w + 64)) ∙ ap₂ ◌++◌ here past ∙ append-nil (word_members k))
      ∙ sym (join-next k word_members)
      ∙ ap (λ (x : ℕ). join_below x word_members) (sym (suc-is k))
    where
      suc-is : (k : ℕ) → suc k ≡ k + 1
      suc-is k = omega arith

      below : (k j : ℕ) → k ≤ j → from + j < to → 64 * word k ≤ 64 * word j
      below k j l u = go (lt-or-le k j)
        where
          go : (k < j) ⊎ (j ≤ k) → 64 * word k ≤ 64 * word j
          go (inl m) = omega (arith, up (from + k) (from + j) (omega arith) (omega arith) u)
          go (inr m) = let e : k ≡ j = omega arith in omega (arith, ap word e)

      none : (k b : ℕ) → from + suc k ≤ to → ((j : ℕ) → suc k ≤ j → from + j < to → b ≤ 64 * word j) → (i : ℕ) → 64 * word k + 64 ≤ i → i < b → T (q i) → ⊥
      none k b h high i l u t =
          let e = home i t in
          let f : from + (e.0 - from) ≡ e.0 = omega (arith, e.1) in
          go (e.0 - from) (ap (λ (x : ℕ). get_or idx x 0) f ∙ e.3) (omega (arith, f, e.2)) (lt-or-le k (e.0 - from))
        where
          go : (j : ℕ) → word j ≡ i / 64 → from + j < to → (k < j) ⊎ (j ≤ k) → ⊥
          go j e m (inl a) = omega (arith, high j (omega arith) m)
          go j e m (inr a) = omega (arith, below j k a (omega arith))

  module _ (order : from ≤ to) (small : (c : ℕ) → T (q c) → c < n) (words : (k : ℕ) → from ≤ k → k < to → get_or idx k 0 < words_needed n) where
    pub by_words : members_below n q ≡ join_below (to - from) word_members
    by_words =
        sym (members-past q n (64 * words_needed n) (omega arith) (λ i l u t. omega (arith, small i t)))
        ∙ upto (to - from) (64 * words_needed n) (omega arith) (λ j l. omega (arith, words (from + j) (omega arith) (omega arith))) (λ j l u. absurd (omega arith))

    pub count-by-words : count_below n q ≡ sum_below (to - from) (λ j. count_below 64 (λ b. q (64 * word j + b)))
    unfolding word_members
    count-by-words =
        sym (count-members n q) ∙ ap length by_words ∙ join-count (to - from) word_members
        ∙ sum-cong (to - from) (λ j. length (word_members j)) (λ j. count_below 64 (λ b. q (64 * word j + b)))
        (λ j l. length-map (members_below 64 (λ b. q (64 * word j + b))) (λ (b : ℕ). 64 * word j + b) ∙ count-members 64 (λ b. q (64 * word j + b)))
