-- Counts of a row's columns below a bound, by its words: rank and select. Assumes nothing.
use mathlib.Core.Path.{◌≡◌, refl, sym, ap, ap₂, ◌∙◌, subst}
use Rattle.std.specs.Prelude.{Some, None}
use mathlib.Core.Logic.{◌≢◌}
use mathlib.Core.Bool.{Bool, true, false, ◌&&◌}
use mathlib.Core.List.{List}
use Prim.Native.Nat.{ℕ, ◌+◌, ◌*◌, ◌/◌, ◌%◌, ◌≤◌, ◌<◌}
use native.Mathlib.Omega.{arith}
use native.Mathlib.Decide.{dec_lt}
use borrow.Author.Tests.{lt-ltb}
use lib.Dec.{T, ltb, ltb→lt}
use lib.ListN.{length, get_or}
use Rattle.base.specs.Sets.{one_if, count_below, members_below}
use Rattle.base.proofs.Bools.{and_l, and_r}
use Rattle.base.proofs.Sets.{sum-append, count-cong, count-members, members-at, count-member, get_or-count, count-get_or}
use Rattle.word.specs.Bits.{bit_at, set_bits}
use Rattle.word.specs.Answers.{entry, select_answer}
use Rattle.word.proofs.Words.{bit_word, word-ext}
use Rattle.word.proofs.Answers.{entry_in, entry_past}
use Rattle.side.specs.Check.{bits_in}
use Rattle.side.specs.Row.{Lower, Row}
use Rattle.side.proofs.Rows.{row_count}

-- what a word's `select` answers
module _ (m left off : ℕ) (l : left < count_below 64 (bit_at m)) (s : select_answer m left ≡ Some off) where
  short : left < length (set_bits m)
  short = omega (arith, count-members 64 (bit_at m))

  off-is : get_or (set_bits m) left 0 ≡ off
  off-is = cc (entry_in (set_bits m) left short)

  pub off_small : off < 64
  off_small = omega (arith, (members-at (bit_at m) 0 64 left short).1, off-is)

  off_set : T (bit_at m off)
  off_set = subst (λ (b : Bool). T b) (ap (bit_at m) off-is) (members-at (bit_at m) 0 64 left short).2

  off-rank : count_below off (bit_at m) ≡ left
  off-rank = ap (λ (n : ℕ). count_below n (bit_at m)) (sym off-is) ∙ count-get_or 64 (bit_at m) left short

-- it has a bit with an ordinal below its count
pub select_has : (m left : ℕ) → left < count_below 64 (bit_at m) → select_answer m left ≡ None → ⊥
select_has m left l s = cc (entry_in (set_bits m) left (omega (arith, count-members 64 (bit_at m))))

module _ (p : ℕ → Bool) (idx masks : List ℕ) (from to : ℕ) (row : Row p idx masks from to) (hi : to ≤ length idx) (hm : to ≤ length masks) where
  -- words that lie below b, and words that start at or past it
  pub count-upto : (r b : ℕ) → from ≤ r → r ≤ to → ((k : ℕ) → from ≤ k → k < r → 64 * get_or idx k 0 + 64 ≤ b) → ((k : ℕ) → r ≤ k → k < to → b ≤ 64 * get_or idx k 0) → bits_in masks from r ≡ count_below b p
  count-upto r b h u under over =
      row_count (λ c. p c && ltb c b) b idx masks from r part h (omega arith) (omega arith) (λ c t. ltb→lt c b (and_r (p c) (ltb c b) t))
      ∙ count-cong b (λ c. p c && ltb c b) p (λ c l. ap (λ (t : Bool). p c && t) (lt-ltb c b l) ∙ whole (p c))
    where
      whole : (t : Bool) → (t && true) ≡ t
      whole true = refl
      whole false = refl

      part : Row (λ c. p c && ltb c b) idx masks from r
      part = record {
        rising = λ j k a d e. row.rising j k a d (omega arith);
        mask = λ k a d. row.mask k a (omega arith)
            ∙ word-ext p (λ c. p c && ltb c b) 64 (64 * get_or idx k 0) (λ i l v. sym (ap (λ (t : Bool). p i && t) (lt-ltb i b (omega (arith, under k a d))) ∙ whole (p i)));
        used = λ k a d. row.used k a (omega arith);
        every = λ c t. all c (and_l (p c) (ltb c b) t) (ltb→lt c b (and_r (p c) (ltb c b) t));
      }
        where
          all : (c : ℕ) → T (p c) → c < b → (k : ℕ) × (from ≤ k) × (k < r) × (get_or idx k 0 ≡ c / 64)
          all c t l =
              let f : (k : ℕ) × (from ≤ k) × (k < to) × (get_or idx k 0 ≡ c / 64) = row.every c t in
              (f.0, f.1, less f (dec_lt f.0 r), f.3)
            where
              less : (f : (k : ℕ) × (from ≤ k) × (k < to) × (get_or idx k 0 ≡ c / 64)) → Dec (f.0 < r) → f.0 < r
              less f (yes a) = a
              less f (no a) = absurd (omega (arith, over f.0 (omega arith) f.2, f.3))

  -- the columns of the word at k, below an offset
  pub count_word : (k b : ℕ) → from ≤ k → k < to → b ≤ 64 → count_below (64 * get_or idx k 0 + b) p ≡ bits_in masks from k + count_below b (bit_at (get_or masks k 0))
  count_word k b h u l =
      sum-append (64 * get_or idx k 0) b (λ i. one_if (p i))
      ∙ ap₂ ◌+◌
      (sym (count-upto k (64 * get_or idx k 0) h (omega arith) (λ j a d. omega (arith, row.rising j k a d u)) (λ j a d. start j a d)))
      (count-cong b (λ j. p (64 * get_or idx k 0 + j)) (bit_at (get_or masks k 0)) (λ j v. sym (ap (λ (m : ℕ). bit_at m j) (row.mask k h u) ∙ bit_word p 64 (64 * get_or idx k 0) j (omega arith))))
    where
      start : (j : ℕ) → k ≤ j → j < to → 64 * get_or idx k 0 ≤ 64 * get_or idx j 0
      start j a d = go (dec_lt k j)
        where
          go : Dec (k < j) → 64 * get_or idx k 0 ≤ 64 * get_or idx j 0
          go (yes v) = omega (arith, row.rising k j h v d)
          go (no v) = let e : k ≡ j = omega arith in omega (arith, ap (λ (n : ℕ). get_or idx n 0) e)

  -- `rank`: the column's word is stored, or it is not
  pub rank-word : (col r : ℕ) → from ≤ r → r < to → get_or idx r 0 ≡ col / 64 → bits_in masks from r + count_below (col % 64) (bit_at (get_or masks r 0)) ≡ count_below col p
  rank-word col r h u e =
      let s : 64 * get_or idx r 0 + col % 64 ≡ col = omega arith in
      sym (count_word r (col % 64) h u (omega arith)) ∙ ap (λ (n : ℕ). count_below n p) s

  pub rank-none : (col r : ℕ) → Lower idx from to (col / 64) r → (r < to → get_or idx r 0 ≢ col / 64) → bits_in masks from r ≡ count_below col p
  rank-none col r lo ne = count-upto r col lo.low lo.high (λ k a d. omega (arith, lo.below k a d)) (λ k a d. over k a d)
    where
      over : (k : ℕ) → r ≤ k → k < to → col ≤ 64 * get_or idx k 0
      over k a d = go (dec_lt r k)
        where
          go : Dec (r < k) → col ≤ 64 * get_or idx k 0
          go (yes v) = omega (arith, lo.above r (omega arith) (omega arith), row.rising r k lo.low v d)
          go (no v) =
              let e : r ≡ k = omega arith in
              let n : get_or idx k 0 ≢ col / 64 = λ q. ne (omega arith) (ap (λ (n : ℕ). get_or idx n 0) e ∙ q) in
              omega (arith, lo.above k a d, n)

  -- `select`: the column is in the word at k
  pub select_in : (ncols ordinal left k off : ℕ) → ((c : ℕ) → T (p c) → c < ncols) → from ≤ k → k < to → ordinal ≡ bits_in masks from k + left → left < count_below 64 (bit_at (get_or masks k 0))
      → select_answer (get_or masks k 0) left ≡ Some off → Some (get_or idx k 0 * 64 + off) ≡ entry (members_below ncols p) ordinal
  select_in ncols ordinal left k off small h u e l s =
      ap Some (num ∙ sym (get_or-count ncols p c (small c held) held) ∙ ap (λ (n : ℕ). get_or (members_below ncols p) n 0) rank)
      ∙ sym (entry_in (members_below ncols p) ordinal in_list)
    where
      m : ℕ
      m = get_or masks k 0

      c : ℕ
      c = 64 * get_or idx k 0 + off

      num : get_or idx k 0 * 64 + off ≡ c
      num = omega arith

      held : T (p c)
      held = subst (λ (b : Bool). T b) (ap (λ (x : ℕ). bit_at x off) (row.mask k h u) ∙ bit_word p 64 (64 * get_or idx k 0) off (off_small m left off l s)) (off_set m left off l s)

      rank : count_below c p ≡ ordinal
      rank =
          let b : off ≤ 64 = omega (arith, off_small m left off l s) in
          count_word k off h u b ∙ ap (λ (n : ℕ). bits_in masks from k + n) (off-rank m left off l s) ∙ sym e

      in_list : ordinal < length (members_below ncols p)
      in_list = omega (arith, count-members ncols p, sym rank, count-member ncols p c (small c held) held)

  pub select-past : (ncols ordinal left : ℕ) → from ≤ to → ((c : ℕ) → T (p c) → c < ncols) → ordinal ≡ bits_in masks from to + left → None ≡ entry (members_below ncols p) ordinal
  select-past ncols ordinal left h small e =
      sym (entry_past (members_below ncols p) ordinal (omega (arith, count-members ncols p, row_count p ncols idx masks from to row h hi hm small)))
