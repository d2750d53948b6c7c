-- The words of a row in place are the words of its columns, and the other way round. Assumes nothing.
use mathlib.Core.Logic.{◌⊎◌, inl, inr}
use mathlib.Core.Path.{◌≡◌, refl, sym, ap, ◌∙◌, subst}
use mathlib.Core.Bool.{Bool, true, false, not, cond}
use mathlib.Core.List.{List, map}
use Prim.Native.Nat.{ℕ, ◌+◌, ◌-◌, ◌*◌, ◌/◌, ◌≤◌, ◌<◌}
use native.Mathlib.Omega.{arith}
use native.Mathlib.Nat.{zero-add}
use lib.Dec.{T, eqb}
use lib.ListN.{length, get_or, length-map}
use lib.Seq.{slice, ext_get_or, length-slice}
use Rattle.base.specs.Sets.{one_if, sum_below, count_below, members_below}
use Rattle.base.proofs.Bools.{T-not-zero, not-zero-T, T_false, decide}
use Rattle.base.proofs.Lists.{get_or-slice, get_d_map}
use Rattle.base.proofs.Sets.{sum-cong, sum-members, sum-none, count-cong, count_past, members-at, members-rising, members-find, members-le, members-unique, sum-le, count-pos, count-members}
use Rattle.word.specs.Bits.{bit_at, word_of}
use Rattle.word.proofs.Words.{bit_word, word_some, word-pos, count-words}
use Rattle.mask.specs.Mask.{words_needed}
use Rattle.side.specs.Side.{words_of_row, masks_of_row}
use Rattle.side.specs.Check.{bits_in}
use Rattle.side.specs.Row.{Row}

-- a row has no more words than fit its columns
pub words-few : (ncols : ℕ) (p : ℕ → Bool) → length (words_of_row ncols p) ≤ words_needed ncols
unfolding words_of_row
words-few ncols p = members-le _ 0 (words_needed ncols)

module _ (p : ℕ → Bool) (ncols : ℕ) (idx masks : List ℕ) (from to : ℕ) (row : Row p idx masks from to)
    (h : from ≤ to) (hi : to ≤ length idx) (hm : to ≤ length masks) (small : (c : ℕ) → T (p c) → c < ncols) where
  abbrev Used : ℕ → Bool
  Used w = not (eqb (word_of p w) 0)

  len : length (slice from to idx) ≡ to - from
  len = length-slice from to idx hi

  pub row_words : slice from to idx ≡ words_of_row ncols p
  unfolding words_of_row
  row_words = members-unique Used (words_needed ncols) 0 (slice from to idx) ris own all
    where
      ris : (j k : ℕ) → j < k → k < length (slice from to idx) → get_or (slice from to idx) j 0 < get_or (slice from to idx) k 0
      ris j k a b =
          rw (get_or-slice from to idx j (omega (arith, len)), get_or-slice from to idx k (omega (arith, len)))
          (row.rising (from + j) (from + k) (omega arith) (omega arith) (omega (arith, len)))

      own : (k : ℕ) → k < length (slice from to idx) → T (Used (get_or (slice from to idx) k 0)) × (0 ≤ get_or (slice from to idx) k 0) × (get_or (slice from to idx) k 0 < 0 + words_needed ncols)
      own k a =
          let e : get_or (slice from to idx) k 0 ≡ get_or idx (from + k) 0 = get_or-slice from to idx k (omega (arith, len)) in
          let b : from + k < to = omega (arith, len) in
          let u : 0 < word_of p (get_or idx (from + k) 0) = omega (arith, row.mask (from + k) (omega arith) b, row.used (from + k) (omega arith) b) in
          let s : (i : ℕ) × (64 * get_or idx (from + k) 0 ≤ i) × (i < 64 * get_or idx (from + k) 0 + 64) × T (p i) = word_some p 64 (64 * get_or idx (from + k) 0) u in
          let c : s.0 < ncols = small s.0 s.3 in
          rw e (T-not-zero (word_of p (get_or idx (from + k) 0)) u, omega arith, omega arith)

      all : (w : ℕ) → 0 ≤ w → w < 0 + words_needed ncols → T (Used w) → (k : ℕ) × (k < length (slice from to idx)) × (get_or (slice from to idx) k 0 ≡ w)
      all w a d t =
          let s : (i : ℕ) × (64 * w ≤ i) × (i < 64 * w + 64) × T (p i) = word_some p 64 (64 * w) (not-zero-T (word_of p w) t) in
          let f : (k : ℕ) × (from ≤ k) × (k < to) × (get_or idx k 0 ≡ s.0 / 64) = row.every s.0 s.3 in
          (f.0 - from, omega (arith, len), get_or-slice from to idx (f.0 - from) (omega arith) ∙ ap (λ (n : ℕ). get_or idx n 0) (omega arith) ∙ f.3 ∙ omega arith)

  pub row_masks : slice from to masks ≡ masks_of_row ncols p
  unfolding masks_of_row
  row_masks =
      ext_get_or 0 (slice from to masks) (map (word_of p) (slice from to idx))
      (length-slice from to masks hm ∙ sym (length-map (slice from to idx) (word_of p) ∙ len)) each
      ∙ ap (map (word_of p)) row_words
    where
      each : (i : ℕ) → i < length (slice from to masks) → get_or (slice from to masks) i 0 ≡ get_or (map (word_of p) (slice from to idx)) i 0
      each i a =
          let b : from + i < to = omega (arith, length-slice from to masks hm) in
          get_or-slice from to masks i b ∙ row.mask (from + i) (omega arith) b
          ∙ ap (word_of p) (sym (get_or-slice from to idx i b))
          ∙ sym (get_d_map (word_of p) (slice from to idx) i (omega (arith, len)))

  -- the set bits of its masks are its columns
  pub row_count : bits_in masks from to ≡ count_below ncols p
  unfolding bits_in words_of_row
  row_count =
      sum-cong (to - from) (λ j. count_below 64 (bit_at (get_or masks (from + j) 0))) (λ j. columns (get_or words j 0)) (λ j l. one j l)
      ∙ ap (λ (n : ℕ). sum_below n (λ j. columns (get_or words j 0))) (sym len ∙ ap length row_words)
      ∙ sum-members Used 0 (words_needed ncols) columns
      ∙ sum-cong (words_needed ncols) (λ j. cond (Used (0 + j)) (columns (0 + j)) 0) columns (λ w l. ap (λ (i : ℕ). cond (Used i) (columns i) 0) (zero-add w) ∙ whole w)
      ∙ count-words (words_needed ncols) p
      ∙ count_past ncols (64 * words_needed ncols) p (omega arith) (λ i a b t. omega (arith, small i t))
    where
      words : List ℕ
      words = members_below (words_needed ncols) Used

      columns : ℕ → ℕ
      columns = λ w. count_below 64 (λ j. p (64 * w + j))

      one : (j : ℕ) → j < to - from → count_below 64 (bit_at (get_or masks (from + j) 0)) ≡ columns (get_or words j 0)
      one j l =
          let b : from + j < to = omega arith in
          let e : get_or idx (from + j) 0 ≡ get_or words j 0 = sym (get_or-slice from to idx j b) ∙ ap (λ (x : List ℕ). get_or x j 0) row_words in
          ap (λ (m : ℕ). count_below 64 (bit_at m)) (row.mask (from + j) (omega arith) b ∙ ap (word_of p) e)
          ∙ count-cong 64 (bit_at (word_of p (get_or words j 0))) (λ i. p (64 * get_or words j 0 + i)) (λ i u. bit_word p 64 (64 * get_or words j 0) i u)

      whole : (w : ℕ) → cond (Used w) (columns w) 0 ≡ columns w
      whole w = go (Used w) (λ t. none t)
        where
          none : (T (Used w) → ⊥) → columns w ≡ 0
          none f =
              count-cong 64 (λ j. p (64 * w + j)) (λ j. false)
              (λ j u. T_false (p (64 * w + j)) (λ t. f (T-not-zero (word_of p w) (word-pos p 64 (64 * w) (64 * w + j) (omega arith) (omega arith) t)))) ∙ sum-none 64

          go : (t : Bool) → ((T t → ⊥) → columns w ≡ 0) → cond t (columns w) 0 ≡ columns w
          go true f = refl
          go false f = sym (f (λ x. x))

-- lists that hold the words of p at from..to are a row of p
pub words_row : (p : ℕ → Bool) (ncols : ℕ) (idx masks : List ℕ) (from to : ℕ) → from ≤ to → to ≤ length idx → ((c : ℕ) → T (p c) → c < ncols)
    → slice from to idx ≡ words_of_row ncols p → slice from to masks ≡ masks_of_row ncols p → Row p idx masks from to
unfolding words_of_row masks_of_row
words_row p ncols idx masks from to h hi small ei em = record { rising = ris; mask = msk; used = in_use; every = all }
  where
    q : ℕ → Bool
    q = λ w. not (eqb (word_of p w) 0)

    words : List ℕ
    words = members_below (words_needed ncols) q

    many : length words ≡ to - from
    many = sym (ap length ei) ∙ length-slice from to idx hi

    place : (k : ℕ) → from ≤ k → k < to → get_or idx k 0 ≡ get_or words (k - from) 0
    place k a b =
        let s : from + (k - from) ≡ k = omega arith in
        ap (λ (n : ℕ). get_or idx n 0) (sym s) ∙ sym (get_or-slice from to idx (k - from) (omega arith)) ∙ ap (λ (l : List ℕ). get_or l (k - from) 0) ei

    ris : (j k : ℕ) → from ≤ j → j < k → k < to → get_or idx j 0 < get_or idx k 0
    ris j k a b d = rw (place j a (omega arith), place k (omega arith) d) (members-rising q 0 (words_needed ncols) (j - from) (k - from) (omega arith) (omega (arith, many)))

    msk : (k : ℕ) → from ≤ k → k < to → get_or masks k 0 ≡ word_of p (get_or idx k 0)
    msk k a b =
        let s : from + (k - from) ≡ k = omega arith in
        ap (λ (n : ℕ). get_or masks n 0) (sym s) ∙ sym (get_or-slice from to masks (k - from) (omega arith)) ∙ ap (λ (l : List ℕ). get_or l (k - from) 0) em
        ∙ get_d_map (word_of p) words (k - from) (omega (arith, many)) ∙ ap (word_of p) (sym (place k a b))

    in_use : (k : ℕ) → from ≤ k → k < to → 0 < get_or masks k 0
    in_use k a b = rw (msk k a b, place k a b) (not-zero-T (word_of p (get_or words (k - from) 0)) (members-at q 0 (words_needed ncols) (k - from) (omega (arith, many))).2)

    all : (c : ℕ) → T (p c) → (k : ℕ) × (from ≤ k) × (k < to) × (get_or idx k 0 ≡ c / 64)
    all c t =
        let l : c < ncols = small c t in
        let w : T (q (c / 64)) = T-not-zero (word_of p (c / 64)) (word-pos p 64 (64 * (c / 64)) c (omega arith) (omega arith) t) in
        let r : (k : ℕ) × (k < length words) × (get_or words k 0 ≡ c / 64) = members-find q 0 (words_needed ncols) (c / 64) (omega arith) (omega arith) w in
        let b : r.0 < to - from = omega (arith, r.1, many) in
        let s : from + r.0 - from ≡ r.0 = omega arith in
        (from + r.0, omega arith, omega arith, place (from + r.0) (omega arith) (omega arith) ∙ ap (λ (n : ℕ). get_or words n 0) s ∙ r.2)

-- a row has no more words than columns
pub words-le : (p : ℕ → Bool) (ncols : ℕ) → ((c : ℕ) → T (p c) → c < ncols) → length (words_of_row ncols p) ≤ count_below ncols p
unfolding words_of_row
words-le p ncols small =
    omega (
      arith,
      count-members (words_needed ncols) q,
      sum-le (words_needed ncols) (λ w. one_if (q w)) (λ w. count_below 64 (λ j. p (64 * w + j))) (λ w h. one w (decide (q w))),
      count-words (words_needed ncols) p,
      count_past ncols (64 * words_needed ncols) p (omega arith) (λ i a b t. omega (arith, small i t)),
    )
  where
    q : ℕ → Bool
    q = λ w. not (eqb (word_of p w) 0)

    none : (b : Bool) → (T b → ⊥) → one_if b ≡ 0
    none true f = absurd (f tt)
    none false f = refl

    most : (b : Bool) → one_if b ≤ 1
    most true = omega arith
    most false = omega arith

    one : (w : ℕ) → T (q w) ⊎ (T (q w) → ⊥) → one_if (q w) ≤ count_below 64 (λ j. p (64 * w + j))
    one w (inl t) =
        let s : (i : ℕ) × (64 * w ≤ i) × (i < 64 * w + 64) × T (p i) = word_some p 64 (64 * w) (not-zero-T (word_of p w) t) in
        let e : 64 * w + (s.0 - 64 * w) ≡ s.0 = omega arith in
        omega (arith, most (q w), count-pos 64 (λ j. p (64 * w + j)) (s.0 - 64 * w) (omega arith) (subst (λ (x : ℕ). T (p x)) (sym e) s.3))
    one w (inr f) = omega (arith, none (q w) f)
