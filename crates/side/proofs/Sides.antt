-- An accepted side is exactly the side of its own set of pairs, and the side of a set of pairs is accepted and holds that set. Assumes nothing.
use mathlib.Core.Path.{◌≡◌, sym, ap, ap₂, ◌∙◌, subst, fun_ext}
use mathlib.Core.Logic.{◌⊎◌, inl, inr}
use mathlib.Core.Bool.{Bool, true, false, not, ◌||◌}
use mathlib.Core.List.{List, ◌++◌}
use Prim.Native.Nat.{ℕ, zero, suc, ◌+◌, ◌-◌, ◌*◌, ◌/◌, ◌%◌, ◌^◌, ◌≤◌, ◌<◌}
use native.Mathlib.Omega.{arith}
use native.Mathlib.Nat.{le_refl, zero-add}
use native.Mathlib.Numerals.{add-one}
use lib.Count.{ones}
use lib.Dec.{T, ltb, lt→ltb, not_T}
use lib.ListN.{length, get_or, take, drop, length-map, get_or-eq_default}
use lib.Seq.{slice, take-length, length-slice, length-take-le, ext_get_or, drop-nil}
use Rattle.std.specs.List.{sum_by}
use Rattle.base.specs.Checks.{side_limit, entry_limit}
use Rattle.base.specs.Sets.{sum_below, count_below, one_if}
use Rattle.base.proofs.Bools.{T_true, T_false, or_l, or_r, decide, lt-or-le}
use Rattle.base.proofs.Passes.{sum-list}
use Rattle.base.proofs.Lists.{part_slice, get_or-slice, take_on, length-list_from, get_or-list_from, rise-to, step_of}
use Rattle.base.proofs.Joins.{join-none, join-next, join-slice, join_up, join-length, join-count}
use Rattle.base.proofs.Sets.{every-i, sum-zero, sum-suc, sum-append, sum-cong, sum-most, sum-le, count-le, sum-swap}
use Rattle.word.specs.Bits.{bit_at, word_of}
use Rattle.word.proofs.Bits.{zero_bit, ones-count}
use Rattle.word.proofs.Words.{word_lt, bit_word}
use Rattle.side.specs.Side.{words_of_row, masks_of_row, side_words, side_masks, side_ptr, pair_count, mask_for, row_holds, side_holds, flip}
use Rattle.side.specs.Check.{bits_in, is_word_inside, IsRows, IsSide}
use Rattle.side.specs.Row.{Row}
use Rattle.side.proofs.Rows.{row_words, row_masks, row_count, words_row, words-le}
use Rattle.side.proofs.Holding.{row_inside, row-holds, own_row}

-- ---- counts of set bits

pub bits_none : (masks : List ℕ) (from : ℕ) → bits_in masks from from ≡ 0
unfolding bits_in
bits_none masks from = let e : from - from ≡ 0 = omega arith in ap (λ (n : ℕ). sum_below n (λ j. count_below 64 (bit_at (get_or masks (from + j) 0)))) e ∙ sum-zero (λ j. count_below 64 (bit_at (get_or masks (from + j) 0)))

pub bits-append : (masks : List ℕ) (a b c : ℕ) → a ≤ b → b ≤ c → bits_in masks a c ≡ bits_in masks a b + bits_in masks b c
unfolding bits_in
bits-append masks a b c h k =
    let e : c - a ≡ (b - a) + (c - b) = omega arith in
    ap (λ (n : ℕ). sum_below n f) e ∙ sum-append (b - a) (c - b) f
    ∙ ap (λ (x : ℕ). sum_below (b - a) f + x)
    (sum-cong (c - b) (λ j. f ((b - a) + j)) (λ j. count_below 64 (bit_at (get_or masks (b + j) 0))) (λ j l. ap (λ (i : ℕ). count_below 64 (bit_at (get_or masks i 0))) (omega arith)))
  where
    f : ℕ → ℕ
    f = λ j. count_below 64 (bit_at (get_or masks (a + j) 0))

pub bits-next : (masks : List ℕ) (from i : ℕ) → from ≤ i → bits_in masks from (i + 1) ≡ bits_in masks from i + count_below 64 (bit_at (get_or masks i 0))
unfolding bits_in
bits-next masks from i h =
    let e : i + 1 - from ≡ (i - from) + 1 = omega arith in
    let s : from + (i - from) ≡ i = omega arith in
    ap (λ (n : ℕ). sum_below n f) e ∙ sum-suc (i - from) f ∙ ap (λ (k : ℕ). sum_below (i - from) f + count_below 64 (bit_at (get_or masks k 0))) s
  where
    f : ℕ → ℕ
    f = λ j. count_below 64 (bit_at (get_or masks (from + j) 0))

-- the set bits of a part of the list together
pub bits-list : (masks : List ℕ) (from to : ℕ) → to ≤ length masks → ((k : ℕ) → get_or masks k 0 < 2 ^ 64) → sum_by ones (take (to - from) (drop from masks)) ≡ bits_in masks from to
unfolding bits_in
bits-list masks from to h fits =
    let l : List ℕ = slice from to masks in
    ap (sum_by ones) (part_slice from to masks) ∙ sum-list ones l
    ∙ ap (λ (n : ℕ). sum_below n (λ j. ones (get_or l j 0))) (length-slice from to masks h)
    ∙ sum-cong (to - from) (λ j. ones (get_or l j 0)) (λ j. count_below 64 (bit_at (get_or masks (from + j) 0)))
    (λ j u. ap ones (get_or-slice from to masks j (omega arith)) ∙ ones-count 64 (get_or masks (from + j) 0) (fits (from + j)))

pub bits-le : (masks : List ℕ) (from to : ℕ) → bits_in masks from to ≤ 64 * (to - from)
unfolding bits_in
bits-le masks from to = sum-most (to - from) 64 (λ j. count_below 64 (bit_at (get_or masks (from + j) 0))) (λ j h. count-le 64 (bit_at (get_or masks (from + j) 0)))

-- ---- rows one after the other: row r of s stands between ends r and ends (r + 1)

module _ (ncols : ℕ) (s : ℕ → ℕ → Bool) (idx masks : List ℕ) (ends : ℕ → ℕ) (n : ℕ)
    (first : ends 0 ≡ 0) (up : (r : ℕ) → r < n → ends r ≤ ends (r + 1))
    (room : (r : ℕ) → r ≤ n → ends r ≤ length idx) (room' : (r : ℕ) → r ≤ n → ends r ≤ length masks)
    (rows : (r : ℕ) → r < n → Row (s r) idx masks (ends r) (ends (r + 1))) (small : (r c : ℕ) → r < n → T (s r c) → c < ncols) where
  -- the words of the first r rows, their masks, and their pairs
  pub words-to : (r : ℕ) → r ≤ n → take (ends r) idx ≡ side_words r ncols s
  words-to zero h = ap (λ (k : ℕ). take k idx) first ∙ sym (join-none (λ r. words_of_row ncols (s r)))
  words-to (suc r) h =
      ap (λ (k : ℕ). take (ends k) idx) (sym (add-one r))
      ∙ take_on idx (ends r) (ends (r + 1)) (up r (omega arith))
      ∙ ap₂ (λ (x y : List ℕ). x ++ y) (words-to r (omega arith))
      (row_words (s r) ncols idx masks (ends r) (ends (r + 1)) (rows r (omega arith)) (up r (omega arith)) (room (r + 1) (omega arith)) (room' (r + 1) (omega arith)) (λ c t. small r c (omega arith) t))
      ∙ sym (join-next r (λ r. words_of_row ncols (s r))) ∙ ap (λ (k : ℕ). side_words k ncols s) (add-one r)

  pub masks-to : (r : ℕ) → r ≤ n → take (ends r) masks ≡ side_masks r ncols s
  masks-to zero h = ap (λ (k : ℕ). take k masks) first ∙ sym (join-none (λ r. masks_of_row ncols (s r)))
  masks-to (suc r) h =
      ap (λ (k : ℕ). take (ends k) masks) (sym (add-one r))
      ∙ take_on masks (ends r) (ends (r + 1)) (up r (omega arith))
      ∙ ap₂ (λ (x y : List ℕ). x ++ y) (masks-to r (omega arith))
      (row_masks (s r) ncols idx masks (ends r) (ends (r + 1)) (rows r (omega arith)) (up r (omega arith)) (room (r + 1) (omega arith)) (room' (r + 1) (omega arith)) (λ c t. small r c (omega arith) t))
      ∙ sym (join-next r (λ r. masks_of_row ncols (s r))) ∙ ap (λ (k : ℕ). side_masks k ncols s) (add-one r)

  pub ends-are : (r : ℕ) → r ≤ n → ends r ≡ length (side_words r ncols s)
  ends-are r h = sym (length-take-le (ends r) idx (room r h)) ∙ ap length (words-to r h)

  pub count-to : (r : ℕ) → r ≤ n → bits_in masks 0 (ends r) ≡ pair_count r ncols s
  count-to zero h = ap (bits_in masks 0) first ∙ bits_none masks 0 ∙ sym (sum-zero (λ r. count_below ncols (s r)))
  count-to (suc r) h =
      ap (λ (k : ℕ). bits_in masks 0 (ends k)) (sym (add-one r))
      ∙ bits-append masks 0 (ends r) (ends (r + 1)) (omega arith) (up r (omega arith))
      ∙ ap₂ ◌+◌ (count-to r (omega arith))
      (row_count (s r) ncols idx masks (ends r) (ends (r + 1)) (rows r (omega arith)) (up r (omega arith)) (room (r + 1) (omega arith)) (room' (r + 1) (omega arith)) (λ c t. small r c (omega arith) t))
      ∙ sym (sum-suc r (λ r. count_below ncols (s r))) ∙ ap (λ (k : ℕ). pair_count k ncols s) (add-one r)

-- ---- an accepted side

-- past the last row nothing is held
held-past : (nrows : ℕ) (ptr idx masks : List ℕ) → length ptr ≡ nrows + 1 → (r c : ℕ) → nrows ≤ r → side_holds ptr idx masks r c ≡ false
unfolding row_holds mask_for
held-past nrows ptr idx masks rows r c h =
    let e : get_or ptr (r + 1) 0 ≡ 0 = get_or-eq_default ptr 0 (omega (arith, rows)) in
    ap (λ (k : ℕ). bit_at (mask_for (c / 64) (slice (get_or ptr r 0) k idx) (slice (get_or ptr r 0) k masks)) (c % 64)) e
    ∙ ap (λ (l : List ℕ). bit_at (mask_for (c / 64) l (slice (get_or ptr r 0) 0 masks)) (c % 64)) (drop-nil (get_or ptr r 0))
    ∙ zero_bit (c % 64)

module _ (nrows : ℕ) (ptr idx masks : List ℕ) (m : IsRows nrows ptr idx masks) where
  pub end-le : (r : ℕ) → r ≤ nrows → get_or ptr r 0 ≤ length masks
  end-le r h = omega (arith, rise-to ptr nrows m.rises r nrows h (le_refl nrows), m.ends)

  pub end-in : (r : ℕ) → r ≤ nrows → get_or ptr r 0 ≤ length idx
  end-in r h = omega (arith, end-le r h, m.as_many)

  pub held-row : (r c : ℕ) → T (side_holds ptr idx masks r c) → r < nrows
  held-row r c t = go (lt-or-le r nrows)
    where
      go : (r < nrows) ⊎ (nrows ≤ r) → r < nrows
      go (inl h) = h
      go (inr h) = absurd (subst (λ (b : Bool). T b) (held-past nrows ptr idx masks m.rows r c h) t)

module _ (nrows ncols : ℕ) (ptr idx masks : List ℕ) (m : IsSide nrows ncols ptr idx masks) where
  abbrev held : ℕ → ℕ → Bool
  held = side_holds ptr idx masks

  abbrev lo : ℕ → ℕ
  lo r = get_or ptr r 0

  ok : IsRows nrows ptr idx masks
  ok = m.shape

  pub own : (r : ℕ) → r < nrows → Row (held r) idx masks (get_or ptr r 0) (get_or ptr (r + 1) 0)
  own r h =
      let u : get_or ptr (r + 1) 0 ≤ length masks = end-le nrows ptr idx masks ok (r + 1) (omega arith) in
      own_row idx masks (get_or ptr r 0) (get_or ptr (r + 1) 0) (ok.rises r h) (end-in nrows ptr idx masks ok (r + 1) (omega arith)) u (m.rising r h)
      (λ k a b. m.used k (omega arith)) (λ k a b. m.fits k (omega arith))

  -- no pair is past the columns
  pub held-col : (r c : ℕ) → r < nrows → T (held r c) → c < ncols
  held-col r c h t =
      let u : get_or ptr (r + 1) 0 ≤ length masks = end-le nrows ptr idx masks ok (r + 1) (omega arith) in
      row_inside idx masks (get_or ptr r 0) (get_or ptr (r + 1) 0) (ok.rises r h) (end-in nrows ptr idx masks ok (r + 1) (omega arith)) u (m.rising r h) ncols (λ k a b. m.inside k (omega arith)) c t

  -- its three lists and its pair count are those of the side of its own pairs
  pub own-words : idx ≡ side_words nrows ncols held
  own-words =
      sym (take-length idx) ∙ ap (λ (k : ℕ). take k idx) (ok.as_many ∙ sym ok.ends)
      ∙ words-to ncols held idx masks lo nrows ok.starts ok.rises (end-in nrows ptr idx masks ok) (end-le nrows ptr idx masks ok) own held-col nrows (le_refl nrows)

  pub own-masks : masks ≡ side_masks nrows ncols held
  own-masks =
      sym (take-length masks) ∙ ap (λ (k : ℕ). take k masks) (sym ok.ends)
      ∙ masks-to ncols held idx masks lo nrows ok.starts ok.rises (end-in nrows ptr idx masks ok) (end-le nrows ptr idx masks ok) own held-col nrows (le_refl nrows)

  pub own-end : (r : ℕ) → r ≤ nrows → get_or ptr r 0 ≡ length (side_words r ncols held)
  own-end = ends-are ncols held idx masks lo nrows ok.starts ok.rises (end-in nrows ptr idx masks ok) (end-le nrows ptr idx masks ok) own held-col

  pub own-ptr : ptr ≡ side_ptr nrows ncols held
  own-ptr =
      ext_get_or 0 ptr (side_ptr nrows ncols held) (ok.rows ∙ sym (length-list_from (λ r. length (side_words r ncols held)) (nrows + 1) 0))
      (λ i h. own-end i (omega (arith, ok.rows))
      ∙ ap (λ (r : ℕ). length (side_words r ncols held)) (sym (zero-add i)) ∙ sym (get_or-list_from (λ r. length (side_words r ncols held)) (nrows + 1) 0 i 0 (omega (arith, ok.rows))))

  pub own-pairs : bits_in masks 0 (length masks) ≡ pair_count nrows ncols held
  own-pairs =
      ap (bits_in masks 0) (sym ok.ends)
      ∙ count-to ncols held idx masks lo nrows ok.starts ok.rises (end-in nrows ptr idx masks ok) (end-le nrows ptr idx masks ok) own held-col nrows (le_refl nrows)

-- turned round there are as many pairs
pub pairs-flip : (nrows ncols : ℕ) (s : ℕ → ℕ → Bool) → pair_count ncols nrows (flip s) ≡ pair_count nrows ncols s
pairs-flip nrows ncols s = sym (sum-swap nrows ncols (λ r c. one_if (s r c)))

-- ---- the side of a set of pairs

module _ (nrows ncols : ℕ) (s : ℕ → ℕ → Bool) (small : (r c : ℕ) → r < nrows → T (s r c) → c < ncols) where
  abbrev F : ℕ → List ℕ
  F r = words_of_row ncols (s r)

  abbrev G : ℕ → List ℕ
  G r = masks_of_row ncols (s r)

  pub ptr-at : (r : ℕ) → r ≤ nrows → get_or (side_ptr nrows ncols s) r 0 ≡ length (side_words r ncols s)
  ptr-at r h = get_or-list_from (λ r. length (side_words r ncols s)) (nrows + 1) 0 r 0 (omega arith) ∙ ap (λ (k : ℕ). length (side_words k ncols s)) (zero-add r)

  pub as_many : (r : ℕ) → length (side_masks r ncols s) ≡ length (side_words r ncols s)
  unfolding masks_of_row
  as_many r = join-length r G F (λ k l. length-map (words_of_row ncols (s k)) (word_of (s k)))

  row_in : (r : ℕ) → r < nrows → Row (s r) (side_words nrows ncols s) (side_masks nrows ncols s) (length (side_words r ncols s)) (length (side_words (r + 1) ncols s))
  row_in r h =
      words_row (s r) ncols (side_words nrows ncols s) (side_masks nrows ncols s) (length (side_words r ncols s)) (length (side_words (r + 1) ncols s))
      (join_up (r + 1) r F (omega arith)) (join_up nrows (r + 1) F (omega arith)) (λ c t. small r c h t) (join-slice nrows r F h)
      (ap₂ (λ (a b : ℕ). slice a b (side_masks nrows ncols s)) (sym (as_many r)) (sym (as_many (r + 1))) ∙ join-slice nrows r G h)

  in-masks : (r : ℕ) → r ≤ nrows → length (side_words r ncols s) ≤ length (side_masks nrows ncols s)
  in-masks r h = omega (arith, as_many nrows, join_up nrows r F h)

  -- it holds exactly these
  pub side-holds : (r c : ℕ) → r < nrows → side_holds (side_ptr nrows ncols s) (side_words nrows ncols s) (side_masks nrows ncols s) r c ≡ s r c
  side-holds r c h =
      ap₂ (λ (a b : ℕ). row_holds (side_words nrows ncols s) (side_masks nrows ncols s) a b c) (ptr-at r (omega arith)) (ptr-at (r + 1) (omega arith))
      ∙ row-holds (side_words nrows ncols s) (side_masks nrows ncols s) (length (side_words r ncols s)) (length (side_words (r + 1) ncols s))
      (join_up (r + 1) r F (omega arith)) (join_up nrows (r + 1) F (omega arith)) (in-masks (r + 1) (omega arith)) (row_in r h).rising (s r) (row_in r h) c

  -- and nothing else, where no row past its own has a pair
  pub side-pairs : ((r c : ℕ) → T (s r c) → r < nrows) → side_holds (side_ptr nrows ncols s) (side_words nrows ncols s) (side_masks nrows ncols s) ≡ s
  side-pairs low = fun_ext (λ r. fun_ext (λ c. at r c (lt-or-le r nrows)))
    where
      at : (r c : ℕ) → (r < nrows) ⊎ (nrows ≤ r) → side_holds (side_ptr nrows ncols s) (side_words nrows ncols s) (side_masks nrows ncols s) r c ≡ s r c
      at r c (inl h) = side-holds r c h
      at r c (inr h) =
          held-past nrows (side_ptr nrows ncols s) (side_words nrows ncols s) (side_masks nrows ncols s) (length-list_from (λ r. length (side_words r ncols s)) (nrows + 1) 0) r c h
          ∙ sym (T_false (s r c) (λ t. omega (arith, low r c t)))

  pub side-count : bits_in (side_masks nrows ncols s) 0 (length (side_masks nrows ncols s)) ≡ pair_count nrows ncols s
  side-count =
      ap (bits_in (side_masks nrows ncols s) 0) (as_many nrows)
      ∙ count-to ncols s (side_words nrows ncols s) (side_masks nrows ncols s) (λ r. length (side_words r ncols s)) nrows (ap length (join-none F)) (λ r h. join_up (r + 1) r F (omega arith))
      (λ r h. join_up nrows r F h) in-masks row_in small nrows (le_refl nrows)

  -- it has no more words than pairs
  pub side-words-le : length (side_words nrows ncols s) ≤ pair_count nrows ncols s
  side-words-le = omega (arith, join-count nrows F, sum-le nrows (λ r. length (F r)) (λ r. count_below ncols (s r)) (λ r h. words-le (s r) ncols (λ c t. small r c h t)))

  -- and is a side
  pub side-is : nrows ≤ side_limit → ncols ≤ side_limit → length (side_words nrows ncols s) ≤ entry_limit → pair_count nrows ncols s ≤ entry_limit
      → IsSide nrows ncols (side_ptr nrows ncols s) (side_words nrows ncols s) (side_masks nrows ncols s)
  unfolding is_word_inside
  side-is hr hc hw hp = record {
    shape = record {
      few_rows = hr;
      few_words = omega (arith, as_many nrows);
      rows = length-list_from (λ r. length (side_words r ncols s)) (nrows + 1) 0;
      as_many = sym (as_many nrows);
      starts = ptr-at 0 (omega arith) ∙ ap length (join-none F);
      ends = ptr-at nrows (le_refl nrows) ∙ sym (as_many nrows);
      rises = λ r h. omega (arith, ptr-at r (omega arith), ptr-at (r + 1) (omega arith), join_up (r + 1) r F (omega arith));
    };
    few_cols = hc;
    few_pairs = omega (arith, side-count);
    rising = λ r h. λ j k a b d. (row_in r h).rising j k (omega (arith, ptr-at r (omega arith))) b (omega (arith, ptr-at (r + 1) (omega arith)));
    used = λ k h. let w = row_of k (omega (arith, as_many nrows)) in (row_in w.0 w.1).used k w.2 w.3;
    fits = λ k h. let w = row_of k (omega (arith, as_many nrows)) in subst (λ (v : ℕ). v < 2 ^ 64) (sym ((row_in w.0 w.1).mask k w.2 w.3)) (word_lt (s w.0) 64 (64 * get_or (side_words nrows ncols s) k 0));
    inside = λ k h. let w = row_of k (omega (arith, as_many nrows)) in fit k w.0 w.1 ((row_in w.0 w.1).mask k w.2 w.3);
  }
    where
      -- every word is in a row
      row_of : (k : ℕ) → k < length (side_words nrows ncols s) → (r : ℕ) × (r < nrows) × (length (side_words r ncols s) ≤ k) × (k < length (side_words (r + 1) ncols s))
      row_of k h = step_of (λ r. length (side_words r ncols s)) nrows k (ap length (join-none F)) h

      fit : (k r : ℕ) → r < nrows → get_or (side_masks nrows ncols s) k 0 ≡ word_of (s r) (get_or (side_words nrows ncols s) k 0) → is_word_inside ncols (get_or (side_words nrows ncols s) k 0) (get_or (side_masks nrows ncols s) k 0) ≡ true
      fit k r h e = T_true _ (every-i 64 (λ b. ltb (64 * w + b) ncols || not (bit_at (get_or (side_masks nrows ncols s) k 0) b)) (λ b l. bit b l (decide (bit_at (get_or (side_masks nrows ncols s) k 0) b))))
        where
          w : ℕ
          w = get_or (side_words nrows ncols s) k 0

          bit : (b : ℕ) → b < 64 → T (bit_at (get_or (side_masks nrows ncols s) k 0) b) ⊎ (T (bit_at (get_or (side_masks nrows ncols s) k 0) b) → ⊥) → T (ltb (64 * w + b) ncols || not (bit_at (get_or (side_masks nrows ncols s) k 0) b))
          bit b l (inl t) = or_l (ltb (64 * w + b) ncols) _ (lt→ltb _ _ (small r (64 * w + b) h (subst (λ (x : Bool). T x) (ap (λ (x : ℕ). bit_at x b) e ∙ bit_word (s r) 64 (64 * w) b l) t)))
          bit b l (inr f) = or_r (ltb (64 * w + b) ncols) _ (not_T (bit_at (get_or (side_masks nrows ncols s) k 0) b) f)
