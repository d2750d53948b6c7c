-- One row of an accepted side. Assumes nothing.
use mathlib.Core.Path.{◌≡◌, refl, sym, ap, ap₂, ◌∙◌, subst}
use Rattle.std.specs.Prelude.{Option, Some, None}
use mathlib.Core.Logic.{◌⊎◌, inl, inr}
use mathlib.Core.Bool.{Bool, cond, ◌&&◌}
use mathlib.Core.List.{List}
use Prim.Native.Nat.{ℕ, ◌+◌, ◌-◌, ◌/◌, ◌%◌, ◌^◌, ◌≤◌, ◌<◌}
use native.Mathlib.Nat.{le_refl}
use native.Mathlib.Omega.{arith}
use borrow.Author.Tests.{lt-ltb, le-ltb}
use lib.Dec.{T, ltb}
use lib.ListN.{length, get_or, take, drop}
use lib.Seq.{slice, take_all, length-slice}
use Rattle.base.specs.Checks.{entry_limit}
use Rattle.base.specs.Sets.{count_below}
use Rattle.base.proofs.Bools.{T_false, lt-or-le}
use Rattle.base.proofs.Lists.{part_slice, get_or-slice}
use Rattle.word.specs.Bits.{bit_at}
use Rattle.word.specs.declared.AbtmTopologyWord.{AbtmTopologyWord}
use Rattle.side.specs.Side.{words_of_row, masks_of_row, mask_for, row_holds, side_holds, word_at}
use Rattle.side.specs.Check.{bits_in, is_word_inside, IsSide}
use Rattle.side.specs.Row.{Row, IsWords}
use Rattle.side.proofs.Holding.{own_row, row_inside}
use Rattle.side.proofs.Rows.{row_words, row_masks, row_count}
use Rattle.side.proofs.Sides.{end-le, end-in, own, held-col}

-- a list from its front to its end
slice_whole : {n : ℕ} (l : List ℕ) → length l ≡ n → slice 0 n l ≡ l
slice_whole l e = take_all _ l (omega (arith, e))

module _ (nrows ncols : ℕ) (ptr idx masks : List ℕ) (m : IsSide nrows ncols ptr idx masks) (r : ℕ) (h : r < nrows) where
  abbrev lo : ℕ
  lo = get_or ptr r 0

  abbrev hi : ℕ
  hi = get_or ptr (r + 1) 0

  abbrev set : ℕ → Bool
  set = side_holds ptr idx masks r

  pub at_up : lo ≤ hi
  at_up = m.shape.rises r h

  pub at_words : hi ≤ length idx
  at_words = end-in nrows ptr idx masks m.shape (r + 1) (omega arith)

  pub at-masks : hi ≤ length masks
  at-masks = end-le nrows ptr idx masks m.shape (r + 1) (omega arith)

  pub at-few : hi - lo ≤ entry_limit
  at-few = omega (arith, at-masks, m.shape.few_words)

  words_are : slice lo hi idx ≡ words_of_row ncols set
  words_are = row_words set ncols idx masks lo hi (own nrows ncols ptr idx masks m r h) at_up at_words at-masks (λ c t. held-col nrows ncols ptr idx masks m r c h t)

  pub at_length : hi - lo ≡ length (words_of_row ncols set)
  at_length = sym (length-slice lo hi idx at_words) ∙ ap length words_are

  pub at_count : bits_in masks lo hi ≡ count_below ncols set
  at_count = row_count set ncols idx masks lo hi (own nrows ncols ptr idx masks m r h) at_up at_words at-masks (λ c t. held-col nrows ncols ptr idx masks m r c h t)

  -- its words as lists of their own
  own-few : length (slice lo hi masks) ≤ entry_limit
  own-few = omega (arith, length-slice lo hi masks at-masks, at-few)

  at-own : (k : ℕ) → k < length (slice lo hi masks) → lo + k < hi
  at-own k l = omega (arith, length-slice lo hi masks at-masks)

  own-idx : (k : ℕ) → k < length (slice lo hi masks) → get_or (slice lo hi idx) k 0 ≡ get_or idx (lo + k) 0
  own-idx k l = get_or-slice lo hi idx k (at-own k l)

  own-mask : (k : ℕ) → k < length (slice lo hi masks) → get_or (slice lo hi masks) k 0 ≡ get_or masks (lo + k) 0
  own-mask k l = get_or-slice lo hi masks k (at-own k l)

  cut-words : IsWords ncols (slice lo hi idx) (slice lo hi masks)
  cut-words = record {
    few_cols = m.few_cols;
    few_words = own-few;
    as_many = length-slice lo hi idx at_words ∙ sym (length-slice lo hi masks at-masks);
    row = record {
      rising = λ j k a b d. omega (arith, own-idx j (omega arith), own-idx k d, m.rising r h (lo + j) (lo + k) (omega arith) (omega arith) (at-own k d));
      used = λ k a b. omega (arith, own-mask k b, m.used (lo + k) (omega (arith, at-own k b, at-masks)));
    };
    fits = λ k b. subst (λ (x : ℕ). x < 2 ^ 64) (sym (own-mask k b)) (m.fits (lo + k) (omega (arith, at-own k b, at-masks)));
    inside = λ k a b.
        ap₂ (λ (x y : ℕ). is_word_inside ncols x y) (own-idx k b) (own-mask k b)
        ∙ m.inside (lo + k) (omega (arith, at-own k b, at-masks));
  }

  pub own-length : length (take (hi - lo) (drop lo masks)) ≡ hi - lo
  own-length = ap length (part_slice lo hi masks) ∙ length-slice lo hi masks at-masks

  pub own-words : IsWords ncols (take (hi - lo) (drop lo idx)) (take (hi - lo) (drop lo masks))
  own-words = rw (part_slice lo hi idx, part_slice lo hi masks) cut-words

  columns-of : List ℕ → List ℕ → ℕ → Bool
  columns-of x y c = bit_at (mask_for (c / 64) x y) (c % 64)

  cut-held : row_holds (slice lo hi idx) (slice lo hi masks) 0 (length (slice lo hi masks)) ≡ set
  unfolding row_holds columns-of
  cut-held = ap₂ {C = ℕ → Bool} columns-of (slice_whole (slice lo hi idx) (cut-words.as_many)) (slice_whole (slice lo hi masks) refl)

  pub own-held : row_holds (take (hi - lo) (drop lo idx)) (take (hi - lo) (drop lo masks)) 0 (length (take (hi - lo) (drop lo masks))) ≡ set
  own-held = rw (part_slice lo hi idx, part_slice lo hi masks) cut-held

-- ---- a row by its own words

module _ (ncols : ℕ) (idx masks : List ℕ) (m : IsWords ncols idx masks) where
  abbrev n : ℕ
  n = length masks

  abbrev has : ℕ → Bool
  has = row_holds idx masks 0 n

  pub long : n ≤ length idx
  long = omega (arith, m.as_many)

  pub words-row : Row has idx masks 0 n
  words-row = own_row idx masks 0 n (omega arith) long (le_refl n) m.row.rising m.row.used (λ k a b. m.fits k b)

  pub words-inside : (c : ℕ) → T (has c) → c < ncols
  words-inside = row_inside idx masks 0 n (omega arith) long (le_refl n) m.row.rising ncols m.inside

  pub words-held : (c : ℕ) → (ltb c ncols && has c) ≡ has c
  words-held c = go (lt-or-le c ncols)
    where
      go : (c < ncols) ⊎ (ncols ≤ c) → (ltb c ncols && has c) ≡ has c
      go (inl l) = ap (λ (b : Bool). b && has c) (lt-ltb c ncols l)
      go (inr l) = ap (λ (b : Bool). b && has c) (le-ltb c ncols l) ∙ sym (T_false (has c) (λ t. omega (arith, words-inside c t)))

  words_are-own : idx ≡ words_of_row ncols has
  words_are-own = sym (slice_whole idx m.as_many) ∙ row_words has ncols idx masks 0 n words-row (omega arith) long (le_refl n) words-inside

  masks-are-own : masks ≡ masks_of_row ncols has
  masks-are-own = sym (slice_whole masks refl) ∙ row_masks has ncols idx masks 0 n words-row (omega arith) long (le_refl n) words-inside

  pub words-length : n ≡ length (words_of_row ncols has)
  words-length = sym m.as_many ∙ ap length words_are-own

  pub words-count : bits_in masks 0 n ≡ count_below ncols has
  words-count = row_count has ncols idx masks 0 n words-row (omega arith) long (le_refl n) words-inside

  -- word k, and past the last
  abbrev answer : Bool → ℕ → Option AbtmTopologyWord
  answer b k = cond b (Some (record { word_index = get_or (words_of_row ncols has) k 0; mask = get_or (masks_of_row ncols has) k 0 })) None

  pub word-here : (k : ℕ) → k < n → Some (record { word_index = get_or idx k 0; mask = get_or masks k 0 }) ≡ word_at ncols has k
  unfolding word_at
  word-here k u =
      ap₂ (λ (x y : ℕ). Some (record { word_index = x; mask = y })) (ap (λ (l : List ℕ). get_or l k 0) words_are-own) (ap (λ (l : List ℕ). get_or l k 0) masks-are-own)
      ∙ sym (ap (λ (b : Bool). answer b k) (lt-ltb k (length (words_of_row ncols has)) (omega (arith, words-length))))

  pub word-past : (k : ℕ) → n ≤ k → None ≡ word_at ncols has k
  unfolding word_at
  word-past k u = sym (ap (λ (b : Bool). answer b k) (le-ltb k (length (words_of_row ncols has)) (omega (arith, words-length))))

-- a column
pub in_row : (col ncols : ℕ) (b : Bool) → col < ncols → b ≡ (ltb col ncols && b)
in_row col ncols b h = sym (ap (λ (t : Bool). t && b) (lt-ltb col ncols h))
