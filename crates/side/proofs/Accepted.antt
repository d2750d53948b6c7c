-- What the check of a side accepts: exactly the sides. Assumes nothing.
use mathlib.Core.Path.{◌≡◌, refl, sym, ap, ◌∙◌, subst}
use Rattle.std.specs.Prelude.{Result, Ok, Err, IfOk, Some, None as Nothing}
use mathlib.Core.Logic.{◌⊎◌, inl, inr}
use mathlib.Core.Bool.{Bool, true, false, not, cond, ◌&&◌, ◌||◌}
use mathlib.Core.List.{List}
use Prim.Native.Nat.{ℕ, zero, suc, ◌+◌, ◌-◌, ◌^◌, ◌≤◌, ◌<◌}
use native.Mathlib.Omega.{arith}
use native.Mathlib.Nat.{le_refl}
use borrow.Author.Tests.{leb-true, eqb-true, ltb-false, le-leb, lt-ltb, le-ltb, eq-eqb, ne_eqb, ltb-true}
use lib.Dec.{T, leb, eqb, ltb, lt→ltb, ltb→lt}
use lib.ListN.{length, get_or, take, drop}
use lib.Seq.{slice, length-slice}
use Rattle.base.specs.Checks.{must, ◌then◌, side_limit, entry_limit}
use Rattle.base.specs.Lists.{rising}
use Rattle.base.specs.Sets.{first_below}
use Rattle.base.proofs.Bools.{and_left, and_right, and_i, T_of, T_true, or-e, or_l, or_r, eq-or-ne, lt-or-le, T-not-zero, not-zero-T}
use Rattle.base.proofs.Checks.{passed, both-passed, refused-not-accepted}
use Rattle.base.proofs.Lists.{part_slice, get_or-slice, pairwise-at, pairwise-i, rise-to, step_of}
use Rattle.base.proofs.Sets.{None, First, first-at, first-is, first-none}
use Rattle.side.specs.Check.{limit_check, fault_refusal, fault_check, side_room, bits_in, lists_agree, is_word_inside, good_word, bad_word, row_at, bad_at, words_fault, side_fault, side_check, Rising, IsRows, IsSide}
use Rattle.side.specs.declared.Fault.{Fault}
use Rattle.side.proofs.Words.{bad-some, bad-none}

-- ---- faults

-- only a side without fault is accepted
pub sound-only : (f : Result Unit Fault) → fault_check f ≡ Ok tt → f ≡ Ok tt
unfolding fault_check
sound-only (Ok tt) e = refl
sound-only (Err f) e = absurd (refused-not-accepted (fault_refusal f) e)

-- so what is known where there is none
pub if-sound : {P : Type 0} (r : Result Unit Fault) → (r ≡ Ok tt → P) → IfOk r (λ t. P)
if-sound (Ok tt) h = h refl
if-sound (Err f) h = tt

pub sound-accepted : (f : Result Unit Fault) → f ≡ Ok tt → fault_check f ≡ Ok tt
unfolding fault_check
sound-accepted f e = ap fault_check e

pub fault-not-sound : (f : Fault) → ◌≡◌ {A = Result Unit Fault} (Err f) (Ok tt) → ⊥
fault-not-sound f e = cc

-- ---- the parts of an accepted chain

module _ (nrows ncols : ℕ) (idx masks : List ℕ) (pairs : ℕ) where
  pub record Within : Type 0 where
    pub few_rows : nrows ≤ side_limit
    pub few_cols : ncols ≤ side_limit
    pub few_indices : length idx ≤ entry_limit
    pub few_words : length masks ≤ entry_limit
    pub few_pairs : pairs ≤ entry_limit

  pub limits_passed : limit_check nrows ncols idx masks pairs ≡ Ok tt → Within
  unfolding limit_check
  limits_passed e =
      let e1 = both-passed _ _ e in
      let e2 = both-passed _ _ e1.1 in
      let e3 = both-passed _ _ e2.1 in
      let e4 = both-passed _ _ e3.1 in
      record {
        few_rows = leb-true _ _ (passed _ _ e1.0);
        few_cols = leb-true _ _ (passed _ _ e2.0);
        few_indices = leb-true _ _ (passed _ _ e3.0);
        few_words = leb-true _ _ (passed _ _ e4.0);
        few_pairs = leb-true _ _ (passed _ _ e4.1);
      }

  pub limits_pass : Within → limit_check nrows ncols idx masks pairs ≡ Ok tt
  unfolding limit_check must ◌then◌
  limits_pass w =
      rw (le-leb _ _ w.few_rows, le-leb _ _ w.few_cols, le-leb _ _ w.few_indices, le-leb _ _ w.few_words, le-leb _ _ w.few_pairs) refl

-- lists that are long enough
pub room-passed : (rows words pointers indices masks : ℕ) → side_room rows words pointers indices masks ≡ Ok tt → (rows < pointers) × (words ≤ indices) × (words ≤ masks)
unfolding side_room
room-passed rows words pointers indices masks e =
    let e1 = both-passed _ _ e in
    let e2 = both-passed _ _ e1.1 in
    (ltb-true _ _ (passed _ _ e1.0), leb-true _ _ (passed _ _ e2.0), leb-true _ _ (passed _ _ e2.1))

module _ (nrows : ℕ) (ptr idx masks : List ℕ) (pairs : ℕ) where
  -- the six conditions, one after the other
  abbrev two : Bool
  two = eqb (length ptr) (nrows + 1) && eqb (length idx) (length masks)

  abbrev three : Bool
  three = two && eqb (get_or ptr 0 0) 0

  abbrev four : Bool
  four = three && eqb (get_or ptr nrows 0) (length masks)

  abbrev five : Bool
  five = four && rising ptr

  abbrev last : Bool
  last = eqb (bits_in masks 0 (length masks)) pairs

  pub agree-rows : lists_agree nrows ptr idx masks pairs ≡ true → nrows ≤ side_limit → length masks ≤ entry_limit → IsRows nrows ptr idx masks
  unfolding lists_agree
  agree-rows e hr hw =
      let e5 : five ≡ true = and_left five last e in
      let e4 : four ≡ true = and_left four (rising ptr) e5 in
      let e3 : three ≡ true = and_left three (eqb (get_or ptr nrows 0) (length masks)) e4 in
      let e2 : two ≡ true = and_left two (eqb (get_or ptr 0 0) 0) e3 in
      let rows : length ptr ≡ nrows + 1 = eqb-true _ _ (and_left (eqb (length ptr) (nrows + 1)) (eqb (length idx) (length masks)) e2) in
      record {
        few_rows = hr;
        few_words = hw;
        rows = rows;
        as_many = eqb-true _ _ (and_right (eqb (length ptr) (nrows + 1)) (eqb (length idx) (length masks)) e2);
        starts = eqb-true _ _ (and_right two (eqb (get_or ptr 0 0) 0) e3);
        ends = eqb-true _ _ (and_right three (eqb (get_or ptr nrows 0) (length masks)) e4);
        rises = λ r h. leb-true _ _ (pairwise-at leb 0 ptr r (and_right four (rising ptr) e5) (omega arith));
      }

  pub agree-count : lists_agree nrows ptr idx masks pairs ≡ true → bits_in masks 0 (length masks) ≡ pairs
  unfolding lists_agree
  agree-count e = eqb-true _ _ (and_right five last e)

  pub agree : IsRows nrows ptr idx masks → bits_in masks 0 (length masks) ≡ pairs → lists_agree nrows ptr idx masks pairs ≡ true
  unfolding lists_agree
  agree m e =
      rw (eq-eqb _ _ m.rows, eq-eqb _ _ m.as_many, eq-eqb _ _ m.starts, eq-eqb _ _ m.ends, eq-eqb _ _ e, pairwise-i leb 0 ptr (λ i h. le-leb _ _ (m.rises i (omega (arith, m.rows))))) refl

-- ---- words

-- a word of a row whose lists are cut out
pub good-slice : (ncols : ℕ) (idx masks : List ℕ) (lo hi j : ℕ) → lo + j < hi → good_word ncols (slice lo hi idx) (slice lo hi masks) 0 j ≡ good_word ncols idx masks lo (lo + j)
unfolding good_word
good-slice ncols idx masks lo hi j h = rw (w, m) (ap (λ (b : Bool). not (eqb (get_or masks (lo + j) 0) 0) && b && is_word_inside ncols (get_or idx (lo + j) 0) (get_or masks (lo + j) 0)) (order (eq-or-ne j 0)))
  where
    w : get_or (slice lo hi idx) j 0 ≡ get_or idx (lo + j) 0
    w = get_or-slice lo hi idx j h

    m : get_or (slice lo hi masks) j 0 ≡ get_or masks (lo + j) 0
    m = get_or-slice lo hi masks j h

    order : (j ≡ 0) ⊎ (j ≡ 0 → ⊥) → (eqb j 0 || ltb (get_or (slice lo hi idx) (j - 1) 0) (get_or idx (lo + j) 0)) ≡ (eqb (lo + j) lo || ltb (get_or idx (lo + j - 1) 0) (get_or idx (lo + j) 0))
    order (inl e) = rw (eq-eqb j 0 e, eq-eqb (lo + j) lo (omega (arith, e))) refl
    order (inr n) =
        rw (ne_eqb j 0 n, ne_eqb (lo + j) lo (λ q. n (omega (arith, q))))
        (ap (λ (x : ℕ). ltb x (get_or idx (lo + j) 0)) (get_or-slice lo hi idx (j - 1) (omega arith) ∙ ap (λ (i : ℕ). get_or idx i 0) (omega arith)))

module _ (nrows ncols : ℕ) (ptr idx masks : List ℕ) (m : IsRows nrows ptr idx masks) where
  -- the row of a word
  pub row_is : (r k : ℕ) → r < nrows → get_or ptr r 0 ≤ k → k < get_or ptr (r + 1) 0 → row_at nrows ptr k ≡ r
  row_is r k h a b =
      first-is nrows (λ r. ltb k (get_or ptr (r + 1) 0)) r h (lt→ltb k (get_or ptr (r + 1) 0) b)
      (λ i l t. absurd (omega (arith, ltb→lt k (get_or ptr (i + 1) 0) t, rise-to ptr nrows m.rises (i + 1) r (omega arith) (omega arith))))

  pub bad-is : (r k : ℕ) → r < nrows → get_or ptr r 0 ≤ k → k < get_or ptr (r + 1) 0 → bad_at nrows ncols ptr idx masks k ≡ not (good_word ncols idx masks (get_or ptr r 0) k)
  bad-is r k h a b = ap (λ (i : ℕ). not (good_word ncols idx masks (get_or ptr i 0) k)) (row_is r k h a b)

  -- every word is in a row
  pub row_of : (k : ℕ) → k < length masks → (r : ℕ) × (r < nrows) × (get_or ptr r 0 ≤ k) × (k < get_or ptr (r + 1) 0)
  row_of k h = step_of (λ r. get_or ptr r 0) nrows k m.starts (omega (arith, m.ends))

  -- the answer where nothing is bad, and where k is the first bad word
  pub words-sound : None (bad_at nrows ncols ptr idx masks) (length masks) → Ok tt ≡ words_fault nrows ncols ptr idx masks
  unfolding words_fault
  words-sound none =
      let e : first_below (length masks) (bad_at nrows ncols ptr idx masks) ≡ length masks = first-none (length masks) (bad_at nrows ncols ptr idx masks) none in
      sym
      (ap (λ (b : Bool). cond b (Err (Fault.Word (record { row = row_at nrows ptr (first_below (length masks) (bad_at nrows ncols ptr idx masks)); position = first_below (length masks) (bad_at nrows ncols ptr idx masks) }))) (Ok tt))
      (le-ltb _ (length masks) (omega arith)))

  pub words-bad : (r k : ℕ) → r < nrows → get_or ptr r 0 ≤ k → k < get_or ptr (r + 1) 0 → get_or ptr (r + 1) 0 ≤ length masks → T (bad_at nrows ncols ptr idx masks k)
      → None (bad_at nrows ncols ptr idx masks) k → Err (Fault.Word (record { row = r; position = k })) ≡ words_fault nrows ncols ptr idx masks
  unfolding words_fault
  words-bad r k h a b u t none =
      let e : first_below (length masks) (bad_at nrows ncols ptr idx masks) ≡ k = first-is (length masks) (bad_at nrows ncols ptr idx masks) k (omega arith) t none in
      sym
      (ap (λ (b : Bool). cond b (Err (Fault.Word (record { row = row_at nrows ptr (first_below (length masks) (bad_at nrows ncols ptr idx masks)); position = first_below (length masks) (bad_at nrows ncols ptr idx masks) }))) (Ok tt))
      (lt-ltb _ (length masks) (omega arith))
      ∙ ap (λ (i : ℕ). Err (Fault.Word (record { row = row_at nrows ptr i; position = i }))) e
      ∙ ap (λ (i : ℕ). Err (Fault.Word (record { row = i; position = k }))) (row_is r k h a b))

  -- row r by its own lists, where the rows before it have no bad word
  module _ (r : ℕ) (h : r < nrows) (none : None (bad_at nrows ncols ptr idx masks) (get_or ptr r 0)) where
    abbrev lo : ℕ
    lo = get_or ptr r 0

    abbrev hi : ℕ
    hi = get_or ptr (r + 1) 0

    abbrev bad : ℕ → Bool
    bad j = not (good_word ncols (slice lo hi idx) (slice lo hi masks) 0 j)

    same : (j : ℕ) → j < hi - lo → bad_at nrows ncols ptr idx masks (lo + j) ≡ bad j
    same j l = bad-is r (lo + j) h (omega arith) (omega arith) ∙ ap not (sym (good-slice ncols idx masks lo hi j (omega arith)))

    none-to : (n : ℕ) → n ≤ hi - lo → None bad n → None (bad_at nrows ncols ptr idx masks) (lo + n)
    none-to n u v i l t = go (lt-or-le i lo)
      where
        go : (i < lo) ⊎ (lo ≤ i) → ⊥
        go (inl a) = none i a t
        go (inr a) =
            let s : i ≡ lo + (i - lo) = omega arith in
            v (i - lo) (omega arith) (subst (λ (x : Bool). T x) (ap (bad_at nrows ncols ptr idx masks) s ∙ same (i - lo) (omega arith)) t)

    -- what its first bad word says of the whole
    pub row-some : hi ≤ length masks → (k : ℕ) → bad_word ncols (take (hi - lo) (drop lo idx)) (take (hi - lo) (drop lo masks)) ≡ Some k
        → (k < hi - lo) × T (bad_at nrows ncols ptr idx masks (lo + k)) × None (bad_at nrows ncols ptr idx masks) (lo + k)
    row-some u k e =
        let q = bad-some ncols (slice lo hi idx) (slice lo hi masks) k (rw (part_slice lo hi idx, part_slice lo hi masks) at e) in
        let l : k < hi - lo = omega (arith, q.0, length-slice lo hi masks u) in
        (l, subst (λ (x : Bool). T x) (sym (same k l)) q.1, none-to k (omega arith) q.2)

    pub row-none : hi ≤ length masks → bad_word ncols (take (hi - lo) (drop lo idx)) (take (hi - lo) (drop lo masks)) ≡ Nothing → None (bad_at nrows ncols ptr idx masks) hi
    row-none u e =
        let q = bad-none ncols (slice lo hi idx) (slice lo hi masks) (rw (part_slice lo hi idx, part_slice lo hi masks) at e) in
        let s : lo + (hi - lo) ≡ hi = omega (arith, m.rises r h) in
        subst (λ (n : ℕ). None (bad_at nrows ncols ptr idx masks) n) s (none-to (hi - lo) (omega arith) (rw (length-slice lo hi masks u) at q))

  -- without a fault no word is bad
  pub none-bad : words_fault nrows ncols ptr idx masks ≡ Ok tt → None (bad_at nrows ncols ptr idx masks) (length masks)
  unfolding words_fault
  none-bad e = go (ltb (first_below (length masks) (bad_at nrows ncols ptr idx masks)) (length masks)) refl e
    where
      k : ℕ
      k = first_below (length masks) (bad_at nrows ncols ptr idx masks)

      go : (b : Bool) → ltb k (length masks) ≡ b → ◌≡◌ {A = Result Unit Fault} (cond b (Err (Fault.Word (record { row = row_at nrows ptr k; position = k }))) (Ok tt)) (Ok tt) → None (bad_at nrows ncols ptr idx masks) (length masks)
      go true t e = absurd (fault-not-sound (Fault.Word (record { row = row_at nrows ptr k; position = k })) e)
      go false t e =
          let f : First (length masks) (bad_at nrows ncols ptr idx masks) k = first-at (length masks) (bad_at nrows ncols ptr idx masks) in
          λ i l x. f.before i (omega (arith, ltb-false k (length masks) t)) x

-- what a good word has
module _ (ncols : ℕ) (idx masks : List ℕ) (from k : ℕ) where
  abbrev some : Bool
  some = not (eqb (get_or masks k 0) 0)

  abbrev above : Bool
  above = eqb k from || ltb (get_or idx (k - 1) 0) (get_or idx k 0)

  abbrev within : Bool
  within = is_word_inside ncols (get_or idx k 0) (get_or masks k 0)

  pub good-used : good_word ncols idx masks from k ≡ true → 0 < get_or masks k 0
  unfolding good_word
  good-used e = not-zero-T (get_or masks k 0) (T_of some (and_left some above (and_left (some && above) within e)))

  pub good-inside : good_word ncols idx masks from k ≡ true → is_word_inside ncols (get_or idx k 0) (get_or masks k 0) ≡ true
  unfolding good_word
  good-inside e = and_right (some && above) within e

  pub good-rises : good_word ncols idx masks from k ≡ true → from < k → get_or idx (k - 1) 0 < get_or idx k 0
  unfolding good_word
  good-rises e h = go (or-e (eqb k from) (ltb (get_or idx (k - 1) 0) (get_or idx k 0)) (T_of above (and_right some above (and_left (some && above) within e))))
    where
      go : T (eqb k from) ⊎ T (ltb (get_or idx (k - 1) 0) (get_or idx k 0)) → get_or idx (k - 1) 0 < get_or idx k 0
      go (inl t) = absurd (omega (arith, eqb-true k from (T_true (eqb k from) t)))
      go (inr t) = ltb→lt (get_or idx (k - 1) 0) (get_or idx k 0) t

  pub good-word : 0 < get_or masks k 0 → (from ≤ k) → (from < k → get_or idx (k - 1) 0 < get_or idx k 0) → is_word_inside ncols (get_or idx k 0) (get_or masks k 0) ≡ true → good_word ncols idx masks from k ≡ true
  unfolding good_word
  good-word u h r i =
      T_true (some && above && within) (and_i (some && above) within (and_i some above (T-not-zero (get_or masks k 0) u) (order (eq-or-ne k from))) (T_of within i))
    where
      order : (k ≡ from) ⊎ (k ≡ from → ⊥) → T (eqb k from || ltb (get_or idx (k - 1) 0) (get_or idx k 0))
      order (inl e) = or_l (eqb k from) (ltb (get_or idx (k - 1) 0) (get_or idx k 0)) (T_of (eqb k from) (eq-eqb k from e))
      order (inr n) = or_r (eqb k from) (ltb (get_or idx (k - 1) 0) (get_or idx k 0)) (lt→ltb (get_or idx (k - 1) 0) (get_or idx k 0) (r (omega arith)))

-- neighbours that rise make a rising row
pub rises-all : (idx : List ℕ) (from to : ℕ) → ((k : ℕ) → from < k → k < to → get_or idx (k - 1) 0 < get_or idx k 0) → Rising idx from to
rises-all idx from to h j k a b d = go (k - j) k (omega arith) b d
  where
    go : (n k : ℕ) → j + n ≡ k → j < k → k < to → get_or idx j 0 < get_or idx k 0
    go zero k e b d = absurd (omega arith)
    go (suc zero) k e b d = let s : k - 1 ≡ j = omega arith in subst (λ (x : ℕ). get_or idx x 0 < get_or idx k 0) s (h k (omega arith) d)
    go (suc (suc n)) k e b d = omega (arith, go (suc n) (k - 1) (omega arith) (omega arith) (omega arith), h k (omega arith) d)

-- ---- the whole check

module _ (nrows ncols : ℕ) (ptr idx masks : List ℕ) (pairs : ℕ) where
  fault-parts : side_fault nrows ncols ptr idx masks pairs ≡ Ok tt → (lists_agree nrows ptr idx masks pairs ≡ true) × (words_fault nrows ncols ptr idx masks ≡ Ok tt)
  unfolding side_fault
  fault-parts e = go (lists_agree nrows ptr idx masks pairs) refl e
    where
      go : (b : Bool) → lists_agree nrows ptr idx masks pairs ≡ b → cond b (words_fault nrows ncols ptr idx masks) (Err Fault.Lists) ≡ Ok tt → (lists_agree nrows ptr idx masks pairs ≡ true) × (words_fault nrows ncols ptr idx masks ≡ Ok tt)
      go true t e = (t, e)
      go false t e = absurd (fault-not-sound Fault.Lists e)

  -- a side within the limits and without fault
  pub sound-side : nrows ≤ side_limit → ncols ≤ side_limit → length masks ≤ entry_limit → pairs ≤ entry_limit → ((k : ℕ) → get_or masks k 0 < 2 ^ 64) → side_fault nrows ncols ptr idx masks pairs ≡ Ok tt → IsSide nrows ncols ptr idx masks × (pairs ≡ bits_in masks 0 (length masks))
  sound-side few_rows few_cols few_words few_pairs fits e = (
    record {
      shape = m;
      few_cols = few_cols;
      few_pairs = omega (arith, count, few_pairs);
      rising = λ r h. rises-all idx (get_or ptr r 0) (get_or ptr (r + 1) 0) (λ k a b. good-rises ncols idx masks (get_or ptr r 0) k (good r k h (omega arith) b) a);
      used = λ k h. let q = row_of nrows ncols ptr idx masks m k h in good-used ncols idx masks (get_or ptr q.0 0) k (good q.0 k q.1 q.2 q.3);
      fits = λ k h. fits k;
      inside = λ k h. let q = row_of nrows ncols ptr idx masks m k h in good-inside ncols idx masks (get_or ptr q.0 0) k (good q.0 k q.1 q.2 q.3);
    },
    sym count,
  )
    where
      parts : (lists_agree nrows ptr idx masks pairs ≡ true) × (words_fault nrows ncols ptr idx masks ≡ Ok tt)
      parts = fault-parts e

      m : IsRows nrows ptr idx masks
      m = agree-rows nrows ptr idx masks pairs parts.0 few_rows few_words

      count : bits_in masks 0 (length masks) ≡ pairs
      count = agree-count nrows ptr idx masks pairs parts.0

      good : (r k : ℕ) → r < nrows → get_or ptr r 0 ≤ k → k < get_or ptr (r + 1) 0 → good_word ncols idx masks (get_or ptr r 0) k ≡ true
      good r k h a b = yes (good_word ncols idx masks (get_or ptr r 0) k) (λ t. none-bad nrows ncols ptr idx masks m parts.1 k in_list (subst (λ (x : Bool). T x) (sym (bad-is nrows ncols ptr idx masks m r k h a b)) t))
        where
          in_list : k < length masks
          in_list = omega (arith, rise-to ptr nrows m.rises (r + 1) nrows (omega arith) (le_refl nrows), m.ends)

          yes : (b : Bool) → (T (not b) → ⊥) → b ≡ true
          yes true f = refl
          yes false f = absurd (f tt)

  -- and conversely
  pub side-sound : IsSide nrows ncols ptr idx masks → pairs ≡ bits_in masks 0 (length masks) → side_fault nrows ncols ptr idx masks pairs ≡ Ok tt
  unfolding side_fault
  side-sound m e =
      ap (λ (b : Bool). cond b (words_fault nrows ncols ptr idx masks) (Err Fault.Lists)) (agree nrows ptr idx masks pairs m.shape (sym e))
      ∙ sym (words-sound nrows ncols ptr idx masks m.shape none)
    where
      none : None (bad_at nrows ncols ptr idx masks) (length masks)
      none k h t =
          let q = row_of nrows ncols ptr idx masks m.shape k h in
          let g : good_word ncols idx masks (get_or ptr q.0 0) k ≡ true =
          good-word ncols idx masks (get_or ptr q.0 0) k (m.used k h) q.2 (λ l. m.rising q.0 q.1 (k - 1) k (omega arith) (omega arith) q.3) (m.inside k h) in
          subst (λ (x : Bool). T x) (bad-is nrows ncols ptr idx masks m.shape q.0 k q.1 q.2 q.3 ∙ ap not g) t

  -- the check accepts exactly the sides
  pub accepted-side : ((k : ℕ) → get_or masks k 0 < 2 ^ 64) → side_check nrows ncols ptr idx masks pairs ≡ Ok tt → IsSide nrows ncols ptr idx masks × (pairs ≡ bits_in masks 0 (length masks))
  unfolding side_check
  accepted-side fits e =
      let q = both-passed _ _ e in
      let w = limits_passed nrows ncols idx masks pairs q.0 in
      sound-side w.few_rows w.few_cols w.few_words w.few_pairs fits (sound-only _ q.1)

  pub side-accepted : IsSide nrows ncols ptr idx masks → pairs ≡ bits_in masks 0 (length masks) → side_check nrows ncols ptr idx masks pairs ≡ Ok tt
  unfolding side_check ◌then◌
  side-accepted m e =
      rw (limits_pass nrows ncols idx masks pairs (record {
        few_rows = m.shape.few_rows;
        few_cols = m.few_cols;
        few_indices = omega (arith, m.shape.as_many, m.shape.few_words);
        few_words = m.shape.few_words;
        few_pairs = omega (arith, m.few_pairs);
      })) (sound-accepted (side_fault nrows ncols ptr idx masks pairs) (side-sound m e))

-- a side under sizes that are equal to its own
pub side-as : (nrows ncols nrows' ncols' : ℕ) (ptr idx masks : List ℕ) → nrows ≡ nrows' → ncols ≡ ncols' → IsSide nrows ncols ptr idx masks → IsSide nrows' ncols' ptr idx masks
side-as nrows ncols nrows' ncols' ptr idx masks a b m = subst (λ (n : ℕ). IsSide n ncols' ptr idx masks) a (subst (λ (n : ℕ). IsSide nrows n ptr idx masks) b m)
