-- A row's words and the columns that they hold. Assumes nothing.
use mathlib.Core.Path.{◌≡◌, refl, sym, ap, ◌∙◌, subst, ap₂}
use mathlib.Core.Logic.{◌⊎◌, inl, inr, ◌≢◌}
use mathlib.Core.Bool.{Bool, false, cond, ◌||◌, ◌&&◌}
use mathlib.Core.List.{List, [], ◌∷◌}
use Prim.Native.Nat.{ℕ, zero, suc, ◌+◌, ◌-◌, ◌*◌, ◌/◌, ◌%◌, ◌^◌, ◌≤◌, ◌<◌}
use native.Mathlib.Omega.{arith}
use native.Mathlib.Nat.{not-suc-le-zero, le_refl}
use native.Mathlib.Decide.{ℕ_discrete}
use lib.Dec.{T, eqb}
use lib.ListN.{length, get_or}
use lib.Seq.{slice, length-slice}
use borrow.Author.Tests.{eq-eqb, ne_eqb}
use Rattle.base.proofs.Bools.{bool-ext, eq-or-ne, or-false}
use Rattle.base.proofs.Lists.{get_or-slice}
use Rattle.word.specs.Bits.{bit_at, word_of}
use Rattle.word.proofs.Bits.{zero_bit}
use Rattle.word.proofs.Words.{bit_word, word-of-bits}
use Rattle.side.specs.Side.{mask_for, row_holds}
use Rattle.side.specs.Check.{Rising}
use Rattle.side.specs.Row.{Row, Inside}
use Rattle.side.proofs.Words.{bit_in}

mask_at : (w : ℕ) (xs ms : List ℕ) (i : ℕ) → i < length xs → i < length ms → get_or xs i 0 ≡ w → ((j : ℕ) → j < i → get_or xs j 0 ≢ w) → mask_for w xs ms ≡ get_or ms i 0
unfolding mask_for
mask_at w [] ms i h u e f = absurd (not-suc-le-zero h)
mask_at w (x ∷ xs) [] i h u e f = absurd (not-suc-le-zero u)
mask_at w (x ∷ xs) (m ∷ ms) zero h u e f = ap (λ (t : Bool). cond t m (mask_for w xs ms)) (eq-eqb x w e)
mask_at w (x ∷ xs) (m ∷ ms) (suc i) h u e f =
    ap (λ (t : Bool). cond t m (mask_for w xs ms)) (ne_eqb x w (f 0 (omega arith)))
    ∙ mask_at w xs ms i (omega arith) (omega arith) e (λ j l. f (suc j) (omega arith))

mask-cases : (w : ℕ) (xs ms : List ℕ) → (mask_for w xs ms ≡ 0) ⊎ ((i : ℕ) × (i < length xs) × (get_or xs i 0 ≡ w))
unfolding mask_for
mask-cases w [] ms = inl refl
mask-cases w (x ∷ xs) [] = inl refl
mask-cases w (x ∷ xs) (m ∷ ms) = go (ℕ_discrete x w) (mask-cases w xs ms)
  where
    go : Dec (x ≡ w) → (mask_for w xs ms ≡ 0) ⊎ ((i : ℕ) × (i < length xs) × (get_or xs i 0 ≡ w))
        → (cond (eqb x w) m (mask_for w xs ms) ≡ 0) ⊎ ((i : ℕ) × (i < suc (length xs)) × (get_or (x ∷ xs) i 0 ≡ w))
    go (yes e) r = inr (0, omega arith, e)
    go (no e) (inl z) = inl (ap (λ (t : Bool). cond t m (mask_for w xs ms)) (ne_eqb x w e) ∙ z)
    go (no e) (inr r) = inr (suc r.0, omega arith, r.2)

module _ (idx masks : List ℕ) (from to : ℕ) (h : from ≤ to) (hi : to ≤ length idx) (hm : to ≤ length masks) (ris : Rising idx from to) where
  stored-mask : (k w : ℕ) → from ≤ k → k < to → get_or idx k 0 ≡ w → mask_for w (slice from to idx) (slice from to masks) ≡ get_or masks k 0
  stored-mask k w a b e =
      let s : from + (k - from) ≡ k = omega arith in
      mask_at w (slice from to idx) (slice from to masks) (k - from)
      (omega (arith, length-slice from to idx hi)) (omega (arith, length-slice from to masks hm))
      (get_or-slice from to idx (k - from) (omega arith) ∙ ap (λ (n : ℕ). get_or idx n 0) s ∙ e)
      (λ j l f. omega (arith, ris (from + j) k (omega arith) (omega arith) b, sym (get_or-slice from to idx j (omega arith)) ∙ f))
      ∙ get_or-slice from to masks (k - from) (omega arith) ∙ ap (λ (n : ℕ). get_or masks n 0) s

  no-mask : (w : ℕ) → ((k : ℕ) → from ≤ k → k < to → get_or idx k 0 ≢ w) → mask_for w (slice from to idx) (slice from to masks) ≡ 0
  no-mask w f = go (mask-cases w (slice from to idx) (slice from to masks))
    where
      go : (mask_for w (slice from to idx) (slice from to masks) ≡ 0) ⊎ ((i : ℕ) × (i < length (slice from to idx)) × (get_or (slice from to idx) i 0 ≡ w)) → mask_for w (slice from to idx) (slice from to masks) ≡ 0
      go (inl z) = z
      go (inr r) =
          let b : from + r.0 < to = omega (arith, length-slice from to idx hi) in
          absurd (f (from + r.0) (omega arith) b (sym (get_or-slice from to idx r.0 b) ∙ r.2))

  -- a column whose word stands at k, and one whose word does not stand there
  pub holds_at : (k c : ℕ) → from ≤ k → k < to → get_or idx k 0 ≡ c / 64 → row_holds idx masks from to c ≡ bit_at (get_or masks k 0) (c % 64)
  unfolding row_holds
  holds_at k c a b e = ap (λ (m : ℕ). bit_at m (c % 64)) (stored-mask k (c / 64) a b e)

  pub holds_not : (c : ℕ) → ((k : ℕ) → from ≤ k → k < to → get_or idx k 0 ≢ c / 64) → row_holds idx masks from to c ≡ false
  unfolding row_holds
  holds_not c f = ap (λ (m : ℕ). bit_at m (c % 64)) (no-mask (c / 64) f) ∙ zero_bit (c % 64)

  pub found : (c : ℕ) → T (row_holds idx masks from to c) → (k : ℕ) × (from ≤ k) × (k < to) × (get_or idx k 0 ≡ c / 64)
  unfolding row_holds
  found c t = go (mask-cases (c / 64) (slice from to idx) (slice from to masks))
    where
      go : (mask_for (c / 64) (slice from to idx) (slice from to masks) ≡ 0) ⊎ ((i : ℕ) × (i < length (slice from to idx)) × (get_or (slice from to idx) i 0 ≡ c / 64)) → (k : ℕ) × (from ≤ k) × (k < to) × (get_or idx k 0 ≡ c / 64)
      go (inl z) = absurd (subst (λ (b : Bool). T b) (ap (λ (m : ℕ). bit_at m (c % 64)) z ∙ zero_bit (c % 64)) t)
      go (inr r) =
          let b : from + r.0 < to = omega (arith, length-slice from to idx hi) in
          (from + r.0, omega arith, b, sym (get_or-slice from to idx r.0 b) ∙ r.2)

  -- words inside the columns hold no column past them
  pub row_inside : (ncols : ℕ) → Inside ncols idx masks from to → (c : ℕ) → T (row_holds idx masks from to c) → c < ncols
  row_inside ncols ins c t =
      let f : (k : ℕ) × (from ≤ k) × (k < to) × (get_or idx k 0 ≡ c / 64) = found c t in
      let b : T (bit_at (get_or masks f.0 0) (c % 64)) = subst (λ (x : Bool). T x) (holds_at f.0 c f.1 f.2 f.3) t in
      omega (arith, bit_in ncols (get_or idx f.0 0) (get_or masks f.0 0) (ins f.0 f.1 f.2) (c % 64) (omega arith) b, f.3)

  -- the words of the columns p hold p
  pub row-holds : (p : ℕ → Bool) → Row p idx masks from to → (c : ℕ) → row_holds idx masks from to c ≡ p c
  row-holds p row c = bool-ext (row_holds idx masks from to c) (p c) there back
    where
      same : (k : ℕ) → from ≤ k → k < to → get_or idx k 0 ≡ c / 64 → row_holds idx masks from to c ≡ p c
      same k a b e =
          let s : 64 * (c / 64) + c % 64 ≡ c = omega arith in
          holds_at k c a b e ∙ ap (λ (m : ℕ). bit_at m (c % 64)) (row.mask k a b ∙ ap (word_of p) e)
          ∙ bit_word p 64 (64 * (c / 64)) (c % 64) (omega arith) ∙ ap p s

      there : T (row_holds idx masks from to c) → T (p c)
      there t = let f : (k : ℕ) × (from ≤ k) × (k < to) × (get_or idx k 0 ≡ c / 64) = found c t in subst (λ (b : Bool). T b) (same f.0 f.1 f.2 f.3) t

      back : T (p c) → T (row_holds idx masks from to c)
      back t = let f : (k : ℕ) × (from ≤ k) × (k < to) × (get_or idx k 0 ≡ c / 64) = row.every c t in subst (λ (b : Bool). T b) (sym (same f.0 f.1 f.2 f.3)) t

  -- strictly rising words, none 0, are the words of the columns that they hold
  pub own_row : ((k : ℕ) → from ≤ k → k < to → 0 < get_or masks k 0) → ((k : ℕ) → from ≤ k → k < to → get_or masks k 0 < 2 ^ 64) → Row (row_holds idx masks from to) idx masks from to
  own_row used fits = record {
    rising = ris;
    mask = λ k a b. sym (word-of-bits (row_holds idx masks from to) 64 (64 * get_or idx k 0) (get_or masks k 0) (fits k a b) (λ j l. bit k j a b l));
    used = used;
    every = found;
  }
    where
      bit : (k j : ℕ) → from ≤ k → k < to → j < 64 → row_holds idx masks from to (64 * get_or idx k 0 + j) ≡ bit_at (get_or masks k 0) j
      bit k j a b l =
          let e : get_or idx k 0 ≡ (64 * get_or idx k 0 + j) / 64 = omega arith in
          let f : (64 * get_or idx k 0 + j) % 64 ≡ j = omega arith in
          holds_at k (64 * get_or idx k 0 + j) a b e ∙ ap (bit_at (get_or masks k 0)) f

-- ---- a row of no word, and of one word more

module _ (idx masks : List ℕ) (from : ℕ) where
  pub holds-none : (c : ℕ) → from ≤ length idx → from ≤ length masks → row_holds idx masks from from c ≡ false
  holds-none c hi hm = holds_not idx masks from from (le_refl from) hi hm (λ j k a b d. omega arith) c (λ k a b. absurd (omega arith))

  module _ (k : ℕ) (h : from ≤ k) (hi : k < length idx) (hm : k < length masks) (ris : Rising idx from (k + 1)) where
    before : Rising idx from k
    before i j a b d = ris i j a b (omega arith)

    pub holds-next : (c : ℕ) → row_holds idx masks from (k + 1) c ≡ (row_holds idx masks from k c || (eqb (c / 64) (get_or idx k 0) && bit_at (get_or masks k 0) (c % 64)))
    holds-next c = go (eq-or-ne (c / 64) (get_or idx k 0))
      where
        longer : (j : ℕ) → from ≤ j → j < k + 1 → get_or idx j 0 ≡ c / 64 → row_holds idx masks from (k + 1) c ≡ bit_at (get_or masks j 0) (c % 64)
        longer j a b e = holds_at idx masks from (k + 1) (omega arith) (omega arith) (omega arith) ris j c a b e

        shorter : (j : ℕ) → from ≤ j → j < k → get_or idx j 0 ≡ c / 64 → row_holds idx masks from k c ≡ bit_at (get_or masks j 0) (c % 64)
        shorter j a b e = holds_at idx masks from k h (omega arith) (omega arith) before j c a b e

        same : (c / 64 ≡ get_or idx k 0 → ⊥) → row_holds idx masks from (k + 1) c ≡ row_holds idx masks from k c
        same n = bool-ext (row_holds idx masks from (k + 1) c) (row_holds idx masks from k c) there back
          where
            there : T (row_holds idx masks from (k + 1) c) → T (row_holds idx masks from k c)
            there t =
                let f : (j : ℕ) × (from ≤ j) × (j < k + 1) × (get_or idx j 0 ≡ c / 64) = found idx masks from (k + 1) (omega arith) (omega arith) (omega arith) ris c t in
                part f (eq-or-ne f.0 k)
              where
                part : (f : (j : ℕ) × (from ≤ j) × (j < k + 1) × (get_or idx j 0 ≡ c / 64)) → (f.0 ≡ k) ⊎ (f.0 ≡ k → ⊥) → T (row_holds idx masks from k c)
                part f (inl e) = absurd (n (sym f.3 ∙ ap (λ (x : ℕ). get_or idx x 0) e))
                part f (inr d) = subst (λ (b : Bool). T b) (longer f.0 f.1 f.2 f.3 ∙ sym (shorter f.0 f.1 (omega (arith, f.2)) f.3)) t

            back : T (row_holds idx masks from k c) → T (row_holds idx masks from (k + 1) c)
            back t =
                let f : (j : ℕ) × (from ≤ j) × (j < k) × (get_or idx j 0 ≡ c / 64) = found idx masks from k h (omega arith) (omega arith) before c t in
                subst (λ (b : Bool). T b) (shorter f.0 f.1 f.2 f.3 ∙ sym (longer f.0 f.1 (omega (arith, f.2)) f.3)) t

        go : (c / 64 ≡ get_or idx k 0) ⊎ (c / 64 ≡ get_or idx k 0 → ⊥)
            → row_holds idx masks from (k + 1) c ≡ (row_holds idx masks from k c || (eqb (c / 64) (get_or idx k 0) && bit_at (get_or masks k 0) (c % 64)))
        go (inl e) =
            longer k h (omega arith) (sym e)
            ∙ sym
            (ap₂ (λ (s t : Bool). s || (t && bit_at (get_or masks k 0) (c % 64)))
            (holds_not idx masks from k h (omega arith) (omega arith) before c (λ j a b f. omega (arith, ris j k a b (omega arith))))
            (eq-eqb (c / 64) (get_or idx k 0) e))
        go (inr n) =
            same n
            ∙ sym (ap (λ (t : Bool). row_holds idx masks from k c || (t && bit_at (get_or masks k 0) (c % 64))) (ne_eqb (c / 64) (get_or idx k 0) n) ∙ or-false (row_holds idx masks from k c))
