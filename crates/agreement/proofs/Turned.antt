-- What it is for one set of pairs to be the transpose of another; where both have as many pairs, it is enough that one is within the other. Assumes nothing.
use mathlib.Core.Path.{◌≡◌, refl, sym, ◌∙◌, subst}
use mathlib.Core.Bool.{Bool, true, false, not, ◌||◌}
use Prim.Native.Nat.{ℕ, ◌<◌}
use native.Mathlib.Omega.{arith}
use lib.Dec.{T}
use Rattle.base.specs.Sets.{every_below, one_if, count_below}
use Rattle.base.proofs.Bools.{bool-ext, T_true, T_of}
use Rattle.base.proofs.Sets.{every-i, every-e, sum-swap, sum-cong, sum-tight, one-if-mono, count-cong, count-mono}
use Rattle.side.specs.Side.{flip, pair_count}
use Rattle.agreement.specs.Agreement.{same, turned, within}

same-i : (a b : Bool) → b ≡ a → T (same a b)
same-i true b e = T_of b e
same-i false b e = subst (λ (x : Bool). T (not x)) (sym e) tt

same-e : (a b : Bool) → T (same a b) → b ≡ a
same-e true b t = T_true b t
same-e false true t = absurd t
same-e false false t = refl

-- ---- one set within another

module _ (n : ℕ) (p q : ℕ → Bool) where
  pub within-i : ((i : ℕ) → i < n → T (p i) → T (q i)) → T (within n p q)
  unfolding within
  within-i h = every-i n (λ i. not (p i) || q i) (λ i l. one (p i) (q i) (h i l))
    where
      one : (a b : Bool) → (T a → T b) → T (not a || b)
      one true b f = f tt
      one false b f = tt

  pub within-e : T (within n p q) → (i : ℕ) → i < n → T (p i) → T (q i)
  unfolding within
  within-e h i l = one (p i) (q i) (every-e n (λ i. not (p i) || q i) h i l)
    where
      one : (a b : Bool) → T (not a || b) → T a → T b
      one true b h t = h
      one false b h t = absurd t

-- ---- the transpose

module _ (nrows ncols : ℕ) (R C : ℕ → ℕ → Bool) where
  pub turned_pair : turned nrows ncols R C ≡ true → (r c : ℕ) → r < nrows → c < ncols → C c r ≡ R r c
  unfolding turned
  turned_pair e r c hr hc = same-e (R r c) (C c r) (every-e ncols (λ c. same (R r c) (C c r)) (every-e nrows (λ r. every_below ncols (λ c. same (R r c) (C c r))) (T_of _ e) r hr) c hc)

  pub pair-turned : ((r c : ℕ) → r < nrows → c < ncols → C c r ≡ R r c) → turned nrows ncols R C ≡ true
  unfolding turned
  pair-turned h = T_true _ (every-i nrows (λ r. every_below ncols (λ c. same (R r c) (C c r))) (λ r hr. every-i ncols (λ c. same (R r c) (C c r)) (λ c hc. same-i (R r c) (C c r) (h r c hr hc))))

  -- it has as many pairs
  pub turned-count : turned nrows ncols R C ≡ true → pair_count nrows ncols R ≡ pair_count ncols nrows C
  turned-count e =
      sum-swap nrows ncols (λ r c. one_if (R r c))
      ∙ sum-cong ncols (λ c. count_below nrows (λ r. R r c)) (λ c. count_below nrows (C c)) (λ c hc. count-cong nrows (λ r. R r c) (C c) (λ r hr. sym (turned_pair e r c hr hc)))

  -- as many pairs, and every pair of the rows is one of the columns
  pub turned_round : pair_count nrows ncols R ≡ pair_count ncols nrows C → ((r c : ℕ) → r < nrows → c < ncols → T (R r c) → T (C c r)) → (r c : ℕ) → r < nrows → c < ncols → C c r ≡ R r c
  turned_round e h r c hr hc =
      sym (one-if-eq (R r c) (C c r) (sum-tight nrows (λ r. one_if (R r c)) (λ r. one_if (C c r)) (λ i l. one-if-mono (R i c) (C c i) (h i c l hc)) column r hr))
    where
      one-if-eq : (a b : Bool) → one_if a ≡ one_if b → a ≡ b
      one-if-eq true true e = refl
      one-if-eq true false e = absurd (omega arith)
      one-if-eq false true e = absurd (omega arith)
      one-if-eq false false e = refl

      column : count_below nrows (λ r. R r c) ≡ count_below nrows (C c)
      column =
          sum-tight ncols (λ c. count_below nrows (λ r. R r c)) (λ c. count_below nrows (C c)) (λ i l. count-mono nrows (λ r. R r i) (C i) (λ r u. h r i u l))
          (sym (sum-swap nrows ncols (λ r c. one_if (R r c))) ∙ e) c hc

  -- so the rows' pairs alone decide
  pub turned_rows : pair_count nrows ncols R ≡ pair_count ncols nrows C → turned nrows ncols R C ≡ every_below nrows (λ r. within ncols (R r) (flip C r))
  turned_rows e = bool-ext (turned nrows ncols R C) (every_below nrows (λ r. within ncols (R r) (flip C r))) there back
    where
      there : T (turned nrows ncols R C) → T (every_below nrows (λ r. within ncols (R r) (flip C r)))
      there t =
          every-i nrows (λ r. within ncols (R r) (flip C r))
          (λ r hr. within-i ncols (R r) (flip C r) (λ c hc m. subst (λ (b : Bool). T b) (sym (turned_pair (T_true _ t) r c hr hc)) m))

      back : T (every_below nrows (λ r. within ncols (R r) (flip C r))) → T (turned nrows ncols R C)
      back t =
          T_of _ (pair-turned (turned_round e (λ r c hr hc. within-e ncols (R r) (flip C r) (every-e nrows (λ r. within ncols (R r) (flip C r)) t r hr) c hc)))
