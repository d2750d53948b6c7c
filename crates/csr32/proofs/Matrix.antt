-- What an accepted matrix gives, and the laws of `stored`. Assumes nothing.
use mathlib.Core.Path.{◌≡◌, sym, ap, ◌∙◌, subst}
use Rattle.std.specs.Prelude.{Ok}
use mathlib.Core.Bool.{Bool, true, false, ◌||◌}
use mathlib.Core.List.{List, [], ◌∷◌}
use mathlib.Core.Logic.{◌⊎◌, inl, inr}
use Prim.Native.Nat.{ℕ, zero, suc, ◌+◌, ◌≤◌, ◌<◌}
use native.Mathlib.Nat.{le_refl}
use native.Mathlib.Omega.{arith}
use borrow.Author.Tests.{leb-true, eqb-true, ltb-true, eq-eqb, ne_eqb}
use native.Mathlib.Decide.{ℕ_discrete}
use lib.Dec.{T, leb, eqb}
use lib.Ieee.{Float, nan}
use lib.ListN.{length, get_or, get_or-eq_default}
use lib.Seq.{slice, drop-nil, length-slice}
use Rattle.base.specs.Lists.{below, is_in}
use Rattle.base.specs.Sets.{one_if, sum_below, count_below}
use Rattle.base.proofs.Bools.{lt-or-le}
use Rattle.base.proofs.Checks.{passed, both-passed}
use Rattle.base.proofs.Sets.{sum-zero, sum-suc, sum-none, sum-add, sum-le, sum-cong}
use Rattle.base.proofs.Lists.{every-at, pairwise-at, in-slice-at, in-slice-where, rise-to}
use Rattle.csr32.specs.Matrix.{finite, matrix_check, row_of, stored, IsMatrix, Accepts}

pub accepted : (nrows ncols : ℕ) (ptr cols : List ℕ) (values : List Float) → matrix_check nrows ncols ptr cols values ≡ Ok tt
    → Accepts nrows ncols ptr cols values
unfolding matrix_check
accepted nrows ncols ptr cols values e =
    let e1 = both-passed _ _ e in
    let e2 = both-passed _ _ e1.1 in
    let e3 = both-passed _ _ e2.1 in
    let e4 = both-passed _ _ e3.1 in
    let e5 = both-passed _ _ e4.1 in
    let e6 = both-passed _ _ e5.1 in
    let e7 = both-passed _ _ e6.1 in
    let e8 = both-passed _ _ e7.1 in
    let e9 = both-passed _ _ e8.1 in
    let e10 = both-passed _ _ e9.1 in
    let rows : length ptr ≡ nrows + 1 = eqb-true _ _ (passed _ _ e5.0) in
    let same : length cols ≡ length values = eqb-true _ _ (passed _ _ e6.0) in
    record {
      matrix = record {
        few_rows = leb-true _ _ (passed _ _ e1.0);
        few_cols = leb-true _ _ (passed _ _ e2.0);
        few_entries = leb-true _ _ (passed _ _ e3.0);
        rows = rows;
        starts = eqb-true _ _ (passed _ _ e7.0);
        ends = eqb-true _ _ (passed _ _ e8.0) ∙ sym same;
        rises = λ r h. leb-true _ _ (pairwise-at leb 0 ptr r (passed _ _ e9.0) (omega arith));
        inside = λ k h. ltb-true _ _ (every-at (below ncols) 0 cols k (passed _ _ e10.0) h);
      };
      entries = record { as_many = sym same; finite_at = λ k h. every-at finite nan values k (passed _ _ e10.1) h };
    }

-- a list has no more different members than elements
pub in_count : (l : List ℕ) (n : ℕ) → count_below n (λ c. is_in c l) ≤ length l
unfolding is_in
in_count [] n = omega (arith, sum-none n)
in_count (x ∷ xs) n =
    omega (
      arith,
      in_count xs n,
      once x n,
      sum-add n (λ c. one_if (eqb x c)) (λ c. one_if (is_in c xs)),
      sum-le n (λ c. one_if (eqb x c || is_in c xs)) (λ c. one_if (eqb x c) + one_if (is_in c xs)) (λ c h. either (eqb x c) (is_in c xs)),
    )
  where
    either : (a b : Bool) → one_if (a || b) ≤ one_if a + one_if b
    either true b = omega arith
    either false b = omega arith

    once : (x n : ℕ) → count_below n (λ c. eqb x c) ≤ 1
    once x zero = omega (arith, sum-zero (λ c. one_if (eqb x c)))
    once x (suc n) = here (ℕ_discrete x n) (once x n)
      where
        step : sum_below (suc n) (λ c. one_if (eqb x c)) ≡ sum_below n (λ c. one_if (eqb x c)) + one_if (eqb x n)
        step = let e : suc n ≡ n + 1 = omega arith in ap (λ (k : ℕ). sum_below k (λ c. one_if (eqb x c))) e ∙ sum-suc n (λ c. one_if (eqb x c))

        here : Dec (x ≡ n) → sum_below n (λ c. one_if (eqb x c)) ≤ 1 → sum_below (suc n) (λ c. one_if (eqb x c)) ≤ 1
        here (yes d) ih =
            omega (arith, step, ap one_if (eq-eqb x n d), sum-cong n (λ c. one_if (eqb x c)) (λ c. 0) (λ c h. ap one_if (ne_eqb x c (λ e. omega arith))) ∙ sum-none n)
        here (no d) ih = omega (arith, step, ap one_if (ne_eqb x n d))

module _ (nrows ncols : ℕ) (ptr cols : List ℕ) (m : IsMatrix nrows ncols ptr cols) where
  -- no pointer is past the entries
  pub ptr_le : (r : ℕ) → r ≤ nrows → get_or ptr r 0 ≤ length cols
  ptr_le r h = omega (arith, rise-to ptr nrows m.rises r nrows h (le_refl nrows), m.ends)

  -- an entry of row r with column c stores the pair, and a stored pair has such an entry
  pub stored-by : (r c k : ℕ) → r < nrows → get_or ptr r 0 ≤ k → k < get_or ptr (r + 1) 0 → get_or cols k 0 ≡ c → T (stored ptr cols r c)
  unfolding stored
  stored-by r c k h lo hi e = in-slice-at c (get_or ptr r 0) (get_or ptr (r + 1) 0) cols k (ptr_le (r + 1) (omega arith)) lo hi e

  -- past the last row nothing is stored
  pub stored_row : (r c : ℕ) → T (stored ptr cols r c) → r < nrows
  unfolding stored is_in
  stored_row r c t = go (lt-or-le r nrows)
    where
      none : nrows ≤ r → row_of ptr cols r ≡ []
      none h =
          ap (λ (n : ℕ). slice (get_or ptr r 0) n cols) (get_or-eq_default ptr 0 {n = r + 1} (omega (arith, m.rows))) ∙ drop-nil (get_or ptr r 0)

      go : (r < nrows) ⊎ (nrows ≤ r) → r < nrows
      go (inl h) = h
      go (inr h) = absurd (subst (λ (l : List ℕ). T (is_in c l)) (none h) t)

  pub stored-entry : (r c : ℕ) → T (stored ptr cols r c) → (k : ℕ) × (get_or ptr r 0 ≤ k) × (k < get_or ptr (r + 1) 0) × (get_or cols k 0 ≡ c)
  unfolding stored
  stored-entry r c t = in-slice-where c (get_or ptr r 0) (get_or ptr (r + 1) 0) cols (ptr_le (r + 1) (omega (arith, stored_row r c t))) t

  pub stored-col : (r c : ℕ) → T (stored ptr cols r c) → c < ncols
  stored-col r c t =
      let s : (k : ℕ) × (get_or ptr r 0 ≤ k) × (k < get_or ptr (r + 1) 0) × (get_or cols k 0 ≡ c) = stored-entry r c t in
      let last : get_or ptr (r + 1) 0 ≤ length cols = ptr_le (r + 1) (omega (arith, stored_row r c t)) in
      omega (arith, m.inside s.0 (omega arith))

  -- a matrix has no more pairs than entries: one that repeats is one pair
  pub pairs-le : sum_below nrows (λ r. count_below ncols (stored ptr cols r)) ≤ length cols
  unfolding stored
  pairs-le = omega (arith, go nrows (le_refl nrows), ptr_le nrows (le_refl nrows))
    where
      go : (n : ℕ) → n ≤ nrows → sum_below n (λ r. count_below ncols (stored ptr cols r)) ≤ get_or ptr n 0
      go zero h = omega (arith, sum-zero (λ r. count_below ncols (stored ptr cols r)))
      go (suc n) h =
          let e : n + 1 ≡ suc n = omega arith in
          let one : count_below ncols (stored ptr cols n) ≤ length (row_of ptr cols n) = in_count (row_of ptr cols n) ncols in
          let last : get_or ptr (n + 1) 0 ≤ length cols = ptr_le (n + 1) (omega arith) in
          subst (λ (k : ℕ). sum_below k (λ r. count_below ncols (stored ptr cols r)) ≤ get_or ptr k 0) e
          (omega (arith, go n (omega arith), sum-suc n (λ r. count_below ncols (stored ptr cols r)), length-slice (get_or ptr n 0) (get_or ptr (n + 1) 0) cols last, m.rises n (omega arith)))
