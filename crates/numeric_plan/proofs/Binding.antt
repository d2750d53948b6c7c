-- What an accepted binding gives: inside the region the topology's pairs are the matrix's, and how many entries lie there. Assumes nothing.
use mathlib.Core.Path.{◌≡◌, refl, sym, ap, ◌∙◌}
use Rattle.std.specs.Prelude.{Ok}
use Rattle.base.specs.Checks.{Check}
use mathlib.Core.Bool.{Bool, true, false, not, cond, ◌&&◌}
use mathlib.Core.List.{List}
use Prim.Native.Nat.{ℕ, ◌+◌, ◌-◌, ◌≤◌, ◌<◌}
use native.Mathlib.Nat.{le_refl}
use native.Mathlib.Omega.{arith}
use borrow.Author.Tests.{eq-eqb, ne_eqb}
use lib.Dec.{T, eqb}
use lib.ListN.{length, get_or}
use Rattle.base.specs.Sets.{any_below, sum_below, sum_over, count_below, one_if}
use Rattle.base.proofs.Bools.{bool-ext, T_true, T_of, not-T-of}
use Rattle.base.proofs.Checks.{passed, both-passed, checks-passed}
use Rattle.base.proofs.Sets.{any-i, sum-cong, sum-swap, over-le, count-member, get_or-count, members-count, sum-place, sum-if}
use Rattle.csr32.specs.Matrix.{stored, IsMatrix}
use Rattle.csr32.proofs.Matrix.{ptr_le, stored-by}
use Rattle.pattern.specs.Pattern.{member_at, inside}
use Rattle.sources.specs.Sources.{entries_in, entries_of}
use Rattle.binding.specs.Binding.{row_faults, binding_check}
use Rattle.binding.specs.Steps.{row_sources, sources_inside}
use Rattle.binding.proofs.Sources.{rows-within}

-- ---- pairs and entries agree

-- a row that passes
row_same : (n : ℕ) (p pairs entries : ℕ → Bool) → row_faults n p pairs entries ≡ Ok tt → (c : ℕ) → c < n → T (p c) → pairs c ≡ entries c
unfolding row_faults
row_same n p pairs entries e c l t =
    bool-ext (pairs c) (entries c) (λ a. go (p c) (pairs c) (entries c) t a (none (λ c. p c && pairs c && not (entries c)) (passed _ _ (both-passed _ _ e).0) c l))
    (λ a. go (p c) (entries c) (pairs c) t a (none (λ c. p c && entries c && not (pairs c)) (passed _ _ (both-passed _ _ e).1) c l))
  where
    none : (q : ℕ → Bool) → not (any_below n q) ≡ true → (c : ℕ) → c < n → T (q c) → ⊥
    none q e c l t = not-both (any_below n q) e (any-i n q c l t)
      where
        not-both : (b : Bool) → not b ≡ true → T b → ⊥
        not-both true e t = not-T-of (not true) refl (T_of (not true) e)
        not-both false e t = t

    go : (a b d : Bool) → T a → T b → (T (a && b && not d) → ⊥) → T d
    go true true true x y f = tt
    go true true false x y f = absurd (f tt)
    go true false d x y f = absurd y
    go false b d x y f = absurd x

-- inside the region pairs and entries are the same
pub bound : (n : ℕ) (p : ℕ → Bool) (s entries : ℕ → ℕ → Bool) → binding_check n p s entries ≡ Ok tt → (r c : ℕ) → r < n → T (p r) → c < n → T (p c) → s r c ≡ entries r c
unfolding binding_check
bound n p s entries e r c l t h u = row_same n p (s r) (entries r) here c h u
  where
    check : ℕ → Check
    check x = row_faults n p (s x) (entries x)

    here : check r ≡ Ok tt
    here = ap check (sym (get_or-count n p r l t)) ∙ checks-passed (count_below n p) (λ k. check (member_at n p k)) e (count_below r p) (count-member n p r l t)

-- ---- how many entries lie inside

module _ (n : ℕ) (p : ℕ → Bool) (ptr cols : List ℕ) (m : IsMatrix n n ptr cols) where
  entries-length : (r c : ℕ) → length (entries_of ptr cols r c) ≡ count_below (get_or ptr (r + 1) 0 - get_or ptr r 0) (λ j. eqb (get_or cols (get_or ptr r 0 + j) 0) c)
  unfolding entries_in
  entries-length r c = members-count (λ e. eqb (get_or cols e 0) c) (get_or ptr r 0) (get_or ptr (r + 1) 0 - get_or ptr r 0)

  -- the entries of a row, counted by column and one after the other
  pub row-sources : (s : ℕ → ℕ → Bool) (r : ℕ) → r < n → ((c : ℕ) → c < n → T (p c) → s r c ≡ stored ptr cols r c)
      → sum_over n (inside p s r) (λ c. length (entries_of ptr cols r c)) ≡ count_below (get_or ptr (r + 1) 0 - get_or ptr r 0) (λ j. p (get_or cols (get_or ptr r 0 + j) 0))
  row-sources s r l same =
      sum-cong n (λ c. cond (q c) (length (entries_of ptr cols r c)) 0) (λ c. sum_below w (one c))
      (λ c h. ap (λ (k : ℕ). cond (q c) k 0) (entries-length r c) ∙ sum-if (q c) w (λ j. one_if (eqb (col j) c)))
      ∙ sum-swap n w one ∙ sum-cong w (λ j. sum_below n (λ c. one c j)) (λ j. one_if (p (col j))) each
    where
      q : ℕ → Bool
      q = inside p s r

      w : ℕ
      w = get_or ptr (r + 1) 0 - get_or ptr r 0

      col : ℕ → ℕ
      col j = get_or cols (get_or ptr r 0 + j) 0

      one : ℕ → ℕ → ℕ
      one c j = cond (q c) (one_if (eqb (col j) c)) 0

      nothing : (b : Bool) → ◌≡◌ {A = ℕ} (cond b 0 0) 0
      nothing true = refl
      nothing false = refl

      only : (a b : Bool) → (T a → b ≡ true) → ◌≡◌ {A = ℕ} (cond (a && b) 1 0) (one_if a)
      only true b h = ap (λ (x : Bool). cond x 1 0) (h tt)
      only false b h = refl

      each : (j : ℕ) → j < w → sum_below n (λ c. one c j) ≡ one_if (p (col j))
      each j h =
          let last : get_or ptr (r + 1) 0 ≤ length cols = ptr_le n n ptr cols m (r + 1) (omega arith) in
          let low : col j < n = m.inside (get_or ptr r 0 + j) (omega arith) in
          sum-place n (λ c. one c j) (col j) low (λ c k d. ap (λ (b : Bool). cond (q c) (one_if b) 0) (ne_eqb (col j) c (λ e. d (sym e))) ∙ nothing (q c))
          ∙ ap (λ (b : Bool). cond (q (col j)) (one_if b) 0) (eq-eqb (col j) (col j) refl)
          ∙ only (p (col j)) (s r (col j)) (λ t. same (col j) low t ∙ T_true (stored ptr cols r (col j)) (stored-by n n ptr cols m r (col j) (get_or ptr r 0 + j) l (omega arith) (omega arith) refl))

  -- no more than there are
  pub sources-few : sources_inside n p ptr cols ≤ length cols
  sources-few = omega (arith, over-le n p (row_sources p ptr cols), rows-within n p ptr cols m n (le_refl n), m.ends)
