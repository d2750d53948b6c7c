-- The plan of a list of lists: what a gather checks of it holds, and it is direct where it has as many sources as lists. Assumes nothing.
use mathlib.Core.Path.{◌≡◌, sym, ap, ap₂, ◌∙◌}
use Rattle.std.specs.Prelude.{Ok}
use Rattle.base.specs.Checks.{Check}
use Rattle.base.specs.declared.Refusal.TheVariants.{OverLimit, NotFinite, ListTooShort}
use mathlib.Core.Bool.{Bool, true}
use mathlib.Core.List.{List, []}
use Prim.Native.Nat.{ℕ, ◌+◌, ◌-◌, ◌≤◌, ◌<◌}
use native.Mathlib.Omega.{arith}
use borrow.Author.Tests.{eq-eqb, eqb-true, le-leb, lt-ltb}
use lib.Dec.{T, eqb, leb}
use lib.Ieee.{Float}
use lib.ListN.{length, get_or, length-append}
use Rattle.base.specs.Checks.{must, must_be, ◌then◌, entry_limit}
use Rattle.base.specs.Lists.{every, rising, below, join_below}
use Rattle.base.specs.Sets.{sum_below}
use Rattle.base.proofs.Bools.{bool-ext, T_of, T_true}
use Rattle.base.proofs.Checks.{pass}
use Rattle.base.proofs.Lists.{every-at, pairwise-i, step_of, every-all}
use Rattle.base.proofs.Joins.{join-none, join-next, join_up, join-count, join-at}
use Rattle.base.proofs.Sets.{sum-cong, sum-le, sum-tight, sum_ones}
use Rattle.csr32.specs.Matrix.{finite, stored, IsMatrix}
use Rattle.gather.specs.Gather.{gather_check}
use Rattle.gather.proofs.Plans.{pointers-length, pointer-at}
use Rattle.pattern.specs.Pattern.{pairs_inside}
use Rattle.binding.specs.Binding.{binding_check}
use Rattle.binding.specs.Steps.{sources_inside}
use Rattle.gather.specs.Plan.{entry_list, plan_sources, plan_ptr, direct}
use Rattle.numeric_plan.specs.Plan.{pair_entries}
use Rattle.numeric_plan.proofs.Pairs.{lists_length, list_inside, list-some, sources-length, sources-within}

module _ (lists : List (List ℕ)) where
  -- ---- its pointers and sources

  pub plan-starts : get_or (plan_ptr lists) 0 0 ≡ 0
  plan-starts = pointer-at lists 0 (omega arith) ∙ ap length (join-none (entry_list lists))

  pub plan-ends : get_or (plan_ptr lists) (length lists) 0 ≡ length (plan_sources lists)
  unfolding plan_sources
  plan-ends = pointer-at lists (length lists) (omega arith)

  pub plan-rises : rising (plan_ptr lists) ≡ true
  plan-rises =
      pairwise-i leb 0 (plan_ptr lists)
      (λ i h. let b : i < length lists = omega (arith, pointers-length lists) in le-leb (get_or (plan_ptr lists) i 0) (get_or (plan_ptr lists) (i + 1) 0) (omega (arith, pointer-at lists i (omega arith), pointer-at lists (i + 1) (omega arith), join_up (i + 1) i (entry_list lists) (omega arith))))

  -- every source is below what each list's are
  pub plan-below : (bound : ℕ) → ((j i : ℕ) → j < length lists → i < length (entry_list lists j) → get_or (entry_list lists j) i 0 < bound) → every (below bound) (plan_sources lists) ≡ true
  unfolding plan_sources
  plan-below bound all = every-all (below bound) 0 (join_below (length lists) (entry_list lists)) (λ q h. go q (step_of (λ k. length (join_below k (entry_list lists))) (length lists) q (ap length (join-none (entry_list lists))) h))
    where
      go : (q : ℕ) → (j : ℕ) × (j < length lists) × (length (join_below j (entry_list lists)) ≤ q) × (q < length (join_below (j + 1) (entry_list lists))) → below bound (get_or (join_below (length lists) (entry_list lists)) q 0) ≡ true
      go q f =
          let e = join-at (length lists) f.0 (entry_list lists) q 0 f.1 f.2 f.3 in
          let step : length (join_below (f.0 + 1) (entry_list lists)) ≡ length (join_below f.0 (entry_list lists)) + length (entry_list lists f.0) = ap length (join-next f.0 (entry_list lists)) ∙ length-append (join_below f.0 (entry_list lists)) (entry_list lists f.0) in
          lt-ltb (get_or (join_below (length lists) (entry_list lists)) q 0) bound (omega (arith, e, all f.0 (q - length (join_below f.0 (entry_list lists))) f.1 (omega (arith, f.2, f.3))))

  -- all that a gather checks of it holds: what is left is the values and the room
  pub plan-gathered : (value_len : ℕ) (values out : List Float) → length (plan_sources lists) ≤ entry_limit → every (below value_len) (plan_sources lists) ≡ true
      → gather_check (plan_ptr lists) (plan_sources lists) value_len values out
      ≡ (must (leb (length values) entry_limit) OverLimit then must_be value_len (length values) then must (every finite values) NotFinite then must (leb (length lists) (length out)) ListTooShort)
  unfolding gather_check
  plan-gathered value_len values out few inside =
      let last : length (plan_ptr lists) - 1 ≡ length lists = omega (arith, pointers-length lists) in
      sym
      (pass _ _ _ _ (le-leb (length (plan_sources lists)) entry_limit few)
      (ap (λ (c : Check). must (leb (length values) entry_limit) OverLimit then c)
      (pass _ _ _ _ (lt-ltb 0 (length (plan_ptr lists)) (omega (arith, pointers-length lists)))
      (pass _ _ _ _ (eq-eqb (get_or (plan_ptr lists) 0 0) 0 plan-starts)
      (pass _ _ _ _ plan-rises
      (pass _ _ _ _ (eq-eqb (get_or (plan_ptr lists) (length (plan_ptr lists) - 1) 0) (length (plan_sources lists)) (ap (λ (k : ℕ). get_or (plan_ptr lists) k 0) last ∙ plan-ends))
      (pass _ _ _ _ inside
      (ap (λ (k : ℕ). must_be value_len (length values) then must (every finite values) NotFinite then must (leb k (length out)) ListTooShort) (sym last)))))))))

  -- ---- direct plans

  module _ (some : (j : ℕ) → j < length lists → 0 < length (entry_list lists j)) where
    total-is : length (plan_sources lists) ≡ sum_below (length lists) (λ j. length (entry_list lists j))
    unfolding plan_sources
    total-is = join-count (length lists) (entry_list lists)

    ones : sum_below (length lists) (λ j. 1) ≡ length lists
    ones = sum_ones (length lists)

    -- with no list empty there are as many sources as lists, or more
    pub lists-few : length lists ≤ length (plan_sources lists)
    lists-few = omega (arith, total-is, ones, sum-le (length lists) (λ j. 1) (λ j. length (entry_list lists j)) some)

    -- and as many exactly where the plan is direct
    pub direct-count : direct lists ≡ eqb (length (plan_sources lists)) (length lists)
    direct-count = bool-ext (direct lists) (eqb (length (plan_sources lists)) (length lists)) there back
      where
        there : T (direct lists) → T (eqb (length (plan_sources lists)) (length lists))
        there t =
            let same : sum_below (length lists) (λ j. length (entry_list lists j)) ≡ sum_below (length lists) (λ j. 1) =
            sum-cong (length lists) (λ j. length (entry_list lists j)) (λ j. 1) (λ j h. eqb-true (length (entry_list lists j)) 1 (every-at (λ (l : List ℕ). eqb (length l) 1) [] lists j (T_true (direct lists) t) h)) in
            T_of (eqb (length (plan_sources lists)) (length lists)) (eq-eqb (length (plan_sources lists)) (length lists) (total-is ∙ same ∙ ones))

        back : T (eqb (length (plan_sources lists)) (length lists)) → T (direct lists)
        back t =
            let e : length (plan_sources lists) ≡ length lists = eqb-true (length (plan_sources lists)) (length lists) (T_true (eqb (length (plan_sources lists)) (length lists)) t) in
            let tight = sum-tight (length lists) (λ j. 1) (λ j. length (entry_list lists j)) some (ones ∙ sym e ∙ total-is) in
            T_of (direct lists) (every-all (λ (l : List ℕ). eqb (length l) 1) [] lists (λ j h. eq-eqb (length (entry_list lists j)) 1 (sym (tight j h))))

-- ---- the plan of a region

module _ (n : ℕ) (p : ℕ → Bool) (s : ℕ → ℕ → Bool) (ptr cols : List ℕ) (m : IsMatrix n n ptr cols) (accepted : binding_check n p s (stored ptr cols) ≡ Ok tt) where
  pub pairs-few : pairs_inside n p s ≤ sources_inside n p ptr cols
  pairs-few =
      omega (
        arith,
        lists_length n p s ptr cols,
        sources-length n p s ptr cols m accepted,
        lists-few (pair_entries n p s ptr cols) (list-some n p s ptr cols m accepted),
      )

  -- direct exactly if there are as many entries inside as pairs
  pub plan-direct : eqb (sources_inside n p ptr cols) (pairs_inside n p s) ≡ direct (pair_entries n p s ptr cols)
  plan-direct = sym (direct-count (pair_entries n p s ptr cols) (list-some n p s ptr cols m accepted) ∙ ap₂ eqb (sources-length n p s ptr cols m accepted) (lists_length n p s ptr cols))

  pub plan-sources : every (below (length cols)) (plan_sources (pair_entries n p s ptr cols)) ≡ true
  plan-sources = plan-below (pair_entries n p s ptr cols) (length cols) (list_inside n p s ptr cols m)

  -- a gather of the matrix's values by it is refused for the values or the room alone
  pub plan-gathers : (values out : List Float)
      → gather_check (plan_ptr (pair_entries n p s ptr cols)) (plan_sources (pair_entries n p s ptr cols)) (length cols) values out
      ≡ (must (leb (length values) entry_limit) OverLimit then must_be (length cols) (length values) then must (every finite values) NotFinite then must (leb (length (pair_entries n p s ptr cols)) (length out)) ListTooShort)
  plan-gathers values out = plan-gathered (pair_entries n p s ptr cols) (length cols) values out (sources-within n p s ptr cols m accepted) plan-sources
