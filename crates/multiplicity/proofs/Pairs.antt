-- What the statistics count: memberships region by region, and the nodes that two regions share. Assumes nothing.
use mathlib.Core.Path.{◌≡◌, refl, sym, ap, ap₂, ◌∙◌}
use mathlib.Core.Bool.{Bool, true, false, ◌&&◌, and-true, and-false}
use Prim.Native.Nat.{ℕ, zero, suc, ◌+◌, ◌-◌, ◌*◌, ◌/◌}
use native.Mathlib.Nat.{add-zero}
use native.Mathlib.Omega.{arith}
use Rattle.base.specs.Sets.{sum_below, count_below, one_if}
use Rattle.base.proofs.Sets.{sum-cong, sum-add, sum-none, sum-swap, count-cong}
use Rattle.multiplicity.specs.Multiplicity.{pairs_of}

-- all memberships, counted by nodes, are those counted by regions
pub total-shared : (n regions : ℕ) (h : ℕ → ℕ → Bool) → sum_below n (λ i. count_below regions (λ q. h q i)) ≡ sum_below regions (λ q. count_below n (h q))
total-shared n regions h = sum-swap n regions (λ i q. one_if (h q i))

-- one region more forms a pair with each before it
pub pairs_next : (m : ℕ) (b : Bool) → pairs_of (m + one_if b) ≡ pairs_of m + one_if b * m
pairs_next zero true = refl
pairs_next (suc k) true =
    let a : suc k + 1 - 1 ≡ suc k = omega arith in
    let b : suc k - 1 ≡ k = omega arith in
    let step : (suc k + 1) * suc k / 2 ≡ suc k * k / 2 + 1 * suc k = omega arith in
    ap (λ (x : ℕ). (suc k + 1) * x / 2) a ∙ step ∙ ap (λ (x : ℕ). suc k * x / 2 + 1 * suc k) (sym b)
pairs_next m false = ap pairs_of (add-zero m) ∙ omega arith

-- the regions before q that hold a node with q
both : (q : ℕ) (p : ℕ → Bool) (b : Bool) → one_if b * count_below q p ≡ count_below q (λ k. p k && b)
both q p true = omega (arith, count-cong q p (λ k. p k && true) (λ k h. sym (and-true (p k))))
both q p false = omega (arith, count-cong q (λ k. p k && false) (λ k. false) (λ k h. and-false (p k)), sum-none q)

-- the pairs at each node, summed, are the nodes that each pair of regions shares, summed
pub pairs-shared : (n regions : ℕ) (h : ℕ → ℕ → Bool) → sum_below n (λ i. pairs_of (count_below regions (λ q. h q i))) ≡ sum_below regions (λ q. sum_below q (λ p. count_below n (λ i. h p i && h q i)))
unfolding sum_below
pairs-shared n zero h = sum-none n
pairs-shared n (suc q) h =
    sum-cong n (λ i. pairs_of (count_below q (λ k. h k i) + one_if (h q i))) (λ i. pairs_of (count_below q (λ k. h k i)) + count_below q (λ k. h k i && h q i))
    (λ i l. pairs_next (count_below q (λ k. h k i)) (h q i) ∙ ap (λ (x : ℕ). pairs_of (count_below q (λ k. h k i)) + x) (both q (λ k. h k i) (h q i)))
    ∙ sum-add n (λ i. pairs_of (count_below q (λ k. h k i))) (λ i. count_below q (λ k. h k i && h q i))
    ∙ ap₂ ◌+◌ (pairs-shared n q h) (total-shared n q (λ k i. h k i && h q i))
