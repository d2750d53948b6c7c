-- A node's multiplicity, region by region, and a list of them. Assumes nothing.
use mathlib.Core.Path.{◌≡◌, sym, ap, ap₂, ◌∙◌}
use mathlib.Core.Logic.{◌⊎◌, inl, inr}
use mathlib.Core.Bool.{true}
use mathlib.Core.List.{List, ◌++◌}
use Prim.Native.Nat.{ℕ, ◌+◌, ◌≤◌, ◌<◌}
use native.Mathlib.Nat.{zero-add}
use native.Mathlib.Omega.{arith}
use lib.ListN.{length, get_or, take, drop, replicate, length-replicate, get_or-replicate, get_or-eq_default}
use lib.Seq.{ext_get_or}
use Rattle.base.specs.Lists.{list_from}
use Rattle.base.specs.Sets.{one_if}
use Rattle.base.proofs.Bools.{T_of, lt-or-le}
use Rattle.base.proofs.Lists.{length-list_from, get_or-list_from, list_from-cong, part-take}
use Rattle.base.proofs.Sets.{sum-zero, sum-suc, count-le, count-pos}
use Rattle.mask.specs.Mask.{in_mask}
use Rattle.multiplicity.specs.declared.FlatRegions.{FlatRegions}
use Rattle.multiplicity.specs.declared.inner.Regions.{Regions as Accepted}
use Rattle.multiplicity.specs.Views.{AcceptedFrom}
use Rattle.multiplicity.specs.Multiplicity.{region_at, holds_in_region, multiplicity_of, multiplicity_stats}
use Rattle.multiplicity.proofs.Tallies.{stats-cong}

-- a function of the accepted regions is one of those that are lent
pub as-lent : {A : Type 0} (g : ℕ → ℕ → List ℕ → A) (f : FlatRegions) (r : Accepted) → AcceptedFrom f r → g r.node_count r.region_count r.words.now ≡ g f.node_count f.region_count f.words.now
as-lent g f r a = ap₂ (λ n k. g n k r.words.now) a.0 a.1 ∙ ap (λ w. g f.node_count f.region_count w.now) a.2

module _ (n : ℕ) (words : List ℕ) (i : ℕ) where
  pub mult-none : multiplicity_of n 0 words i ≡ 0
  unfolding multiplicity_of
  mult-none = sum-zero (λ q. one_if (holds_in_region n words q i))

  pub mult-next : (q : ℕ) → multiplicity_of n (q + 1) words i ≡ multiplicity_of n q words i + one_if (holds_in_region n words q i)
  unfolding multiplicity_of
  mult-next q = sum-suc q (λ q. one_if (holds_in_region n words q i))

  pub mult-le : (q : ℕ) → multiplicity_of n q words i ≤ q
  unfolding multiplicity_of
  mult-le q = count-le q (λ q. holds_in_region n words q i)

  -- a node that a region holds is counted
  pub mult-pos : (regions q : ℕ) → q < regions → holds_in_region n words q i ≡ true → 0 < multiplicity_of n regions words i
  unfolding multiplicity_of
  mult-pos regions q h t = count-pos regions (λ q. holds_in_region n words q i) q h (T_of (holds_in_region n words q i) t)

-- ---- a list of multiplicities

module _ (n : ℕ) (words : List ℕ) where
  pub mult-at : (regions i : ℕ) → i < n → get_or (list_from (multiplicity_of n regions words) n 0) i 0 ≡ multiplicity_of n regions words i
  mult-at regions i h = get_or-list_from (multiplicity_of n regions words) n 0 i 0 h ∙ ap (multiplicity_of n regions words) (zero-add i)

  -- none is more than the regions
  pub mults-le : (regions i : ℕ) → get_or (list_from (multiplicity_of n regions words) n 0) i 0 ≤ regions
  mults-le regions i = go (lt-or-le i n)
    where
      go : (i < n) ⊎ (n ≤ i) → get_or (list_from (multiplicity_of n regions words) n 0) i 0 ≤ regions
      go (inl h) = omega (arith, mult-at regions i h, mult-le n words i regions)
      go (inr h) = omega (arith, get_or-eq_default (list_from (multiplicity_of n regions words) n 0) 0 {n = i} (omega (arith, length-list_from (multiplicity_of n regions words) n 0)))

  -- zeros are those of no region
  pub mults-none : (k : ℕ) → k ≡ n → replicate k 0 ≡ list_from (multiplicity_of n 0 words) n 0
  mults-none k e =
      ext_get_or 0 (replicate k 0) (list_from (multiplicity_of n 0 words) n 0) (omega (arith, length-replicate {A = ℕ}, length-list_from {A = ℕ}))
      (λ i l. let h : i < n = omega (arith, length-replicate {A = ℕ}) in get_or-replicate {A = ℕ} k i 0 0 (omega arith) ∙ sym (mult-none n words i) ∙ sym (mult-at 0 i h))

  -- one region more
  pub mults-next : (q : ℕ) (l region : List ℕ) → l ≡ list_from (multiplicity_of n q words) n 0 → region ≡ region_at n words q
      → list_from (λ i. get_or l i 0 + one_if (in_mask region i)) n 0 ≡ list_from (multiplicity_of n (q + 1) words) n 0
  mults-next q l region e r =
      list_from-cong (λ i. get_or l i 0 + one_if (in_mask region i)) (multiplicity_of n (q + 1) words) n 0
      (λ i a b. ap₂ (λ (x y : List ℕ). get_or x i 0 + one_if (in_mask y i)) e r ∙ ap (λ (x : ℕ). x + one_if (holds_in_region n words q i)) (mult-at q i (omega arith)) ∙ sym (mult-next n words i q))

  -- the counts at the front of a lent list
  pub mults-front : (regions : ℕ) (l lent : List ℕ) → l ≡ list_from (multiplicity_of n regions words) n 0 → take n (l ++ drop n lent) ≡ list_from (multiplicity_of n regions words) n 0
  mults-front regions l lent e = part-take l (list_from (multiplicity_of n regions words) n 0) lent n e (sym (length-list_from (multiplicity_of n regions words) n 0))

  -- and their statistics
  pub mults-stats : (regions : ℕ) (l : List ℕ) → l ≡ list_from (multiplicity_of n regions words) n 0
      → multiplicity_stats (length l) regions (λ i. get_or l i 0) ≡ multiplicity_stats n regions (multiplicity_of n regions words)
  mults-stats regions l e =
      ap (λ (x : List ℕ). multiplicity_stats (length x) regions (λ i. get_or x i 0)) e
      ∙ ap (λ (k : ℕ). multiplicity_stats k regions (λ i. get_or (list_from (multiplicity_of n regions words) n 0) i 0)) (length-list_from (multiplicity_of n regions words) n 0)
      ∙ stats-cong n regions (λ i. get_or (list_from (multiplicity_of n regions words) n 0) i 0) (multiplicity_of n regions words) (λ i h. mult-at regions i h)
