-- The pattern and the plan of a region in the topology of exactly the matrix's pairs: their counts, what the five lists hold once they are zeroed
-- past them, and the statistics. Assumes nothing.
use mathlib.Core.Path.{◌≡◌, sym, ap, ap₂, ◌∙◌}
use Rattle.std.specs.Prelude.{Ok}
use mathlib.Core.Bool.{Bool}
use mathlib.Core.List.{List}
use Prim.Native.Nat.{ℕ, ◌+◌, ◌≤◌}
use native.Mathlib.Omega.{arith}
use lib.ListN.{length}
use Rattle.base.specs.Checks.{side_limit}
use Rattle.base.specs.Lists.{over, over_with_zeros, zeroed, join_below}
use Rattle.base.specs.Sets.{count_below, members_below}
use Rattle.base.proofs.Lists.{length-list_from, over_zeros}
use Rattle.base.proofs.Sets.{count-le, count-members}
use Rattle.csr32.specs.Matrix.{stored, IsMatrix}
use Rattle.pattern.specs.Pattern.{local_row, pattern_ptr, pattern_columns, pairs_inside, stats_of_pattern}
use Rattle.pattern.specs.Steps.{region_kept}
use Rattle.pattern.specs.Steps as pattern-steps
use Rattle.pattern.specs.declared.AbtmLocalSubmatrixPatternStats.{AbtmLocalSubmatrixPatternStats}
use Rattle.pattern.specs.declared.RegionKept.{RegionKept}
use Rattle.binding.specs.Binding.{binding_check}
use Rattle.binding.specs.Steps.{counts_of}
use Rattle.binding.specs.declared.Counts.{Counts}
use Rattle.binding.proofs.Rows.{binds-itself}
use Rattle.gather.specs.Plan.{plan_sources, plan_ptr}
use Rattle.gather.proofs.Plans.{pointers-length}
use Rattle.numeric_plan.specs.Plan.{pair_entries, plan_stats}
use Rattle.numeric_plan.specs.Steps as plan-steps
use Rattle.numeric_plan.specs.declared.AbtmLocalNumericPlanStats.{AbtmLocalNumericPlanStats}
use Rattle.numeric_plan.proofs.Binding.{sources-few}
use Rattle.numeric_plan.proofs.Pairs.{pattern-pairs, lists_length, sources-length}
use Rattle.numeric_plan.proofs.Plans.{pairs-few}
use Rattle.numeric_plan.proofs.Prepared.{stats_are}
use Rattle.cutting.specs.Cut.{lists_of}
use Rattle.cutting.specs.Steps.{local_stats}
use Rattle.cutting.specs.declared.LocalStats.{LocalStats}

module _ (n : ℕ) (p : ℕ → Bool) (s : ℕ → ℕ → Bool) (ptr cols : List ℕ) (m : IsMatrix n n ptr cols) (same : s ≡ stored ptr cols) where
  -- neither 23 nor 24
  pub binds : binding_check n p s (stored ptr cols) ≡ Ok tt
  binds = ap (λ (t : ℕ → ℕ → Bool). binding_check n p t (stored ptr cols)) same ∙ binds-itself n p (stored ptr cols)

  -- a region has no more pairs than sources, and no more of these than the matrix has entries
  pub few_sources : length (plan_sources (pair_entries n p s ptr cols)) ≤ length cols
  few_sources = omega (arith, sources-length n p s ptr cols m binds, sources-few n p ptr cols m)

  pub few_pairs : pairs_inside n p s ≤ length cols
  few_pairs = omega (arith, pairs-few n p s ptr cols m binds, sources-few n p ptr cols m)

  -- by the counts
  module _ (counts : Counts) (e : counts ≡ counts_of n p s ptr cols) where
    pub members-is : counts.members ≡ count_below n p
    members-is = ap (λ (k : Counts). k.members) e

    pub pairs_is : counts.rows.pairs ≡ pairs_inside n p s
    pairs_is = ap (λ (k : Counts). k.rows.pairs) e

    pub terms-is : counts.rows.sources ≡ length (plan_sources (pair_entries n p s ptr cols))
    terms-is = ap (λ (k : Counts). k.rows.sources) e ∙ sym (sources-length n p s ptr cols m binds)

    pub few-counts : n ≤ side_limit → (n ≤ side_limit) × (counts.members ≤ n) × (counts.rows.pairs ≤ length cols) × (counts.rows.sources ≤ length cols)
    few-counts h = (h, omega (arith, members-is, count-le n p), omega (arith, pairs_is, few_pairs), omega (arith, terms-is, few_sources))

    -- each list, written and then zeroed past its own part
    module _ (before written after : List ℕ) where
      pub nodes-left : written ≡ over (members_below n p) before → after ≡ zeroed counts.members n written → after ≡ over_with_zeros (members_below n p) n before
      nodes-left w z = z ∙ over_zeros (members_below n p) before written counts.members n w (members-is ∙ sym (count-members n p)) (omega (arith, members-is, count-le n p))

      pub ptr-left : written ≡ over (pattern_ptr n p s) before → after ≡ zeroed (counts.members + 1) (n + 1) written → after ≡ over_with_zeros (pattern_ptr n p (stored ptr cols)) (n + 1) before
      unfolding pattern_ptr
      ptr-left w z =
          z
          ∙ over_zeros (pattern_ptr n p s) before written (counts.members + 1) (n + 1) w (ap (λ (k : ℕ). k + 1) members-is ∙ sym (length-list_from (λ k. length (join_below k (local_row n p s))) (count_below n p + 1) 0)) (omega (arith, members-is, count-le n p))
          ∙ ap (λ (t : ℕ → ℕ → Bool). over_with_zeros (pattern_ptr n p t) (n + 1) before) same

      pub columns-left : written ≡ over (pattern_columns n p s) before → after ≡ zeroed counts.rows.pairs (length cols) written → after ≡ over_with_zeros (pattern_columns n p (stored ptr cols)) (length cols) before
      columns-left w z =
          z
          ∙ over_zeros (pattern_columns n p s) before written counts.rows.pairs (length cols) w (pairs_is ∙ sym (pattern-pairs n p s)) (omega (arith, pairs_is, few_pairs))
          ∙ ap (λ (t : ℕ → ℕ → Bool). over_with_zeros (pattern_columns n p t) (length cols) before) same

      pub source-ptr-left : written ≡ over (plan_ptr (pair_entries n p s ptr cols)) before → after ≡ zeroed (counts.rows.pairs + 1) (length cols + 1) written → after ≡ over_with_zeros (plan_ptr (lists_of n p ptr cols)) (length cols + 1) before
      source-ptr-left w z =
          z
          ∙ over_zeros (plan_ptr (pair_entries n p s ptr cols)) before written (counts.rows.pairs + 1) (length cols + 1) w (ap (λ (k : ℕ). k + 1) (pairs_is ∙ sym (lists_length n p s ptr cols)) ∙ sym (pointers-length (pair_entries n p s ptr cols))) (omega (arith, pairs_is, few_pairs))
          ∙ ap (λ (t : ℕ → ℕ → Bool). over_with_zeros (plan_ptr (pair_entries n p t ptr cols)) (length cols + 1) before) same

      pub sources-left : written ≡ over (plan_sources (pair_entries n p s ptr cols)) before → after ≡ zeroed counts.rows.sources (length cols) written → after ≡ over_with_zeros (plan_sources (lists_of n p ptr cols)) (length cols) before
      sources-left w z =
          z
          ∙ over_zeros (plan_sources (pair_entries n p s ptr cols)) before written counts.rows.sources (length cols) w terms-is (omega (arith, terms-is, few_sources))
          ∙ ap (λ (t : ℕ → ℕ → Bool). over_with_zeros (plan_sources (pair_entries n p t ptr cols)) (length cols) before) same

    pub stats-left : (kept : RegionKept) (a : AbtmLocalSubmatrixPatternStats) (b : AbtmLocalNumericPlanStats) → kept ≡ region_kept n p s → a ≡ pattern-steps.stats_by_counts n kept → b ≡ plan-steps.plan_by_counts counts
        → ◌≡◌ {A = LocalStats} (record { pattern = a; numeric_plan = b }) (local_stats n p ptr cols)
    stats-left kept a b ek ea eb =
        ap₂ (λ (x : AbtmLocalSubmatrixPatternStats) (y : AbtmLocalNumericPlanStats). record { pattern = x; numeric_plan = y })
        (ea ∙ ap (pattern-steps.stats_by_counts n) ek ∙ ap (stats_of_pattern n p) same)
        (stats_are n p s ptr cols m binds counts e b eb ∙ ap (λ (t : ℕ → ℕ → Bool). plan_stats n p (pair_entries n p t ptr cols)) same)
