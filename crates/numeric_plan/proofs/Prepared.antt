-- What a prepared plan hands from step to step: the counts, the room by them, the statistics. Assumes nothing.
use mathlib.Core.Path.{◌≡◌, refl, sym, ap, ap₂, ◌∙◌, subst}
use Rattle.std.specs.Prelude.{Ok}
use Rattle.base.specs.Checks.{Check}
use Rattle.base.specs.declared.Refusal.TheVariants.{ListTooShort}
use mathlib.Core.Bool.{Bool}
use mathlib.Core.List.{List}
use Prim.Native.Nat.{ℕ, ◌+◌, ◌-◌, ◌*◌, ◌≤◌, ◌<◌}
use native.Mathlib.Omega.{arith}
use borrow.Author.Tests.{leb-true, ltb-true}
use lib.Dec.{eqb, leb, ltb}
use lib.ListN.{length}
use Rattle.base.specs.Checks.{must, ◌then◌}
use Rattle.base.specs.Sets.{count_below}
use Rattle.base.proofs.Checks.{both-passed, passed}
use Rattle.base.proofs.Sets.{count-le}
use Rattle.csr32.specs.Matrix.{stored, IsMatrix}
use Rattle.pattern.specs.Pattern.{pairs_inside, pattern_room, bytes_of_pattern}
use Rattle.pattern.specs.Steps.{room_for}
use Rattle.pattern.proofs.Accepted.{Fits, room_fits, room_is}
use Rattle.binding.specs.Binding.{binding_check}
use Rattle.binding.specs.Steps.{sources_inside, counts_of}
use Rattle.binding.specs.declared.Counts.{Counts}
use Rattle.gather.specs.Plan.{plan_sources}
use Rattle.numeric_plan.specs.Plan.{pair_entries, plan_room, plan_stats}
use Rattle.numeric_plan.specs.Steps.{plan_room_for, Small, plan_by_counts}
use Rattle.numeric_plan.specs.declared.AbtmLocalNumericPlanStats.{AbtmLocalNumericPlanStats}
use Rattle.numeric_plan.proofs.Binding.{sources-few}
use Rattle.numeric_plan.proofs.Pairs.{lists_length, sources-length}
use Rattle.numeric_plan.proofs.Plans.{pairs-few, plan-direct}

-- lists that reach their needed lengths
pub record Room (n : ℕ) (p : ℕ → Bool) (s : ℕ → ℕ → Bool) (ptr cols nodes lptr lcols source_ptr sources : List ℕ) : Type 0 where
  pub pattern_fits : Fits n p s nodes lptr lcols
  pub pointers_room : pairs_inside n p s < length source_ptr
  pub sources_room : length (plan_sources (pair_entries n p s ptr cols)) ≤ length sources

module _ (n : ℕ) (p : ℕ → Bool) (s : ℕ → ℕ → Bool) (ptr cols : List ℕ) where
  pub plan-fits : (nodes lptr lcols source_ptr sources : List ℕ) → (pattern_room n p s nodes lptr lcols then plan_room (pair_entries n p s ptr cols) source_ptr sources) ≡ Ok tt → Room n p s ptr cols nodes lptr lcols source_ptr sources
  unfolding plan_room
  plan-fits nodes lptr lcols source_ptr sources e =
      let a = both-passed _ _ e in
      let b = both-passed _ _ a.1 in
      record {
        pattern_fits = room_fits n p s nodes lptr lcols a.0;
        pointers_room = subst (λ (x : ℕ). x < length source_ptr) (lists_length n p s ptr cols) (ltb-true _ _ (passed _ _ b.0));
        sources_room = leb-true _ _ (passed _ _ b.1);
      }

  module _ (m : IsMatrix n n ptr cols) (accepted : binding_check n p s (stored ptr cols) ≡ Ok tt) (counts : Counts) (e : counts ≡ counts_of n p s ptr cols) where
    abbrev lists : List (List ℕ)
    lists = pair_entries n p s ptr cols

    module _ (nodes lptr lcols source_ptr sources : List ℕ) where
      -- the counts decide as the definitions do
      pub plan_fits : plan_room_for counts (length nodes) (length lptr) (length lcols) (length source_ptr) (length sources) ≡ (pattern_room n p s nodes lptr lcols then plan_room (pair_entries n p s ptr cols) source_ptr sources)
      unfolding plan_room_for plan_room
      plan_fits =
          ap (λ (c : Counts). room_for c.members c.rows.pairs (length nodes) (length lptr) (length lcols) then must (ltb c.rows.pairs (length source_ptr)) ListTooShort then must (leb c.rows.sources (length sources)) ListTooShort) e
          ∙ ap₂ (λ (a b : ℕ). room_for (count_below n p) (pairs_inside n p s) (length nodes) (length lptr) (length lcols) then must (ltb a (length source_ptr)) ListTooShort then must (leb b (length sources)) ListTooShort) (sym (lists_length n p s ptr cols)) (sym (sources-length n p s ptr cols m accepted))
          ∙ ap (λ (c : Check). c then must (ltb (length lists) (length source_ptr)) ListTooShort then must (leb (length (plan_sources lists)) (length sources)) ListTooShort) (room_is n p s nodes lptr lcols (count_below n p) (pairs_inside n p s) refl refl)

    -- the count of sources is the plan's
    pub counted-sources : counts.rows.sources ≡ length (plan_sources (pair_entries n p s ptr cols))
    counted-sources = ap (λ (c : Counts). c.rows.sources) e ∙ sym (sources-length n p s ptr cols m accepted)

    -- what the statistics' casts need
    pub counts-small : Small counts
    counts-small =
        subst Small (sym e)
        (record {
          few_members = omega (arith, count-le n p, m.few_rows);
          few_sources = omega (arith, sources-few n p ptr cols m, m.few_entries);
          sourced = pairs-few n p s ptr cols m accepted;
        })

    pub stats_are : (stats : AbtmLocalNumericPlanStats) → stats ≡ plan_by_counts counts → stats ≡ plan_stats n p (pair_entries n p s ptr cols)
    stats_are stats h =
        h ∙ ap plan_by_counts e
        ∙ ap₂ (λ (x y : ℕ). put x y (eqb (sources_inside n p ptr cols) (pairs_inside n p s))) (sym (lists_length n p s ptr cols)) (sym (sources-length n p s ptr cols m accepted))
        ∙ ap (put (length lists) (length (plan_sources lists))) (plan-direct n p s ptr cols m accepted)
      where
        put : ℕ → ℕ → Bool → AbtmLocalNumericPlanStats
        put pairs terms one =
            record {
              local_nodes = count_below n p;
              local_nnz = pairs;
              source_terms = terms;
              duplicate_source_terms = terms - pairs;
              direct_source_map = one;
              plan_bytes = bytes_of_pattern (count_below n p) pairs + 4 * (pairs + 1) + 4 * terms;
            }
