-- Pattern, plan and gather one after the other. Assumes nothing.
use mathlib.Core.Path.{◌≡◌, refl, sym, ap, ap₂, ◌∙◌}
use Rattle.std.specs.Prelude.{Result, Ok, Err}
use Rattle.base.specs.Checks.{Check, answer}
use mathlib.Core.List.{List}
use Prim.Native.Nat.{ℕ, ◌+◌, ◌≤◌}
use native.Mathlib.Omega.{arith}
use lib.Ieee.{Float}
use lib.ListN.{length, take}
use Rattle.base.specs.Checks.{leaves}
use Rattle.base.specs.Lists.{over}
use Rattle.base.specs.declared.Refusal.{Refusal}
use Rattle.base.proofs.Checks.{on-accepted, on-refused, kept}
use Rattle.base.proofs.Lists.{over-room}
use Rattle.gather.specs.Gather.{gather_check, gather_answer, gather_left}
use Rattle.gather.specs.Plan.{plan_sources, plan_ptr}
use Rattle.gather.proofs.Plans.{pointers-length}
use Rattle.mask.specs.Mask.{in_mask}
use Rattle.numeric_plan.specs.Plan.{plan_stats}
use Rattle.numeric_plan.specs.declared.AbtmLocalNumericPlanStats.{AbtmLocalNumericPlanStats}
use Rattle.claims.specs.Demand.{CutSystem, Planned, entries, plan_of, planned}
use Rattle.claims.specs.Cutting.{pattern_cut, plan_cut, plan_accepts, cut_answer, values_cut}
use Rattle.claims.specs.declared.Cut.{Cut}
use Rattle.pattern.specs.declared.AbtmLocalSubmatrixPatternStats.{AbtmLocalSubmatrixPatternStats}

-- what an answer of a plan says of its checks
prepared : (check : Check) (x s : AbtmLocalNumericPlanStats) (plan : Result AbtmLocalNumericPlanStats Refusal) → plan ≡ answer check x → plan ≡ Ok s
    → (check ≡ Ok tt) × (s ≡ x)
prepared (Ok tt) x s plan e f = (refl, cc)
prepared (Err r) x s plan e f = absurd (let z : ◌≡◌ {A = ℕ} 0 1 = cc in omega arith)

refused : (check : Check) (x : AbtmLocalNumericPlanStats) (r : Refusal) (plan : Result AbtmLocalNumericPlanStats Refusal) → plan ≡ answer check x → plan ≡ Err r
    → check ≡ Err r
refused (Ok tt) x r plan e f = absurd (let z : ◌≡◌ {A = ℕ} 0 1 = cc in omega arith)
refused (Err q) x r plan e f = cc

abbrev cut : Result AbtmLocalSubmatrixPatternStats Refusal → Result AbtmLocalNumericPlanStats Refusal → Result ℕ Refusal → Cut
cut pattern plan gathered = record { pattern = pattern; plan = plan; gathered = gathered }

module _ (S : CutSystem) (region nodes ptr cols source_ptr sources nodes' ptr' cols' : List ℕ) (en : nodes' ≡ (pattern_cut S region nodes ptr cols source_ptr sources).nodes) (ep : ptr' ≡ (pattern_cut S region nodes ptr cols source_ptr sources).ptr)
    (ec : cols' ≡ (pattern_cut S region nodes ptr cols source_ptr sources).columns) where
  -- the plan, told of the lists as they stand
  abbrev told : Planned
  told = planned S region nodes' ptr' cols' source_ptr sources

  pub same-plan : told ≡ plan_cut S region nodes ptr cols source_ptr sources
  same-plan =
      ap₂ (λ (x y : List ℕ). planned S region x y cols' source_ptr sources) en ep
      ∙ ap (λ (x : List ℕ). planned S region (pattern_cut S region nodes ptr cols source_ptr sources).nodes (pattern_cut S region nodes ptr cols source_ptr sources).ptr x source_ptr sources) ec

  same_check : plan_of S region nodes' ptr' cols' source_ptr sources ≡ plan_accepts S region nodes ptr cols source_ptr sources
  same_check =
      ap₂ (λ (x y : List ℕ). plan_of S region x y cols' source_ptr sources) en ep
      ∙ ap (λ (x : List ℕ). plan_of S region (pattern_cut S region nodes ptr cols source_ptr sources).nodes (pattern_cut S region nodes ptr cols source_ptr sources).ptr x source_ptr sources) ec

  module _ (pattern : Result AbtmLocalSubmatrixPatternStats Refusal) (plan : Result AbtmLocalNumericPlanStats Refusal) (same : pattern ≡ (pattern_cut S region nodes ptr cols source_ptr sources).answer) (is : plan ≡ told.answer) where
    module _ (r : Refusal) (says : plan ≡ Err r) where
      no-plan : plan_accepts S region nodes ptr cols source_ptr sources ≡ Err r
      no-plan = sym same_check ∙ refused (plan_of S region nodes' ptr' cols' source_ptr sources) _ r plan is says

      pub cut-refused : (values out : List Float) → cut pattern (Err r) (Err r) ≡ cut_answer S region nodes ptr cols source_ptr sources values out
      unfolding cut_answer
      cut-refused values out =
          ap₂ (λ (x : Result AbtmLocalSubmatrixPatternStats Refusal) (y : Result AbtmLocalNumericPlanStats Refusal). cut x y (Err r)) same (sym says ∙ is ∙ ap (λ (t : Planned). t.answer) same-plan)
          ∙ ap (cut (pattern_cut S region nodes ptr cols source_ptr sources).answer (plan_cut S region nodes ptr cols source_ptr sources).answer) (on-refused _ r _ Err no-plan)

      pub values-kept : (values out : List Float) → out ≡ values_cut S region nodes ptr cols source_ptr sources values out
      values-kept values out = kept _ r _ out no-plan

    module _ (s : AbtmLocalNumericPlanStats) (says : plan ≡ Ok s) where
      fits : plan_of S region nodes' ptr' cols' source_ptr sources ≡ Ok tt
      fits = (prepared (plan_of S region nodes' ptr' cols' source_ptr sources) (plan_stats S.side (in_mask region) (entries S region)) s plan is says).0

      counts : s ≡ plan_stats S.side (in_mask region) (entries S region)
      counts = (prepared (plan_of S region nodes' ptr' cols' source_ptr sources) (plan_stats S.side (in_mask region) (entries S region)) s plan is says).1

      pairs : s.local_nnz ≡ length (entries S region)
      pairs = ap (λ (x : AbtmLocalNumericPlanStats). x.local_nnz) counts

      terms : s.source_terms ≡ length (plan_sources (entries S region))
      terms = ap (λ (x : AbtmLocalNumericPlanStats). x.source_terms) counts

      module _ (ptr'' src'' : List ℕ) (eptr : ptr'' ≡ told.source_ptr) (esrc : src'' ≡ told.sources) where
        pub pointers_room : s.local_nnz + 1 ≤ length ptr''
        pointers_room =
            omega (
              arith,
              pairs,
              pointers-length (entries S region),
              over-room (plan_ptr (entries S region)) source_ptr,
              ap length (eptr ∙ ap (λ (t : Check). leaves t (over (plan_ptr (entries S region)) source_ptr) source_ptr) fits),
            )

        pub sources_room : s.source_terms ≤ length src''
        sources_room =
            omega (
              arith,
              terms,
              over-room (plan_sources (entries S region)) sources,
              ap length (esrc ∙ ap (λ (t : Check). leaves t (over (plan_sources (entries S region)) sources) sources) fits),
            )

        -- the parts that the gather is lent are the plan's own
        own-ptr : take (s.local_nnz + 1) ptr'' ≡ take (length (entries S region) + 1) (plan_cut S region nodes ptr cols source_ptr sources).source_ptr
        own-ptr = ap₂ (λ (k : ℕ) (l : List ℕ). take (k + 1) l) pairs (eptr ∙ ap (λ (t : Planned). t.source_ptr) same-plan)

        own-src : take s.source_terms src'' ≡ take (length (plan_sources (entries S region))) (plan_cut S region nodes ptr cols source_ptr sources).sources
        own-src = ap₂ (λ (k : ℕ) (l : List ℕ). take k l) terms (esrc ∙ ap (λ (t : Planned). t.sources) same-plan)

        pub cut-prepared : (values out : List Float) (gathered : Result ℕ Refusal)
            → gathered ≡ gather_answer (gather_check (take (s.local_nnz + 1) ptr'') (take s.source_terms src'') (length S.col_idx) values out) (take (s.local_nnz + 1) ptr'')
            → cut pattern (Ok s) gathered ≡ cut_answer S region nodes ptr cols source_ptr sources values out
        unfolding cut_answer
        cut-prepared values out gathered e =
            ap₂ (λ (x : Result AbtmLocalSubmatrixPatternStats Refusal) (y : Result AbtmLocalNumericPlanStats Refusal). cut x y gathered) same (sym says ∙ is ∙ ap (λ (t : Planned). t.answer) same-plan)
            ∙ ap (cut (pattern_cut S region nodes ptr cols source_ptr sources).answer (plan_cut S region nodes ptr cols source_ptr sources).answer)
            (on-accepted _ _ gathered Err (sym same_check ∙ fits)
            (e ∙ ap₂ (λ (x y : List ℕ). gather_answer (gather_check x y (length S.col_idx) values out) x) own-ptr own-src))

        pub values-cut : (values out out' : List Float)
            → out' ≡ gather_left (gather_check (take (s.local_nnz + 1) ptr'') (take s.source_terms src'') (length S.col_idx) values out) (take (s.local_nnz + 1) ptr'') (take s.source_terms src'') values out
            → out' ≡ values_cut S region nodes ptr cols source_ptr sources values out
        values-cut values out out' e =
            on-accepted _ _ out' (λ r. out) (sym same_check ∙ fits)
            (e ∙ ap₂ (λ (x y : List ℕ). gather_left (gather_check x y (length S.col_idx) values out) x y values out) own-ptr own-src)
