-- A repeated growth answers the hops that one growth completes, a repeated closing the count of nodes, a repeated pattern or gather that of pairs,
-- a repeated plan that of sources.
use Rattle.std.specs.Prelude.{true, false, ℕ}
use Rattle.std.specs.Prelude.{Result, Ok, Err}
use Rattle.base.specs.declared.Refusal.{Refusal}
use Rattle.repeated.specs.declared.Answer.{Answer}
use Rattle.field_region.specs.declared.FieldAwareRegionStats.{FieldAwareRegionStats}
use Rattle.numeric_plan.specs.declared.AbtmLocalNumericPlanStats.{AbtmLocalNumericPlanStats}
use Rattle.pattern.specs.declared.AbtmLocalSubmatrixPatternStats.{AbtmLocalSubmatrixPatternStats}
use Rattle.region.specs.declared.AbtmRegionGrowthStats.{AbtmRegionGrowthStats}
use Rattle.base.specs.Checks.{refusal_number, refusal_expected, refusal_actual}

abbrev pub value_answer : ℕ → Answer
value_answer k = record { number = 0; present = true; expected = 0; actual = 0; value = k }

abbrev pub refused_answer : Refusal → Answer
refused_answer r = record { number = refusal_number r; present = false; expected = refusal_expected r; actual = refusal_actual r; value = 0 }

unfoldable pub hops_answer : Result AbtmRegionGrowthStats Refusal → Answer
hops_answer (Ok s) = value_answer s.hops_completed
hops_answer (Err r) = refused_answer r

unfoldable pub field_hops_answer : Result FieldAwareRegionStats Refusal → Answer
field_hops_answer (Ok s) = value_answer s.hops_completed
field_hops_answer (Err r) = refused_answer r

unfoldable pub pairs_answer : Result AbtmLocalSubmatrixPatternStats Refusal → Answer
pairs_answer (Ok s) = value_answer s.local_nnz
pairs_answer (Err r) = refused_answer r

unfoldable pub sources_answer : Result AbtmLocalNumericPlanStats Refusal → Answer
sources_answer (Ok s) = value_answer s.source_terms
sources_answer (Err r) = refused_answer r

unfoldable pub count_answer : Result ℕ Refusal → Answer
count_answer (Ok k) = value_answer k
count_answer (Err r) = refused_answer r
