-- prepare_local_numeric_plan: the matrix, the topology, 22, 10, the mask, by local row 23 and 24, then 25. The plan lists the entries of each pair
-- of the pattern in stored order, as they stand in the matrix.
use Rattle.std.specs.Prelude.{Bool, List, map, ℕ, ◌+◌, ◌-◌, ◌*◌, eqb, leb, ltb, length}
use Rattle.std.specs.Prelude.{Result}
use Rattle.base.specs.Checks.{Check, answer}
use Rattle.base.specs.declared.Refusal.{Refusal}
use Rattle.base.specs.declared.Refusal.TheVariants.{SidesDiffer, ListTooShort}
use Rattle.base.specs.Checks.{must, ◌then◌, leaves}
use Rattle.base.specs.Lists.{join_below, over}
use Rattle.base.specs.Sets.{count_below}
use Rattle.mask.specs.Mask.{in_mask}
use Rattle.sources.specs.Sources.{entries_of}
use Rattle.binding.specs.Binding.{binding_check}
use Rattle.gather.specs.Plan.{plan_sources, plan_ptr, direct}
use Rattle.pattern.specs.Pattern.{member_at, columns_of, region_check, pattern_room, bytes_of_pattern}
use Rattle.numeric_plan.specs.declared.AbtmLocalNumericPlanStats.{AbtmLocalNumericPlanStats}

-- ---- the entries of each pair

-- for each pair of the pattern, in its order, its entries
unfoldable pub pair_entries : ℕ → (ℕ → Bool) → (ℕ → ℕ → Bool) → List ℕ → List ℕ → List (List ℕ)
pair_entries n p s ptr cols = join_below (count_below n p) (λ k. map (entries_of ptr cols (member_at n p k)) (columns_of n p s (member_at n p k)))

-- ---- the checks

-- 25: exact counts are needed lengths
unfoldable pub plan_room : List (List ℕ) → List ℕ → List ℕ → Check
plan_room lists source_ptr sources =
    must (ltb (length lists) (length source_ptr)) ListTooShort
    then must (leb (length (plan_sources lists)) (length sources)) ListTooShort

-- 22: the topology's sides are the matrix's
unfoldable pub sides_check : ℕ → ℕ → ℕ → ℕ → Check
sides_check nrows ncols rows cols = must (eqb nrows rows) SidesDiffer then must (eqb ncols cols) SidesDiffer

-- the matrix, the topology, 22, 10, the mask, by local row 23 and 24
unfoldable pub plan_inputs : Check → Check → ℕ → ℕ → ℕ → ℕ → ℕ → List ℕ → (ℕ → ℕ → Bool) → (ℕ → ℕ → Bool) → Check
plan_inputs matrix topology rows cols nrows ncols len words s entries =
    matrix then region_check (topology then sides_check nrows ncols rows cols) nrows ncols len words then binding_check nrows (in_mask words) s entries

-- ---- the call

-- and 25 last
unfoldable pub plan_check : Check → ℕ → (ℕ → Bool) → (ℕ → ℕ → Bool) → List (List ℕ) → List ℕ → List ℕ → List ℕ → List ℕ → List ℕ → Check
plan_check inputs n p s lists nodes ptr cols source_ptr sources = inputs then pattern_room n p s nodes ptr cols then plan_room lists source_ptr sources

abbrev pub terms_of_sources : List (List ℕ) → ℕ
terms_of_sources lists = length (plan_sources lists)

-- sources past one for each pair; four bytes for each of the pattern's numbers, source pointer and source
abbrev pub plan_stats : ℕ → (ℕ → Bool) → List (List ℕ) → AbtmLocalNumericPlanStats
plan_stats n p lists =
    record {
      local_nodes = count_below n p;
      local_nnz = length lists;
      source_terms = terms_of_sources lists;
      duplicate_source_terms = terms_of_sources lists - length lists;
      direct_source_map = direct lists;
      plan_bytes = bytes_of_pattern (count_below n p) (length lists) + 4 * (length lists + 1) + 4 * terms_of_sources lists;
    }

abbrev pub plan_answer : Check → ℕ → (ℕ → Bool) → List (List ℕ) → Result AbtmLocalNumericPlanStats Refusal
plan_answer check n p lists = answer check (plan_stats n p lists)

abbrev pub source_ptr_left : Check → List (List ℕ) → List ℕ → List ℕ
source_ptr_left check lists out = leaves check (over (plan_ptr lists) out) out

abbrev pub sources_left : Check → List (List ℕ) → List ℕ → List ℕ
sources_left check lists out = leaves check (over (plan_sources lists) out) out
