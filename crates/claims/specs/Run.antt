-- run_growths and run_field_growths: a list of growths given by arrays, then pattern, plan and gather on the region that it comes to. The checks: the
-- matrix, the topology, 22, 10, for field growths the layout and 18, the mask, 23 and 24 over all rows, and 11 for the rooms.
use Rattle.std.specs.Prelude.{Bool, true, cond, List, ℕ, min, eqb, length}
use Rattle.base.specs.Checks.{Check, answer}
use Rattle.std.specs.Prelude.{Result, Some, None}
use Rattle.base.specs.declared.Refusal.{Refusal}
use Rattle.base.specs.Checks.{must_be, ◌then◌, leaves}
use Rattle.mask.specs.Mask.{words_needed, length_check}
use Rattle.dual_topology.specs.Check.{square_topology}
use Rattle.binding.specs.Binding.{binding_check}
use Rattle.numeric_plan.specs.Plan.{sides_check}
use Rattle.growths.specs.Counts.{ran_of}
use Rattle.growths.specs.declared.Ran.{Ran}
use Rattle.claims.specs.declared.Cut.{Cut}
use Rattle.claims.specs.declared.GrowthRun.{GrowthRun}

-- ---- the checks

-- the topology, 22, 10
unfoldable pub sided_topology : Check → ℕ → ℕ → ℕ → ℕ → Check
sided_topology topology nrows ncols rows cols = square_topology (topology then sides_check nrows ncols rows cols) nrows ncols

-- 23, 24 over all rows: the topology has exactly the matrix's pairs
abbrev pub pairs_check : ℕ → (ℕ → ℕ → Bool) → (ℕ → ℕ → Bool) → Check
pairs_check n s entries = binding_check n (λ i. true) s entries

-- the mask, 23 and 24, and one room for each growth
unfoldable pub arrays_check : ℕ → ℕ → List ℕ → (ℕ → ℕ → Bool) → (ℕ → ℕ → Bool) → List ℕ → List ℕ → Check
arrays_check n len seeds s entries hops rooms = length_check n len seeds then pairs_check n s entries then must_be (length hops) (length rooms)

unfoldable pub run_check : Check → Check → Check → Check
run_check matrix sides arrays = matrix then sides then arrays

-- `square` is the layout's own check with 18
unfoldable pub field_run_check : Check → Check → Check → Check → Check
field_run_check matrix sides square arrays = matrix then sides then square then arrays

-- ---- what is answered and left

-- what all growths came to, on three lists of these lengths
abbrev pub ran_by : ℕ → List ℕ → List ℕ → List ℕ → List ℕ → List ℕ → Ran
ran_by side hops rooms region frontier scratch = ran_of (words_needed side) hops rooms (min (length region) (min (length frontier) (length scratch))) (length hops)

-- the local system is cut where at least one growth was accepted
abbrev pub if_grown : {A : Type 0} → Ran → A → A → A
if_grown ran new old = cond (eqb ran.accepted 0) old new

abbrev pub with_cut : Ran → Cut → GrowthRun
with_cut ran cut = record { ran = ran; cut = Some cut }

abbrev pub without_cut : Ran → GrowthRun
without_cut ran = record { ran = ran; cut = None }

abbrev pub run_answer : Check → Ran → Cut → Result GrowthRun Refusal
run_answer check ran cut = answer check (if_grown ran (with_cut ran cut) (without_cut ran))

abbrev pub run_left : {A : Type 0} → Check → Ran → A → A → A
run_left check ran new old = leaves check (if_grown ran new old) old
