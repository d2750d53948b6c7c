-- Lists that hold a plan: they are long enough for it, and stay as they are where it is written again. Assumes nothing.
use mathlib.Core.Path.{◌≡◌, refl, sym, ap, subst}
use Rattle.std.specs.Prelude.{Ok, Err, IsOk}
use Rattle.base.specs.Checks.{Check}
use mathlib.Core.Bool.{Bool}
use mathlib.Core.List.{List}
use Prim.Native.Nat.{ℕ, ◌^◌, ◌≤◌, ◌<◌}
use native.Mathlib.Omega.{arith}
use borrow.Author.Tests.{le-leb, lt-ltb}
use lib.Ieee.{Float}
use lib.ListN.{length, get_or, drop, length-append}
use Rattle.base.specs.Lists.{over}
use Rattle.base.specs.Sets.{members_below}
use Rattle.base.proofs.Checks.{pass, last-pass, both-pass, both-passed, refused-not-accepted}
use Rattle.base.proofs.Sets.{count-members}
use Rattle.mask.specs.Mask.{in_mask}
use Rattle.csr32.specs.Matrix.{matrix_check, stored}
use Rattle.side.specs.Side.{side_holds}
use Rattle.dual_topology.specs.Check.{topology_check}
use Rattle.pattern.specs.Pattern.{pattern_room, pattern_ptr, pattern_columns, nodes_left, ptr_left, columns_left}
use Rattle.pattern.proofs.Writing.{ptr-length}
use Rattle.binding.specs.Binding.{binding_check}
use Rattle.binding.specs.Steps.{sources_inside}
use Rattle.gather.specs.Plan.{plan_sources, plan_ptr}
use Rattle.gather.proofs.Plans.{pointers-length}
use Rattle.numeric_plan.specs.Plan.{pair_entries, plan_room, plan_inputs, plan_check, plan_answer, source_ptr_left, sources_left}
use Rattle.numeric_plan.specs.declared.AbtmLocalNumericPlanStats.{AbtmLocalNumericPlanStats}
use Rattle.numeric_plan.proofs.Accepted.{accepted-inputs}
use Rattle.numeric_plan.proofs.Pairs.{pattern-pairs, lists_length, sources-length}
use Rattle.numeric_plan.proofs.Prepared.{Room}
use Rattle.repeated.specs.Held.{Binds, PlanHeld}
use Rattle.repeated.proofs.Rewriting.{holds}

-- a list that holds an answer is as long
held-long : (X l : List ℕ) → over X l ≡ l → length X ≤ length l
held-long X l e = omega (arith, length-append X (drop (length X) l), ap length e)

module _ (n : ℕ) (word_ptr indices masks ptr cols words : List ℕ) where
  abbrev p : ℕ → Bool
  p = in_mask words

  abbrev s : ℕ → ℕ → Bool
  s = side_holds word_ptr indices masks

  abbrev lists : List (List ℕ)
  lists = pair_entries n p s ptr cols

  -- its sources are the entries inside
  pub held-terms : Binds n word_ptr indices masks ptr cols words → length (plan_sources (pair_entries n (in_mask words) (side_holds word_ptr indices masks) ptr cols)) ≡ sources_inside n (in_mask words) ptr cols
  held-terms b = sources-length n p s ptr cols b.matrix b.binds

  module _ (nodes local_ptr local_cols source_ptr sources : List ℕ) where
    pub held-room : PlanHeld n word_ptr indices masks ptr cols words nodes local_ptr local_cols source_ptr sources → Room n (in_mask words) (side_holds word_ptr indices masks) ptr cols nodes local_ptr local_cols source_ptr sources
    held-room h =
        record {
          pattern_fits =
              record {
                nodes_room = omega (arith, held-long (members_below n p) nodes h.nodes_held, count-members n p);
                ptr_room = omega (arith, held-long (pattern_ptr n p s) local_ptr h.ptr_held, ptr-length n s p);
                columns_room = omega (arith, held-long (pattern_columns n p s) local_cols h.columns_held, pattern-pairs n p s);
              };
          pointers_room = omega (arith, held-long (plan_ptr lists) source_ptr h.starts_held, pointers-length lists, lists_length n p s ptr cols);
          sources_room = held-long (plan_sources lists) sources h.sources_held;
        }

    -- and its checks accept them
    pub held-accepted : PlanHeld n word_ptr indices masks ptr cols words nodes local_ptr local_cols source_ptr sources
        → plan_check (binding_check n (in_mask words) (side_holds word_ptr indices masks) (stored ptr cols)) n (in_mask words) (side_holds word_ptr indices masks) (pair_entries n (in_mask words) (side_holds word_ptr indices masks) ptr cols) nodes local_ptr local_cols source_ptr sources ≡ Ok tt
    unfolding plan_check pattern_room plan_room
    held-accepted h =
        let r = held-room h in
        let f = r.pattern_fits in
        let few : length lists < length source_ptr = subst (λ (k : ℕ). k < length source_ptr) (sym (lists_length n p s ptr cols)) r.pointers_room in
        both-pass _ _ h.inputs.binds
        (both-pass _ _ (sym (pass _ _ _ _ (le-leb _ _ f.nodes_room) (pass _ _ _ _ (lt-ltb _ _ f.ptr_room) (last-pass _ _ _ (le-leb _ _ f.columns_room) refl))))
        (sym (pass _ _ _ _ (lt-ltb _ _ few) (last-pass _ _ _ (le-leb _ _ r.sources_room) refl))))

-- ---- a plan that was prepared

pub plan-accepted : (check : Check) (n : ℕ) (p : ℕ → Bool) (lists : List (List ℕ)) (stats : AbtmLocalNumericPlanStats) → plan_answer check n p lists ≡ Ok stats → (check ≡ Ok tt) × (stats.source_terms ≡ length (plan_sources lists))
plan-accepted (Ok tt) n p lists stats e = (refl, cc)
plan-accepted (Err r) n p lists stats e = let z : ◌≡◌ {A = ℕ} 0 1 = cc in absurd (omega arith)

-- accepted checks refuse nothing
pub plan-made : (check : Check) (n : ℕ) (p : ℕ → Bool) (lists : List (List ℕ)) → check ≡ Ok tt → IsOk (plan_answer check n p lists)
plan-made (Ok tt) _ _ _ _ = refl
plan-made (Err q) _ _ _ a = absurd (refused-not-accepted q a)

inputs-accepted : (inputs : Check) (n : ℕ) (p : ℕ → Bool) (s : ℕ → ℕ → Bool) (lists : List (List ℕ)) (nodes ptr cols source_ptr sources : List ℕ) → plan_check inputs n p s lists nodes ptr cols source_ptr sources ≡ Ok tt → inputs ≡ Ok tt
unfolding plan_check
inputs-accepted _ _ _ _ _ _ _ _ _ _ e = (both-passed _ _ e).0

module _ (nrows ncols : ℕ) (word_ptr indices masks : List ℕ) (pairs nrows2 ncols2 : ℕ) (word_ptr2 indices2 masks2 : List ℕ) (pairs2 rows columns : ℕ) (ptr cols : List ℕ) (values : List Float) (len : ℕ) (words nodes₀ local_ptr₀ local_cols₀ source_ptr₀ sources₀ : List ℕ) where
  abbrev q : ℕ → Bool
  q = in_mask words

  abbrev held : ℕ → ℕ → Bool
  held = side_holds word_ptr indices masks

  abbrev entries : List (List ℕ)
  entries = pair_entries nrows q held ptr cols

  abbrev pub whole_check : Check
  whole_check =
      plan_check (plan_inputs (matrix_check rows columns ptr cols values) (topology_check nrows ncols word_ptr indices masks pairs nrows2 ncols2 word_ptr2 indices2 masks2 pairs2) rows columns nrows ncols len words held (stored ptr cols)) nrows q held entries nodes₀ local_ptr₀ local_cols₀ source_ptr₀ sources₀

  -- the lists that it was lent hold it
  pub plan-held : ((k : ℕ) → get_or masks k 0 < 2 ^ 64) → ((k : ℕ) → get_or masks2 k 0 < 2 ^ 64) → ((k : ℕ) → get_or words k 0 < 2 ^ 64) → (nodes local_ptr local_cols source_ptr sources : List ℕ) → whole_check ≡ Ok tt
      → nodes ≡ nodes_left whole_check nrows q nodes₀ → local_ptr ≡ ptr_left whole_check nrows q held local_ptr₀ → local_cols ≡ columns_left whole_check nrows q held local_cols₀
      → source_ptr ≡ source_ptr_left whole_check entries source_ptr₀ → sources ≡ sources_left whole_check entries sources₀
      → PlanHeld nrows word_ptr indices masks ptr cols words nodes local_ptr local_cols source_ptr sources
  plan-held fits fits2 fits3 nodes local_ptr local_cols source_ptr sources ok a b c d e =
      let g = accepted-inputs nrows ncols word_ptr indices masks pairs nrows2 ncols2 word_ptr2 indices2 masks2 pairs2 rows columns ptr cols values len words fits fits2 fits3 (inputs-accepted _ nrows q held entries nodes₀ local_ptr₀ local_cols₀ source_ptr₀ sources₀ ok) in
      record {
        inputs = record { rows = g.topology.rows; matrix = g.matrix; mask = g.mask; binds = g.binds };
        nodes_held = holds whole_check (members_below nrows q) nodes₀ nodes ok a;
        ptr_held = holds whole_check (pattern_ptr nrows q held) local_ptr₀ local_ptr ok b;
        columns_held = holds whole_check (pattern_columns nrows q held) local_cols₀ local_cols ok c;
        starts_held = holds whole_check (plan_ptr entries) source_ptr₀ source_ptr ok d;
        sources_held = holds whole_check (plan_sources entries) sources₀ sources ok e;
      }
