-- `repeated::local::plan_again` meets its contract: each list is written with what it holds. Assumes nothing.
use mathlib.Core.Path.{◌≡◌, sym, ◌∙◌, subst}
use Rattle.std.specs.Prelude.{Ok, IsOk}
use Rattle.base.specs.Checks.{Check}
use mathlib.Core.Bool.{Bool}
use mathlib.Core.List.{List}
use Prim.Native.Nat.{ℕ}
use Rattle.mask.specs.Mask.{in_mask}
use Rattle.csr32.specs.Matrix.{stored}
use Rattle.side.specs.Side.{side_holds}
use Rattle.binding.specs.Binding.{binding_check}
use Rattle.numeric_plan.specs.Plan.{pair_entries, plan_check}
use Rattle.repeated.proofs.Holding.{held-terms, held-accepted, plan-accepted, plan-made}
use Rattle.repeated.proofs.local.plan_again.Goals.{Start}
use Rattle.repeated.proofs.local.plan_again.Goals as goal

abbrev region : Start → ℕ → Bool
region s = in_mask s.args.system.local.region.words.now

abbrev pairs : Start → ℕ → ℕ → Bool
pairs s = side_holds s.args.system.local.rows.row_word_ptr.now s.args.system.local.rows.word_indices.now s.args.system.local.rows.masks.now

abbrev lists : Start → List (List ℕ)
lists s = pair_entries s.args.system.local.region.len (region s) (pairs s) s.args.system.matrix.row_ptr.now s.args.system.matrix.col_idx.now

abbrev check : Start → Check
check s =
    plan_check (binding_check s.args.system.local.region.len (region s) (pairs s) (stored s.args.system.matrix.row_ptr.now s.args.system.matrix.col_idx.now)) s.args.system.local.region.len (region s) (pairs s) (lists s) s.args.nodes.now s.args.local_ptr.now s.args.local_cols.now s.args.source_ptr.now s.args.sources.now

-- the lists hold a plan, so it is not refused
made : (s : Start) → check s ≡ Ok tt
made s = held-accepted s.args.system.local.region.len s.args.system.local.rows.row_word_ptr.now s.args.system.local.rows.word_indices.now s.args.system.local.rows.masks.now s.args.system.matrix.row_ptr.now s.args.system.matrix.col_idx.now s.args.system.local.region.words.now s.args.nodes.now s.args.local_ptr.now s.args.local_cols.now s.args.source_ptr.now s.args.sources.now s.requires

pub unwrap-requires : goal.unwrap-requires
unwrap-requires c =
    let s = (goal.at.unwrap-requires c).Start in
    subst IsOk (sym c.prepare.ensures.value) (plan-made (check s) c.args.system.local.region.len (region s) (lists s) (made s))

pub returns-clause-value : goal.returns-clause-value
returns-clause-value c =
    let s = (goal.at.returns-clause-value c).Start in
    let stats = plan-accepted (check s) c.args.system.local.region.len (region s) (lists s) c.unwrap.result (sym c.prepare.ensures.value ∙ c.unwrap.ensures) in
    cc (stats.1, held-terms c.args.system.local.region.len c.args.system.local.rows.row_word_ptr.now c.args.system.local.rows.word_indices.now c.args.system.local.rows.masks.now c.args.system.matrix.row_ptr.now c.args.system.matrix.col_idx.now c.args.system.local.region.words.now c.requires.inputs)
