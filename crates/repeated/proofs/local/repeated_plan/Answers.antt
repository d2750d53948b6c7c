-- `repeated::local::repeated_plan` meets its contract: the lists that the checked plan left are written again with the same. Assumes
-- nothing.
use mathlib.Core.Path.{◌≡◌, sym, ◌∙◌}
use Rattle.std.specs.Prelude.{Ok}
use Rattle.repeated.specs.Held.{PlanHeld}
use Rattle.base.specs.Checks.{Check}
use mathlib.Core.Bool.{Bool}
use mathlib.Core.List.{List}
use Prim.Native.Nat.{ℕ}
use Rattle.mask.specs.Mask.{in_mask}
use Rattle.side.specs.Side.{side_holds}
use Rattle.numeric_plan.specs.Plan.{pair_entries}
use Rattle.repeated.proofs.Holding.{whole_check, plan-accepted, plan-held, held-terms}
use Rattle.repeated.proofs.local.repeated_plan.Goals.{In-Ok, Start}
use Rattle.repeated.proofs.local.repeated_plan.Goals as goal

module _ (s : Start) where
  abbrev region : ℕ → Bool
  region = in_mask s.args.mask.words.now

  abbrev lists : List (List ℕ)
  lists = pair_entries s.args.topology.rows.nrows region (side_holds s.args.topology.rows.row_word_ptr.now s.args.topology.rows.word_indices.now s.args.topology.rows.masks.now) s.args.matrix.row_ptr.now s.args.matrix.col_idx.now

  -- all checks of the plan
  abbrev check : Check
  check =
      whole_check s.args.topology.rows.nrows s.args.topology.rows.ncols s.args.topology.rows.row_word_ptr.now s.args.topology.rows.word_indices.now s.args.topology.rows.masks.now s.args.topology.rows.structural_nnz s.args.topology.columns.nrows s.args.topology.columns.ncols s.args.topology.columns.row_word_ptr.now s.args.topology.columns.word_indices.now s.args.topology.columns.masks.now s.args.topology.columns.structural_nnz s.args.matrix.nrows s.args.matrix.ncols s.args.matrix.row_ptr.now s.args.matrix.col_idx.now s.args.matrix.values.now s.args.mask.len s.args.mask.words.now s.args.global_nodes.now s.args.local_row_ptr.now s.args.local_col_idx.now s.args.source_ptr.now s.args.source_indices.now

-- in this arm the checks accepted
module _ (c : In-Ok) where
  abbrev s : Start
  s = (goal.at.In-Ok c).Start

  accepted : check s ≡ Ok tt
  accepted = (plan-accepted (check s) s.args.topology.rows.nrows (region s) (lists s) _ (sym c.prepare_local_numeric_plan.ensures.value ∙ c.in-Ok.is)).0

  held : PlanHeld s.args.topology.rows.nrows s.args.topology.rows.row_word_ptr.now s.args.topology.rows.word_indices.now s.args.topology.rows.masks.now s.args.matrix.row_ptr.now s.args.matrix.col_idx.now s.args.mask.words.now c.prepare_local_numeric_plan.new.global_nodes c.prepare_local_numeric_plan.new.local_row_ptr c.prepare_local_numeric_plan.new.local_col_idx c.prepare_local_numeric_plan.new.source_ptr c.prepare_local_numeric_plan.new.source_indices
  held = plan-held s.args.topology.rows.nrows s.args.topology.rows.ncols s.args.topology.rows.row_word_ptr.now s.args.topology.rows.word_indices.now s.args.topology.rows.masks.now s.args.topology.rows.structural_nnz s.args.topology.columns.nrows s.args.topology.columns.ncols s.args.topology.columns.row_word_ptr.now s.args.topology.columns.word_indices.now s.args.topology.columns.masks.now s.args.topology.columns.structural_nnz s.args.matrix.nrows s.args.matrix.ncols s.args.matrix.row_ptr.now s.args.matrix.col_idx.now s.args.matrix.values.now s.args.mask.len s.args.mask.words.now s.args.global_nodes.now s.args.local_row_ptr.now s.args.local_col_idx.now s.args.source_ptr.now s.args.source_indices.now s.requires.rows s.requires.columns s.requires.mask _ _ _ _ _ accepted c.prepare_local_numeric_plan.ensures.members c.prepare_local_numeric_plan.ensures.pointers c.prepare_local_numeric_plan.ensures.columns c.prepare_local_numeric_plan.ensures.starts c.prepare_local_numeric_plan.ensures.sources

pub system_of-requires : goal.system_of-requires
system_of-requires c = (held (goal.at.system_of-requires c).In-Ok).inputs

pub repeat_plan-terms-requires : goal.repeat_plan-terms-requires
repeat_plan-terms-requires c =
    let h = held (goal.at.repeat_plan-terms-requires c).In-Ok in
    let s = (goal.at.repeat_plan-terms-requires c).Start in
    let e = c.system_of.ensures in
    let same = (plan-accepted (check s) c.args.topology.rows.nrows (region s) (lists s) _ (sym c.prepare_local_numeric_plan.ensures.value ∙ c.in-Ok.is)).1 ∙ held-terms c.args.topology.rows.nrows c.args.topology.rows.row_word_ptr.now c.args.topology.rows.word_indices.now c.args.topology.rows.masks.now c.args.matrix.row_ptr.now c.args.matrix.col_idx.now c.args.mask.words.now h.inputs in
    (rw (e.0.2, e.0.3, e.0.4, e.1, e.2, e.3, e.4) h, rw (e.1, e.2, e.3, e.4) same)
