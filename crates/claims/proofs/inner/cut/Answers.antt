-- `claims::inner::cut` meets its contract. Assumes nothing.
use mathlib.Core.Path.{sym, ap, ◌∙◌}
use Prim.Native.Nat.{◌+◌, ◌≤◌}
use lib.ListN.{length}
use lib.Seq.{length-take-le}
use Rattle.claims.specs.Demand.{CutSystem, Planned}
use Rattle.claims.specs.Views.{cut_system}
use Rattle.claims.proofs.Cutting.{same-plan, cut-refused, values-kept, pointers_room, sources_room, cut-prepared, values-cut}
use Rattle.claims.proofs.inner.cut.Goals.{In-Ok, Start}
use Rattle.claims.proofs.inner.cut.Goals as goal

-- the matrix, its topology and the region
abbrev system : Start → CutSystem
system s = cut_system s.args.topology s.args.matrix s.args.region.len s.args.region.words.now

-- the lists of the plan are as long as its counts say
module _ (c : In-Ok) where
  pointers : c.in-Ok.s.local_nnz + 1 ≤ length c.prepare_local_numeric_plan-plan.new.source_ptr
  pointers =
      let x = rw c.squared-square.ensures at c.extract_local_submatrix_pattern-extracted.ensures in
      let u = rw c.squared-square.ensures at c.prepare_local_numeric_plan-plan.ensures in
      pointers_room (system (goal.at.In-Ok c).Start) c.args.region.words.now c.args.global_nodes.now c.args.local_row_ptr.now c.args.local_col_idx.now c.args.source_ptr.now c.args.source_indices.now _ _ _ x.members x.pointers x.columns _ _ x.value u.value _ c.in-Ok.is _ _ u.starts u.sources

  terms : c.in-Ok.s.source_terms ≤ length c.prepare_local_numeric_plan-plan.new.source_indices
  terms =
      let x = rw c.squared-square.ensures at c.extract_local_submatrix_pattern-extracted.ensures in
      let u = rw c.squared-square.ensures at c.prepare_local_numeric_plan-plan.ensures in
      sources_room (system (goal.at.In-Ok c).Start) c.args.region.words.now c.args.global_nodes.now c.args.local_row_ptr.now c.args.local_col_idx.now c.args.source_ptr.now c.args.source_indices.now _ _ _ x.members x.pointers x.columns _ _ x.value u.value _ c.in-Ok.is _ _ u.starts u.sources

pub slice_bounds-gather_values-end : goal.slice_bounds-gather_values-end
slice_bounds-gather_values-end c = pointers (goal.at.slice_bounds-gather_values-end c).In-Ok

pub slice_bounds-gather_values-end-in-Ok : goal.slice_bounds-gather_values-end-in-Ok
slice_bounds-gather_values-end-in-Ok c = sym (length-take-le _ _ (pointers (goal.at.slice_bounds-gather_values-end-in-Ok c).In-Ok))

pub slice_bounds-gather_values-end-in-Ok-2 : goal.slice_bounds-gather_values-end-in-Ok-2
slice_bounds-gather_values-end-in-Ok-2 c = terms (goal.at.slice_bounds-gather_values-end-in-Ok-2 c).In-Ok

pub slice_bounds-gather_values-end-in-Ok-3 : goal.slice_bounds-gather_values-end-in-Ok-3
slice_bounds-gather_values-end-in-Ok-3 c = sym (length-take-le _ _ (terms (goal.at.slice_bounds-gather_values-end-in-Ok-3 c).In-Ok))

pub returns-in-Err : goal.returns-in-Err
returns-in-Err c =
    let x = rw c.squared-square.ensures at c.extract_local_submatrix_pattern-extracted.ensures in
    let u = rw c.squared-square.ensures at c.prepare_local_numeric_plan-plan.ensures in
    let same = same-plan (system (goal.at.returns-in-Err c).Start) c.args.region.words.now c.args.global_nodes.now c.args.local_row_ptr.now c.args.local_col_idx.now c.args.source_ptr.now c.args.source_indices.now _ _ _ x.members x.pointers x.columns in record {
      value = cut-refused (system (goal.at.returns-in-Err c).Start) c.args.region.words.now c.args.global_nodes.now c.args.local_row_ptr.now c.args.local_col_idx.now c.args.source_ptr.now c.args.source_indices.now _ _ _ x.members x.pointers x.columns _ _ x.value u.value _ c.in-Err.is c.args.new_values.now c.args.out.now;
      members = u.members ∙ ap (λ (t : Planned). t.nodes) same;
      pointers = u.pointers ∙ ap (λ (t : Planned). t.ptr) same;
      columns = u.columns ∙ ap (λ (t : Planned). t.columns) same;
      starts = u.starts ∙ ap (λ (t : Planned). t.source_ptr) same;
      sources = u.sources ∙ ap (λ (t : Planned). t.sources) same;
      gathered = values-kept (system (goal.at.returns-in-Err c).Start) c.args.region.words.now c.args.global_nodes.now c.args.local_row_ptr.now c.args.local_col_idx.now c.args.source_ptr.now c.args.source_indices.now _ _ _ x.members x.pointers x.columns _ _ x.value u.value _ c.in-Err.is c.args.new_values.now c.args.out.now;
    }

pub shape_of-global_nodes-in-Ok : goal.shape_of-global_nodes-in-Ok
shape_of-global_nodes-in-Ok c = c.prepare_local_numeric_plan-plan.auto.global_nodes ∙ c.extract_local_submatrix_pattern-extracted.auto.global_nodes

pub shape_of-local_row_ptr-in-Ok : goal.shape_of-local_row_ptr-in-Ok
shape_of-local_row_ptr-in-Ok c = c.prepare_local_numeric_plan-plan.auto.local_row_ptr ∙ c.extract_local_submatrix_pattern-extracted.auto.row_ptr

pub returns-in-Ok : goal.returns-in-Ok
returns-in-Ok c =
    let x = rw c.squared-square.ensures at c.extract_local_submatrix_pattern-extracted.ensures in
    let u = rw c.squared-square.ensures at c.prepare_local_numeric_plan-plan.ensures in
    let same = same-plan (system (goal.at.returns-in-Ok c).Start) c.args.region.words.now c.args.global_nodes.now c.args.local_row_ptr.now c.args.local_col_idx.now c.args.source_ptr.now c.args.source_indices.now _ _ _ x.members x.pointers x.columns in record {
      value = cut-prepared (system (goal.at.returns-in-Ok c).Start) c.args.region.words.now c.args.global_nodes.now c.args.local_row_ptr.now c.args.local_col_idx.now c.args.source_ptr.now c.args.source_indices.now _ _ _ x.members x.pointers x.columns _ _ x.value u.value _ c.in-Ok.is _ _ u.starts u.sources c.args.new_values.now c.args.out.now _ c.gather_values-gathered.ensures.value;
      members = u.members ∙ ap (λ (t : Planned). t.nodes) same;
      pointers = u.pointers ∙ ap (λ (t : Planned). t.ptr) same;
      columns = u.columns ∙ ap (λ (t : Planned). t.columns) same;
      starts = u.starts ∙ ap (λ (t : Planned). t.source_ptr) same;
      sources = u.sources ∙ ap (λ (t : Planned). t.sources) same;
      gathered = values-cut (system (goal.at.returns-in-Ok c).Start) c.args.region.words.now c.args.global_nodes.now c.args.local_row_ptr.now c.args.local_col_idx.now c.args.source_ptr.now c.args.source_indices.now _ _ _ x.members x.pointers x.columns _ _ x.value u.value _ c.in-Ok.is _ _ u.starts u.sources c.args.new_values.now c.args.out.now _ c.gather_values-gathered.ensures.out_after;
    }
