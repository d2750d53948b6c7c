-- `prepared_field_region::prepare_region` meets its contract. Assumes nothing.
use mathlib.Core.Path.{◌≡◌, sym, ap, ◌∙◌}
use Rattle.std.specs.Prelude.{Ok, Err}
use mathlib.Core.List.{List}
use Prim.Native.Nat.{ℕ, ◌+◌}
use lib.ListN.{length}
use Rattle.base.specs.Checks.{Check}
use Rattle.base.proofs.Checks.{handed, on-accepted, on-refused, kept, group-pass, group-stop}
use Rattle.std.specs.Prelude.{replicate}
use Rattle.base.specs.Lists.{over, over_with_zeros}
use Rattle.base.specs.Sets.{members_below}
use Rattle.csr32.specs.Matrix.{stored}
use Rattle.mask.specs.Mask.{words_needed}
use Rattle.dof_layout.specs.Layout.{total_of}
use Rattle.side.specs.Side.{flip, side_ptr, side_words, side_masks}
use Rattle.graph.specs.Network.{region_words, frontier_words}
use Rattle.pattern.specs.Pattern.{pattern_ptr, pattern_columns}
use Rattle.gather.specs.Plan.{plan_sources, plan_ptr}
use Rattle.cutting.specs.Cut.{network_of, region_of, lists_of}
use Rattle.prepared_field_region.specs.Prepared.{prepare_room, prepare_check, prepared_of}
use Rattle.prepared_field_region.specs.Views.{check_lent, check_prepare}
use Rattle.prepared_field_region.proofs.Accepted.{accepted-room, as-lent}
use Rattle.prepared_field_region.proofs.prepare_region.Goals.{In_ok-inputs, After-check_room, Start}
use Rattle.prepared_field_region.proofs.prepare_region.Goals as goal

-- the checks, and all but 25
abbrev inputs : Start → Check
inputs s = check_lent s.args.matrix s.args.layout s.args.seeds

abbrev room : Start → Check
room s = prepare_room s.args.matrix.nrows s.args.matrix.ncols (length s.args.matrix.col_idx.now) (length s.args.row_word_ptr.now) (length s.args.row_word_indices.now) (length s.args.row_masks.now) (length s.args.column_word_ptr.now) (length s.args.column_word_indices.now) (length s.args.column_masks.now) (length s.args.starts.now) (length s.args.order.now) (length s.args.region.now) (length s.args.frontier.now) (length s.args.scratch.now) (length s.args.global_nodes.now) (length s.args.local_row_ptr.now) (length s.args.local_col_idx.now) (length s.args.source_ptr.now) (length s.args.source_indices.now)

abbrev whole : Start → Check
whole s = check_prepare s.args.matrix s.args.layout s.args.seeds s.args.row_word_ptr.now s.args.row_word_indices.now s.args.row_masks.now s.args.column_word_ptr.now s.args.column_word_indices.now s.args.column_masks.now s.args.starts.now s.args.order.now s.args.region.now s.args.frontier.now s.args.scratch.now s.args.global_nodes.now s.args.local_row_ptr.now s.args.local_col_idx.now s.args.source_ptr.now s.args.source_indices.now

-- where the inputs are accepted, what is said of them is said of what was lent
module _ (c : In_ok-inputs) where
  abbrev s : Start
  s = (goal.at.In_ok-inputs c).Start

  same : {A : Type 0} (f : ℕ → ℕ → List ℕ → List ℕ → List ℕ → List ℕ → A)
      → f c.in_ok-inputs.inputs.matrix.nrows c.in_ok-inputs.inputs.matrix.ncols c.in_ok-inputs.inputs.matrix.row_ptr.now c.in_ok-inputs.inputs.matrix.col_idx.now c.in_ok-inputs.inputs.layout.components.now c.in_ok-inputs.inputs.seeds.words.now
      ≡ f s.args.matrix.nrows s.args.matrix.ncols s.args.matrix.row_ptr.now s.args.matrix.col_idx.now s.args.layout.blocks.components.now s.args.seeds.words.now
  same f = as-lent s.args.matrix s.args.layout s.args.seeds c.in_ok-inputs.inputs c.in_ok-inputs.ensures.accepted.1 f

-- and the lists' lengths decide
module _ (c : After-check_room) where
  abbrev s2 : Start
  s2 = (goal.at.After-check_room c).Start

  remaining : c.check_room.result ≡ whole s2
  unfolding prepare_check
  remaining =
      group-pass _ _ _ c.in_ok-inputs.ensures.accepted.0
      (c.check_room.ensures ∙ same (goal.at.After-check_room c).In_ok-inputs (λ r q p k x h. prepare_room r q (length k) (length c.args.row_word_ptr.now) (length c.args.row_word_indices.now) (length c.args.row_masks.now) (length c.args.column_word_ptr.now) (length c.args.column_word_indices.now) (length c.args.column_masks.now) (length c.args.starts.now) (length c.args.order.now) (length c.args.region.now) (length c.args.frontier.now) (length c.args.scratch.now) (length c.args.global_nodes.now) (length c.args.local_row_ptr.now) (length c.args.local_col_idx.now) (length c.args.source_ptr.now) (length c.args.source_indices.now)))

pub prepare-requires : goal.prepare-requires
prepare-requires c =
    let i = c.in_ok-inputs.inputs in
    let p = accepted-room i.matrix.nrows i.matrix.ncols (length i.matrix.col_idx.now) c.args.row_word_ptr.now c.args.row_word_indices.now c.args.row_masks.now c.args.column_word_ptr.now c.args.column_word_indices.now c.args.column_masks.now c.args.starts.now c.args.order.now c.args.region.now c.args.frontier.now c.args.scratch.now c.args.global_nodes.now c.args.local_row_ptr.now c.args.local_col_idx.now c.args.source_ptr.now c.args.source_indices.now (sym c.check_room.ensures ∙ c.in_ok-check_room.was) in record {
      building = p.0;
      room = p.1;
    }

pub returns-in_err-inputs : goal.returns-in_err-inputs
unfolding prepare_check
returns-in_err-inputs c =
    let e : whole (goal.at.returns-in_err-inputs c).Start ≡ Err _ = sym (group-stop _ (room (goal.at.returns-in_err-inputs c).Start) _ c.in_err-inputs.ensures.refused) in record {
      value = handed _ _ c.from_residual.ensures.1 ∙ on-refused _ _ _ Err e;
      row_pointers = kept _ _ _ _ e;
      row_words = kept _ _ _ _ e;
      row_masked = kept _ _ _ _ e;
      column_pointers = kept _ _ _ _ e;
      column_words = kept _ _ _ _ e;
      column_masked = kept _ _ _ _ e;
      scratch_starts = kept _ _ _ _ e;
      scratch_order = kept _ _ _ _ e;
      inside = kept _ _ _ _ e;
      edge = kept _ _ _ _ e;
      spent = kept _ _ _ _ e;
      members = kept _ _ _ _ e;
      pointers = kept _ _ _ _ e;
      columns = kept _ _ _ _ e;
      source_pointers = kept _ _ _ _ e;
      sources = kept _ _ _ _ e;
    }

pub returns-in_err-check_room : goal.returns-in_err-check_room
returns-in_err-check_room c =
    let e : whole (goal.at.returns-in_err-check_room c).Start ≡ Err _ = sym (remaining (goal.at.returns-in_err-check_room c).After-check_room) ∙ c.in_err-check_room.was in record {
      value = handed _ _ c.from_residual-in_err-check_room.ensures.1 ∙ on-refused _ _ _ Err e;
      row_pointers = kept _ _ _ _ e;
      row_words = kept _ _ _ _ e;
      row_masked = kept _ _ _ _ e;
      column_pointers = kept _ _ _ _ e;
      column_words = kept _ _ _ _ e;
      column_masked = kept _ _ _ _ e;
      scratch_starts = kept _ _ _ _ e;
      scratch_order = kept _ _ _ _ e;
      inside = kept _ _ _ _ e;
      edge = kept _ _ _ _ e;
      spent = kept _ _ _ _ e;
      members = kept _ _ _ _ e;
      pointers = kept _ _ _ _ e;
      columns = kept _ _ _ _ e;
      source_pointers = kept _ _ _ _ e;
      sources = kept _ _ _ _ e;
    }

pub returns : goal.returns
returns c =
    let e : whole (goal.at.returns c).Start ≡ Ok tt = sym (remaining (goal.at.returns c).After-check_room) ∙ c.in_ok-check_room.was in
    let at = (goal.at.returns c).In_ok-inputs in
    let t = c.args in
    let w = c.prepare.ensures in record {
      value = on-accepted _ _ _ _ e (ap Ok (w.value ∙ same at (λ r q p k x h. prepared_of r q p k x h t.hops)));
      row_pointers = on-accepted _ _ _ _ e (w.row_pointers ∙ same at (λ r q p k x h. over (side_ptr r q (stored p k)) t.row_word_ptr.now));
      row_words = on-accepted _ _ _ _ e (w.row_words ∙ same at (λ r q p k x h. over_with_zeros (side_words r q (stored p k)) (length k) t.row_word_indices.now));
      row_masked = on-accepted _ _ _ _ e (w.row_masked ∙ same at (λ r q p k x h. over_with_zeros (side_masks r q (stored p k)) (length k) t.row_masks.now));
      column_pointers = on-accepted _ _ _ _ e (w.column_pointers ∙ same at (λ r q p k x h. over (side_ptr q r (flip (stored p k))) t.column_word_ptr.now));
      column_words = on-accepted _ _ _ _ e (w.column_words ∙ same at (λ r q p k x h. over_with_zeros (side_words q r (flip (stored p k))) (length k) t.column_word_indices.now));
      column_masked = on-accepted _ _ _ _ e (w.column_masked ∙ same at (λ r q p k x h. over_with_zeros (side_masks q r (flip (stored p k))) (length k) t.column_masks.now));
      scratch_starts = on-accepted _ _ _ _ e (w.scratch_starts ∙ same at (λ r q p k x h. over (replicate (q + 1) 0) t.starts.now));
      scratch_order = on-accepted _ _ _ _ e (w.scratch_order ∙ same at (λ r q p k x h. over (replicate (length k) 0) t.order.now));
      inside = on-accepted _ _ _ _ e (w.inside ∙ same at (λ r q p k x h. over (region_words (network_of p k x) h t.hops) t.region.now));
      edge = on-accepted _ _ _ _ e (w.edge ∙ same at (λ r q p k x h. over (frontier_words (network_of p k x) h t.hops) t.frontier.now));
      spent = on-accepted _ _ _ _ e (w.spent ∙ same at (λ r q p k x h. over (replicate (words_needed (total_of x)) 0) t.scratch.now));
      members = on-accepted _ _ _ _ e (w.members ∙ same at (λ r q p k x h. over_with_zeros (members_below r (region_of p k x h t.hops)) r t.global_nodes.now));
      pointers = on-accepted _ _ _ _ e (w.pointers ∙ same at (λ r q p k x h. over_with_zeros (pattern_ptr r (region_of p k x h t.hops) (stored p k)) (r + 1) t.local_row_ptr.now));
      columns = on-accepted _ _ _ _ e (w.columns ∙ same at (λ r q p k x h. over_with_zeros (pattern_columns r (region_of p k x h t.hops) (stored p k)) (length k) t.local_col_idx.now));
      source_pointers = on-accepted _ _ _ _ e (w.source_pointers ∙ same at (λ r q p k x h. over_with_zeros (plan_ptr (lists_of r (region_of p k x h t.hops) p k)) ((length k) + 1) t.source_ptr.now));
      sources = on-accepted _ _ _ _ e (w.sources ∙ same at (λ r q p k x h. over_with_zeros (plan_sources (lists_of r (region_of p k x h t.hops) p k)) (length k) t.source_indices.now));
    }
