-- `peak_job::inner::prepare` meets its contract. Assumes nothing.
use mathlib.Core.Path.{◌≡◌, sym, ap, ◌∙◌, subst}
use Rattle.std.specs.Prelude.{Ok, Err}
use Rattle.base.specs.Checks.{Check}
use mathlib.Core.List.{List}
use Prim.Native.Nat.{ℕ, ◌+◌, ◌≤◌}
use native.Mathlib.Omega.{arith}
use lib.ListN.{length, take}
use lib.Seq.{length-take-le}
use Rattle.base.specs.Checks.{◌then◌}
use Rattle.base.specs.Lists.{over}
use Rattle.base.specs.Sets.{members_below}
use Rattle.base.proofs.Checks.{both-passed}
use Rattle.base.proofs.Sets.{count-le}
use Rattle.csr32.specs.Matrix.{IsMatrix}
use Rattle.csr32.specs.Views.{check_matrix}
use Rattle.csr32.proofs.Matrix.{accepted}
use Rattle.mask.specs.Mask.{in_mask, IsMask}
use Rattle.dof_layout.specs.Views.{check_square, total}
use Rattle.graph.specs.Network.{frontier_words}
use Rattle.field_region.proofs.Accepted.{accepted-square}
use Rattle.prepared_field_region.specs.Prepared.{prepare_room, prepare_inputs, prepare_check}
use Rattle.prepared_field_region.specs.Views.{check_prepare, network, grown}
use Rattle.prepared_field_region.specs.Views as lent
use Rattle.prepared_field_region.specs.declared.PreparedFieldAwareLocalRegion.{PreparedFieldAwareLocalRegion}
use Rattle.job_text.specs.Answer.{result_lines, text_answer, text_left}
use Rattle.peak_job.specs.Answer.{text_of}
use Rattle.peak_job.specs.Steps.{Arrays}
use Rattle.peak_job.specs.Views.{lent_text}
use Rattle.peak_job.proofs.Regions.{check-is, room-enough, prepared, refused, left_is, frontier_room, pairs_fit, text-is}
use Rattle.peak_job.proofs.inner.prepare.Goals.{In-Ok, Start}
use Rattle.peak_job.proofs.inner.prepare.Goals as goal

-- the checks that can refuse
abbrev check : Start → Check
check s = check_matrix s.args.matrix then check_square s.args.layout s.args.matrix.nrows s.args.matrix.ncols

abbrev whole : Start → Check
whole s = check_prepare s.args.matrix s.args.layout s.args.seeds s.args.row_word_ptr.now s.args.row_word_indices.now s.args.row_masks.now s.args.column_word_ptr.now s.args.column_word_indices.now s.args.column_masks.now s.args.starts.now s.args.order.now s.args.region.now s.args.frontier.now s.args.scratch.now s.args.members.now s.args.local_ptr.now s.args.local_cols.now s.args.source_ptr.now s.args.sources.now

-- the lists that it is handed are arrays of the program
arrays : (s : Start) → Arrays s.args.row_word_ptr.now s.args.row_word_indices.now s.args.row_masks.now s.args.column_word_ptr.now s.args.column_word_indices.now s.args.column_masks.now s.args.starts.now s.args.order.now s.args.region.now s.args.frontier.now s.args.scratch.now s.args.members.now s.args.local_ptr.now s.args.local_cols.now s.args.source_ptr.now s.args.sources.now
arrays s =
    record {
      row_pointers = omega (arith, s.told-row_word_ptr);
      row_words = omega (arith, s.told-row_word_indices);
      row_masks = omega (arith, s.told-row_masks);
      column_pointers = omega (arith, s.told-column_word_ptr);
      column_words = omega (arith, s.told-column_word_indices);
      column_masks = omega (arith, s.told-column_masks);
      begins = omega (arith, s.told-starts);
      ordered = omega (arith, s.told-order);
      inside = omega (arith, s.told-region);
      reached = omega (arith, s.told-frontier);
      spent = omega (arith, s.told-scratch);
      members = omega (arith, s.told-members);
      local_pointers = omega (arith, s.told-local_ptr);
      local_columns = omega (arith, s.told-local_cols);
      source_pointers = omega (arith, s.told-source_ptr);
      entry_sources = omega (arith, s.told-sources);
    }

-- they are all that the call's are
both : (s : Start) → whole s ≡ check s
both s =
    let n = s.args.matrix.nrows in
    let M : Check = check_matrix s.args.matrix in
    let Q : Check = check_square s.args.layout n s.args.matrix.ncols in
    let R : ℕ → Check = λ k. prepare_room n k (length s.args.matrix.col_idx.now) (length s.args.row_word_ptr.now) (length s.args.row_word_indices.now) (length s.args.row_masks.now) (length s.args.column_word_ptr.now) (length s.args.column_word_indices.now) (length s.args.column_masks.now) (length s.args.starts.now) (length s.args.order.now) (length s.args.region.now) (length s.args.frontier.now) (length s.args.scratch.now) (length s.args.members.now) (length s.args.local_ptr.now) (length s.args.local_cols.now) (length s.args.source_ptr.now) (length s.args.sources.now) in
    let i = s.requires in
    let room : R s.args.matrix.ncols ≡ (Ok tt) = rw (i.square) (room-enough n (length s.args.matrix.col_idx.now) s.args.row_word_ptr.now s.args.row_word_indices.now s.args.row_masks.now s.args.column_word_ptr.now s.args.column_word_indices.now s.args.column_masks.now s.args.starts.now s.args.order.now s.args.region.now s.args.frontier.now s.args.scratch.now s.args.members.now s.args.local_ptr.now s.args.local_cols.now s.args.source_ptr.now s.args.sources.now i.few i.short (arrays s)) in
    ap (λ (k : ℕ). prepare_check (prepare_inputs M Q n k s.args.seeds.words.now) (R s.args.matrix.ncols)) i.alike ∙ check-is M Q (R s.args.matrix.ncols) n s.args.seeds.words.now i.mask room

-- a region that was prepared
module _ (c : In-Ok) where
  abbrev s : Start
  s = (goal.at.In-Ok c).Start

  told : (whole s ≡ Ok tt) × (c.in-Ok.p ≡ lent.prepared s.args.matrix s.args.layout s.args.seeds s.args.hops)
  told = prepared _ _ _ _ c.prepare_region.ensures.value c.in-Ok.is

  ok : check s ≡ Ok tt
  ok = sym (both s) ∙ told.0

  matrix : IsMatrix s.args.matrix.nrows s.args.matrix.nrows s.args.matrix.row_ptr.now s.args.matrix.col_idx.now
  matrix = subst (λ (k : ℕ). IsMatrix s.args.matrix.nrows k s.args.matrix.row_ptr.now s.args.matrix.col_idx.now) s.requires.square (accepted _ _ _ _ _ (both-passed _ _ ok).0).matrix

  sized : s.args.matrix.nrows ≡ total s.args.layout
  sized = (accepted-square _ _ _ _ _ _ _ (both-passed _ _ ok).1).1

  edge : c.prepare_region.new.frontier ≡ over (frontier_words (network s.args.matrix s.args.layout) s.args.seeds.words.now s.args.hops) s.args.frontier.now
  edge = left_is _ _ _ _ c.prepare_region.ensures.edge told.0

  -- its members and its pairs are few, and its lists are long enough
  inside-few : c.in-Ok.p.pattern.local_nodes ≤ 256
  inside-few =
      omega (
        arith,
        ap (λ (x : PreparedFieldAwareLocalRegion). x.pattern.local_nodes) told.1,
        count-le s.args.matrix.nrows (grown s.args.matrix s.args.layout s.args.seeds s.args.hops),
        s.requires.few,
      )

  pairs-few : c.in-Ok.p.pattern.local_nnz ≤ 1023
  pairs-few =
      omega (
        arith,
        ap (λ (x : PreparedFieldAwareLocalRegion). x.pattern.local_nnz) told.1,
        pairs_fit s.args.matrix.nrows s.args.matrix.row_ptr.now s.args.matrix.col_idx.now s.args.layout.blocks.components.now s.args.seeds.words.now s.args.hops matrix sized,
        s.requires.short,
      )

  members-long : 1024 ≤ length c.prepare_region.new.global_nodes
  members-long = omega (arith, s.told-members, c.prepare_region.auto.global_nodes)

  pointers-long : 1024 ≤ length c.prepare_region.new.local_row_ptr
  pointers-long = omega (arith, s.told-local_ptr, c.prepare_region.auto.local_row_ptr)

  columns-long : 1024 ≤ length c.prepare_region.new.local_col_idx
  columns-long = omega (arith, s.told-local_cols, c.prepare_region.auto.local_col_idx)

front-few : (n : ℕ) (l : List ℕ) → n ≤ 1024 → n ≤ length l → length (take n l) ≤ 1024
front-few n l few long = omega (arith, few, length-take-le n l long)

-- the frontier's words are a mask
pub invariant_of-reached : goal.invariant_of-reached
invariant_of-reached c =
    let o = (goal.at.invariant_of-reached c).In-Ok in
    let n = c.args.matrix.nrows in
    record { accepted = subst (λ (k : ℕ). IsMask n (take k c.prepare_region.new.frontier)) (sym c.words_for.ensures) (frontier_room n _ _ _ _ _ (matrix o) (sized o) _ c.args.frontier.now (edge o)) }

pub shared_ref_as_front-report : goal.shared_ref_as_front-report
shared_ref_as_front-report c = let o = (goal.at.shared_ref_as_front-report c).In-Ok in omega (arith, inside-few o, members-long o)

pub shared_ref_as_front-report-in-Ok : goal.shared_ref_as_front-report-in-Ok
shared_ref_as_front-report-in-Ok c = let o = (goal.at.shared_ref_as_front-report-in-Ok c).In-Ok in omega (arith, inside-few o, pointers-long o)

pub shared_ref_as_front-report-in-Ok-2 : goal.shared_ref_as_front-report-in-Ok-2
shared_ref_as_front-report-in-Ok-2 c = let o = (goal.at.shared_ref_as_front-report-in-Ok-2 c).In-Ok in omega (arith, inside-few o, pairs-few o, columns-long o)

pub report-requires : goal.report-requires
report-requires c =
    let o = (goal.at.report-requires c).In-Ok in (
      c.requires.few,
      front-few _ _ (omega (arith, inside-few o)) (omega (arith, inside-few o, members-long o)),
      front-few _ _ (omega (arith, inside-few o)) (omega (arith, inside-few o, pointers-long o)),
      front-few _ _ (omega (arith, inside-few o, pairs-few o)) (omega (arith, inside-few o, pairs-few o, columns-long o)),
    )

pub returns-in-Err : goal.returns-in-Err
returns-in-Err c =
    let s = (goal.at.returns-in-Err c).Start in
    let e : check s ≡ Err _ = sym (both s) ∙ refused _ _ _ _ c.prepare_region.ensures.value c.in-Err.is in
    let same = sym (ap (λ (x : Check). text_of x (lent_text c.args.matrix c.args.layout c.args.seeds c.args.hops)) e) in record {
      value = c.refuse.ensures.value ∙ ap (λ (x : List ℕ). text_answer x c.args.out.now) same;
      out_after = c.refuse.ensures.out_after ∙ ap (λ (x : List ℕ). text_left x c.args.out.now) same;
    }

pub returns-in-Ok : goal.returns-in-Ok
returns-in-Ok c =
    let o = (goal.at.returns-in-Ok c).In-Ok in
    let r = c.prepare_region in
    let a = told o in
    let same = text-is c.args.matrix.nrows _ _ _ _ c.args.hops (matrix o) (sized o) _ _ _
    (ap (λ (x : PreparedFieldAwareLocalRegion). x.pattern.local_nodes) a.1) (ap (λ (x : PreparedFieldAwareLocalRegion). x.pattern.local_nnz) a.1) (ap (λ (x : PreparedFieldAwareLocalRegion). x.growth.hops_completed) a.1)
    r.new.global_nodes r.new.frontier r.new.local_row_ptr r.new.local_col_idx c.args.members.now c.args.frontier.now c.args.local_ptr.now c.args.local_cols.now
    (left_is _ _ _ _ r.ensures.members a.0) (edge o) (left_is _ _ _ _ r.ensures.pointers a.0) (left_is _ _ _ _ r.ensures.columns a.0) in
    let p = c.in-Ok.p in
    let front = ap (λ (k : ℕ). result_lines (take p.pattern.local_nodes r.new.global_nodes) (members_below c.args.matrix.nrows (in_mask (take k r.new.frontier))) p.growth.hops_completed (take (p.pattern.local_nodes + 1) r.new.local_row_ptr) (take p.pattern.local_nnz r.new.local_col_idx)) c.words_for.ensures in
    let whole = front ∙ same ∙ sym (ap (λ (x : Check). text_of x (lent_text c.args.matrix c.args.layout c.args.seeds c.args.hops)) (ok o)) in record {
      value = c.report.ensures.value ∙ ap (λ (x : List ℕ). text_answer x c.args.out.now) whole;
      out_after = c.report.ensures.out_after ∙ ap (λ (x : List ℕ). text_left x c.args.out.now) whole;
    }
