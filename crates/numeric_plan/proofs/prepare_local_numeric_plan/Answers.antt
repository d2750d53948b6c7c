-- `numeric_plan::prepare_local_numeric_plan` meets its contract. Assumes nothing.
use mathlib.Core.Path.{◌≡◌, refl, sym, ap, ap₂, ◌∙◌}
use Rattle.std.specs.Prelude.{Ok, Err}
use Rattle.std.proofs.Common.{Bor}
use Rattle.base.specs.declared.Refusal.{Refusal}
use Rattle.base.specs.Checks.{Check, ◌then◌}
use mathlib.Core.Bool.{Bool}
use mathlib.Core.List.{List}
use Prim.Native.Nat.{ℕ}
use Rattle.base.proofs.Checks.{handed, on-refused, kept, group-pass, group-stop}
use Rattle.mask.specs.Mask.{in_mask}
use Rattle.mask.specs.Views.{nodes}
use Rattle.csr32.specs.Matrix.{stored}
use Rattle.csr32.specs.Views.{check_matrix}
use Rattle.side.specs.Views.{holds, pairs}
use Rattle.dual_topology.specs.Views.{check_topology}
use Rattle.pattern.specs.Pattern.{region_check, nodes_left, ptr_left, columns_left}
use Rattle.pattern.specs.Views.{check_local}
use Rattle.pattern.proofs.Accepted.{lent, lent-as, local-check}
use Rattle.binding.specs.Binding.{binding_check}
use Rattle.numeric_plan.specs.Plan.{pair_entries, sides_check, plan_inputs, plan_check, plan_answer, source_ptr_left, sources_left}
use Rattle.numeric_plan.specs.Views.{lent_lists, check_plan}
use Rattle.numeric_plan.proofs.prepare_local_numeric_plan.Goals.{In_ok-matrix, In_ok-topology, After-check_sides, In_ok-check_sides, In_ok-local, Start}
use Rattle.numeric_plan.proofs.prepare_local_numeric_plan.Goals as goal

-- what is lent: the pairs of the rows side, the region's nodes, the matrix's pairs, the lists of entries
abbrev paired : Start → ℕ → ℕ → Bool
paired s = holds s.args.topology.rows

abbrev region : Start → ℕ → Bool
region s = in_mask s.args.region.words.now

abbrev entries : Start → ℕ → ℕ → Bool
entries s = stored s.args.matrix.row_ptr.now s.args.matrix.col_idx.now

abbrev lists : Start → List (List ℕ)
lists s = lent_lists s.args.topology s.args.matrix s.args.region

-- the checks, by what comes before 25, and all of them
abbrev after-inputs : Start → Check → ℕ → (ℕ → Bool) → (ℕ → ℕ → Bool) → List (List ℕ) → Check
after-inputs s inputs n p t l = plan_check inputs n p t l s.args.global_nodes.now s.args.local_row_ptr.now s.args.local_col_idx.now s.args.source_ptr.now s.args.source_indices.now

abbrev whole : Start → Check
whole s = check_plan s.args.topology s.args.matrix s.args.region s.args.global_nodes.now s.args.local_row_ptr.now s.args.local_col_idx.now s.args.source_ptr.now s.args.source_indices.now

abbrev inputs : Start → Check
inputs s = plan_inputs (check_matrix s.args.matrix) (check_topology s.args.topology) s.args.matrix.nrows s.args.matrix.ncols s.args.topology.rows.nrows s.args.topology.rows.ncols s.args.region.len s.args.region.words.now (paired s) (entries s)

-- the checks of topology and matrix, and with the region's
abbrev alike : Start → Check
alike s = check_topology s.args.topology then sides_check s.args.topology.rows.nrows s.args.topology.rows.ncols s.args.matrix.nrows s.args.matrix.ncols

abbrev regional : Start → Check
regional s = region_check (alike s) s.args.topology.rows.nrows s.args.topology.rows.ncols s.args.region.len s.args.region.words.now

-- the way out at each check before 25
module _ (s : Start) where
  stops-first : (r : Refusal) → check_matrix s.args.matrix ≡ Err r → whole s ≡ Err r
  unfolding plan_check plan_inputs
  stops-first r e = sym (group-stop _ _ _ (sym (group-stop _ _ _ e)))

  stops-regional : (r : Refusal) → check_matrix s.args.matrix ≡ Ok tt → regional s ≡ Err r → whole s ≡ Err r
  unfolding plan_check plan_inputs
  stops-regional r a e = sym (group-stop _ _ _ (sym (group-pass _ _ _ a (group-stop _ _ _ e))))

  stops-alike : (r : Refusal) → check_matrix s.args.matrix ≡ Ok tt → alike s ≡ Err r → whole s ≡ Err r
  unfolding region_check
  stops-alike r a e = stops-regional r a (sym (group-stop _ _ _ (sym (group-stop _ _ _ e))))

-- matrix and topology are accepted: whether they are alike is asked of what was accepted
module _ (c : After-check_sides) where
  whole-alike : c.check_sides.result ≡ alike (goal.at.After-check_sides c).Start
  whole-alike =
      let a = c.in_ok-topology.ensures.accepted in
      let b = c.in_ok-matrix.ensures.accepted.1 in
      c.check_sides.ensures.value
      ∙ ap₂ (λ (x y : ℕ). sides_check x y c.in_ok-matrix.matrix.nrows c.in_ok-matrix.matrix.ncols) a.2.0.0 a.2.0.1
      ∙ ap₂ (λ (x y : ℕ). sides_check c.args.topology.rows.nrows c.args.topology.rows.ncols x y) b.0 b.1
      ∙ group-pass _ _ _ a.0 refl

module _ (c : In_ok-check_sides) where
  whole-region : check_local c.in_ok-topology.topology.rows c.args.region ≡ regional (goal.at.In_ok-check_sides c).Start
  whole-region =
      let a = c.in_ok-topology.ensures.accepted in
      local-check _ _ _ _ _ _ _ (sym (whole-alike (goal.at.In_ok-check_sides c).After-check_sides) ∙ c.in_ok-check_sides.was) a.2.0.0 a.2.0.1

-- all but the rows' binding is accepted
module _ (c : In_ok-local) where
  abbrev s : Start
  s = (goal.at.In_ok-local c).Start

  as-lent : {A : Type 0} (f : ℕ → (ℕ → Bool) → (ℕ → ℕ → Bool) → List ℕ → List ℕ → A)
      → f c.in_ok-local.local.region.len (nodes c.in_ok-local.local.region) (pairs c.in_ok-local.local.rows) c.in_ok-matrix.matrix.row_ptr.now c.in_ok-matrix.matrix.col_idx.now
      ≡ f s.args.topology.rows.nrows (region s) (paired s) s.args.matrix.row_ptr.now s.args.matrix.col_idx.now
  as-lent f =
      let b = c.in_ok-matrix.ensures.accepted.1 in
      lent-as s.args.topology.rows s.args.region c.in_ok-local.local (lent s.args.topology.rows s.args.region c.in_ok-topology.topology.rows c.in_ok-local.local c.in_ok-topology.ensures.accepted.2.0 c.in_ok-local.ensures.accepted.2) (λ n p t. f n p t c.in_ok-matrix.matrix.row_ptr.now c.in_ok-matrix.matrix.col_idx.now)
      ∙ ap₂ (λ (x y : Bor (List ℕ)). f s.args.topology.rows.nrows (region s) (paired s) x.now y.now) b.2 b.3

  bound : binding_check s.args.topology.rows.nrows (region s) (paired s) (entries s) ≡ inputs s
  unfolding plan_inputs
  bound =
      group-pass _ _ _ c.in_ok-matrix.ensures.accepted.0
      (group-pass _ _ _ (sym (whole-region (goal.at.In_ok-local c).In_ok-check_sides) ∙ c.in_ok-local.ensures.accepted.0) refl)

pub returns-in_err-matrix : goal.returns-in_err-matrix
returns-in_err-matrix c =
    let e = stops-first (goal.at.returns-in_err-matrix c).Start _ c.in_err-matrix.ensures.refused in record {
      value = handed _ _ c.from_residual.ensures.1 ∙ on-refused _ _ _ Err e;
      members = kept _ _ _ _ e;
      pointers = kept _ _ _ _ e;
      columns = kept _ _ _ _ e;
      starts = kept _ _ _ _ e;
      sources = kept _ _ _ _ e;
    }

pub returns-in_err-topology : goal.returns-in_err-topology
returns-in_err-topology c =
    let e = stops-alike (goal.at.returns-in_err-topology c).Start _ c.in_ok-matrix.ensures.accepted.0 (sym (group-stop _ _ _ c.in_err-topology.ensures.refused)) in record {
      value = handed _ _ c.from_residual-in_err-topology.ensures.1 ∙ on-refused _ _ _ Err e;
      members = kept _ _ _ _ e;
      pointers = kept _ _ _ _ e;
      columns = kept _ _ _ _ e;
      starts = kept _ _ _ _ e;
      sources = kept _ _ _ _ e;
    }

pub returns-in_err-check_sides : goal.returns-in_err-check_sides
returns-in_err-check_sides c =
    let e = stops-alike (goal.at.returns-in_err-check_sides c).Start _ c.in_ok-matrix.ensures.accepted.0 (sym (whole-alike (goal.at.returns-in_err-check_sides c).After-check_sides) ∙ c.in_err-check_sides.was) in record {
      value = handed _ _ c.from_residual-in_err-check_sides.ensures.1 ∙ on-refused _ _ _ Err e;
      members = kept _ _ _ _ e;
      pointers = kept _ _ _ _ e;
      columns = kept _ _ _ _ e;
      starts = kept _ _ _ _ e;
      sources = kept _ _ _ _ e;
    }

pub returns-in_err-local : goal.returns-in_err-local
returns-in_err-local c =
    let e = stops-regional (goal.at.returns-in_err-local c).Start _ c.in_ok-matrix.ensures.accepted.0 (sym (whole-region (goal.at.returns-in_err-local c).In_ok-check_sides) ∙ c.in_err-local.ensures.refused) in record {
      value = handed _ _ c.from_residual-in_err-local.ensures.1 ∙ on-refused _ _ _ Err e;
      members = kept _ _ _ _ e;
      pointers = kept _ _ _ _ e;
      columns = kept _ _ _ _ e;
      starts = kept _ _ _ _ e;
      sources = kept _ _ _ _ e;
    }

pub returns : goal.returns
returns c =
    let k = (goal.at.returns c).In_ok-local in
    let t = (goal.at.returns c).Start in
    let n = c.args.topology.rows.nrows in
    let u = c.prepare.ensures in
    let e = bound k in record {
      value =
          u.value
          ∙ as-lent k (λ n p w r i. plan_answer (after-inputs t (binding_check n p w (stored r i)) n p w (pair_entries n p w r i)) n p (pair_entries n p w r i))
          ∙ ap (λ (x : Check). plan_answer (after-inputs t x n (region t) (paired t) (lists t)) n (region t) (lists t)) e;
      members =
          u.members
          ∙ as-lent k (λ n p w r i. nodes_left (after-inputs t (binding_check n p w (stored r i)) n p w (pair_entries n p w r i)) n p c.args.global_nodes.now)
          ∙ ap (λ (x : Check). nodes_left (after-inputs t x n (region t) (paired t) (lists t)) n (region t) c.args.global_nodes.now) e;
      pointers =
          u.pointers
          ∙ as-lent k (λ n p w r i. ptr_left (after-inputs t (binding_check n p w (stored r i)) n p w (pair_entries n p w r i)) n p w c.args.local_row_ptr.now)
          ∙ ap (λ (x : Check). ptr_left (after-inputs t x n (region t) (paired t) (lists t)) n (region t) (paired t) c.args.local_row_ptr.now) e;
      columns =
          u.columns
          ∙ as-lent k (λ n p w r i. columns_left (after-inputs t (binding_check n p w (stored r i)) n p w (pair_entries n p w r i)) n p w c.args.local_col_idx.now)
          ∙ ap (λ (x : Check). columns_left (after-inputs t x n (region t) (paired t) (lists t)) n (region t) (paired t) c.args.local_col_idx.now) e;
      starts =
          u.starts
          ∙ as-lent k (λ n p w r i. source_ptr_left (after-inputs t (binding_check n p w (stored r i)) n p w (pair_entries n p w r i)) (pair_entries n p w r i) c.args.source_ptr.now)
          ∙ ap (λ (x : Check). source_ptr_left (after-inputs t x n (region t) (paired t) (lists t)) (lists t) c.args.source_ptr.now) e;
      sources =
          u.entries
          ∙ as-lent k (λ n p w r i. sources_left (after-inputs t (binding_check n p w (stored r i)) n p w (pair_entries n p w r i)) (pair_entries n p w r i) c.args.source_indices.now)
          ∙ ap (λ (x : Check). sources_left (after-inputs t x n (region t) (paired t) (lists t)) (lists t) c.args.source_indices.now) e;
    }
