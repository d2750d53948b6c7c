-- What acceptance gives a plan, and its statistics and its room by counts. Assumes nothing.
use mathlib.Core.Path.{◌≡◌, sym, ◌∙◌, subst}
use Rattle.std.specs.Prelude.{Ok}
use mathlib.Core.List.{List}
use Prim.Native.Nat.{ℕ, ◌^◌, ◌<◌}
use borrow.Author.Tests.{eqb-true}
use lib.Ieee.{Float}
use lib.ListN.{get_or}
use Rattle.base.specs.Checks.{◌then◌}
use Rattle.base.proofs.Checks.{both-passed, passed}
use Rattle.mask.specs.Mask.{in_mask, IsMask}
use Rattle.mask.proofs.Masks.{accepted-length}
use Rattle.csr32.specs.Matrix.{matrix_check, stored, IsMatrix, IsValues}
use Rattle.csr32.proofs.Matrix.{accepted}
use Rattle.side.specs.Side.{side_holds}
use Rattle.dual_topology.specs.Check.{topology_check, IsTopology}
use Rattle.dual_topology.proofs.Accepted.{accepted-topology}
use Rattle.pattern.specs.Pattern.{region_check}
use Rattle.binding.specs.Binding.{binding_check}
use Rattle.numeric_plan.specs.Plan.{sides_check, plan_inputs}

-- the matrix, the topology and the mask have one side
pub record Region (rows cols nrows : ℕ) (ptr idx masks ptr2 idx2 masks2 words : List ℕ) : Type 0 where
  pub as_rows : nrows ≡ rows
  pub as_cols : nrows ≡ cols
  pub topology : IsTopology nrows nrows ptr idx masks ptr2 idx2 masks2
  pub mask : IsMask nrows words

pub accepted-region : (rows cols nrows ncols : ℕ) (ptr idx masks : List ℕ) (pairs nrows2 ncols2 : ℕ) (ptr2 idx2 masks2 : List ℕ) (pairs2 len : ℕ) (words : List ℕ)
    → ((k : ℕ) → get_or masks k 0 < 2 ^ 64) → ((k : ℕ) → get_or masks2 k 0 < 2 ^ 64) → ((k : ℕ) → get_or words k 0 < 2 ^ 64)
    → region_check (topology_check nrows ncols ptr idx masks pairs nrows2 ncols2 ptr2 idx2 masks2 pairs2 then sides_check nrows ncols rows cols) nrows ncols len words ≡ Ok tt
    → Region rows cols nrows ptr idx masks ptr2 idx2 masks2 words
unfolding region_check sides_check
accepted-region rows cols nrows ncols ptr idx masks pairs nrows2 ncols2 ptr2 idx2 masks2 pairs2 len words fits fits2 fits3 e =
    let a = both-passed _ _ e in
    let f = both-passed _ _ a.0 in
    let b = both-passed _ _ f.0 in
    let d = both-passed _ _ b.1 in
    let t = accepted-topology nrows ncols ptr idx masks pairs nrows2 ncols2 ptr2 idx2 masks2 pairs2 fits fits2 b.0 in
    let square : nrows ≡ ncols = eqb-true _ _ (passed _ _ f.1) in
    record {
      as_rows = eqb-true _ _ (passed _ _ d.0);
      as_cols = square ∙ eqb-true _ _ (passed _ _ d.1);
      topology = subst (λ (n : ℕ). IsTopology nrows n ptr idx masks ptr2 idx2 masks2) (sym square) t.topology;
      mask = (accepted-length nrows len words t.topology.rows.shape.few_rows fits3 a.1).1;
    }

pub record Accepts (n : ℕ) (ptr idx masks ptr2 idx2 masks2 words row_ptr col-idx : List ℕ) (values : List Float) : Type 0 where
  pub matrix : IsMatrix n n row_ptr col-idx
  pub entries : IsValues col-idx values
  pub topology : IsTopology n n ptr idx masks ptr2 idx2 masks2
  pub mask : IsMask n words
  pub binds : binding_check n (in_mask words) (side_holds ptr idx masks) (stored row_ptr col-idx) ≡ Ok tt

-- the matrix has the region's side
pub square-matrix : (rows cols n : ℕ) (row_ptr col-idx : List ℕ) → n ≡ rows → n ≡ cols → IsMatrix rows cols row_ptr col-idx → IsMatrix n n row_ptr col-idx
square-matrix rows cols n row_ptr col-idx a b m =
    subst (λ (k : ℕ). IsMatrix n k row_ptr col-idx) (sym b) (subst (λ (k : ℕ). IsMatrix k cols row_ptr col-idx) (sym a) m)

pub accepted-inputs : (nrows ncols : ℕ) (ptr idx masks : List ℕ) (pairs nrows2 ncols2 : ℕ) (ptr2 idx2 masks2 : List ℕ) (pairs2 rows cols : ℕ) (row_ptr col-idx : List ℕ) (values : List Float) (len : ℕ) (words : List ℕ)
    → ((k : ℕ) → get_or masks k 0 < 2 ^ 64) → ((k : ℕ) → get_or masks2 k 0 < 2 ^ 64) → ((k : ℕ) → get_or words k 0 < 2 ^ 64)
    → plan_inputs (matrix_check rows cols row_ptr col-idx values) (topology_check nrows ncols ptr idx masks pairs nrows2 ncols2 ptr2 idx2 masks2 pairs2) rows cols nrows ncols len words (side_holds ptr idx masks) (stored row_ptr col-idx) ≡ Ok tt
    → Accepts nrows ptr idx masks ptr2 idx2 masks2 words row_ptr col-idx values
unfolding plan_inputs
accepted-inputs nrows ncols ptr idx masks pairs nrows2 ncols2 ptr2 idx2 masks2 pairs2 rows cols row_ptr col-idx values len words fits fits2 fits3 e =
    let a = both-passed _ _ e in
    let b = both-passed _ _ a.1 in
    let m = accepted rows cols row_ptr col-idx values a.0 in
    let r = accepted-region rows cols nrows ncols ptr idx masks pairs nrows2 ncols2 ptr2 idx2 masks2 pairs2 len words fits fits2 fits3 b.0 in
    record {
      matrix = square-matrix rows cols nrows row_ptr col-idx r.as_rows r.as_cols m.matrix;
      entries = m.entries;
      topology = r.topology;
      mask = r.mask;
      binds = b.1;
    }
