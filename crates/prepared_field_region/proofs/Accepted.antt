-- What acceptance gives a prepared region: inputs of one side, and lists that reach their needed lengths. Assumes nothing.
use mathlib.Core.Path.{◌≡◌, sym, ap, ap₂, ◌∙◌, subst}
use Rattle.std.proofs.Common.{Bor}
use Rattle.std.specs.Prelude.{Ok, leb}
use Rattle.base.specs.Checks.{Check, must, ◌then◌}
use Rattle.base.specs.declared.Refusal.TheVariants.{ListTooShort}
use mathlib.Core.List.{List}
use Prim.Native.Nat.{ℕ, ◌≤◌, ◌<◌}
use borrow.Author.Tests.{leb-true, ltb-true}
use lib.Ieee.{Float}
use lib.ListN.{length}
use Rattle.base.proofs.Checks.{both-passed, passed, then-assoc}
use Rattle.csr32.specs.Matrix.{matrix_check, IsMatrix}
use Rattle.csr32.proofs.Matrix.{accepted}
use Rattle.dof_layout.specs.Layout.{total_of, IsLayout}
use Rattle.dof_layout.specs.Answers.{square_check}
use Rattle.dual_topology.proofs.Built.{build-fits}
use Rattle.growth.proofs.Lent.{masks-fit}
use Rattle.field_region.specs.Owners.{owners_check}
use Rattle.field_region.proofs.Accepted.{accepted-square}
use Rattle.field_region.proofs.Owning.{accepted-owners}
use Rattle.pattern.specs.Steps.{room_for}
use Rattle.numeric_plan.specs.Steps.{plan_room_for}
use Rattle.prepared_field_region.specs.Prepared.{local_room, prepare_room, prepare_inputs, block_owners_check}
use Rattle.csr32.specs.declared.Csr32Matrix.{Csr32Matrix}
use Rattle.mask.specs.declared.DofMask.{DofMask}
use Rattle.dof_layout.specs.declared.FieldAwareDofLayout.{FieldAwareDofLayout}
use Rattle.prepared_field_region.specs.declared.inner.Inputs.{Inputs}
use Rattle.prepared_field_region.specs.Views.{AcceptedFrom}
use Rattle.cutting.specs.Steps.{LocalFits, MasksFit}

-- the matrix is square
pub accepted-matrix : (nrows ncols : ℕ) (ptr cols : List ℕ) (values : List Float) (kinds ids fields components offsets : List ℕ) (len : ℕ) (seeds : List ℕ)
    → prepare_inputs (matrix_check nrows ncols ptr cols values) (square_check kinds ids fields components offsets nrows ncols) nrows len seeds ≡ Ok tt
    → IsMatrix nrows nrows ptr cols × (ncols ≡ nrows)
unfolding prepare_inputs
accepted-matrix nrows ncols ptr cols values kinds ids fields components offsets len seeds e =
    let a = both-passed _ _ e in
    let q = accepted-square kinds ids fields components offsets nrows ncols (both-passed _ _ a.1).0 in
    let same : ncols ≡ nrows = q.2 ∙ sym q.1 in
    (subst (λ (k : ℕ). IsMatrix nrows k ptr cols) same (accepted nrows ncols ptr cols values a.0).matrix, same)

-- what is said of accepted inputs is said of what was lent
pub as-lent : {A : Type 0} (m : Csr32Matrix) (l : FieldAwareDofLayout) (d : DofMask) (i : Inputs) → AcceptedFrom m l d i → (f : ℕ → ℕ → List ℕ → List ℕ → List ℕ → List ℕ → A)
    → f i.matrix.nrows i.matrix.ncols i.matrix.row_ptr.now i.matrix.col_idx.now i.layout.components.now i.seeds.words.now ≡ f m.nrows m.ncols m.row_ptr.now m.col_idx.now l.blocks.components.now d.words.now
as-lent m l d i e f =
    ap₂ (λ (x y : ℕ). f x y i.matrix.row_ptr.now i.matrix.col_idx.now i.layout.components.now i.seeds.words.now) e.0.0 e.0.1
    ∙ ap₂ (λ (x y : Bor (List ℕ)). f m.nrows m.ncols x.now y.now i.layout.components.now i.seeds.words.now) e.0.2 e.0.3
    ∙ ap₂ (λ (x y : Bor (List ℕ)). f m.nrows m.ncols m.row_ptr.now m.col_idx.now x.now y.now) e.1.0 e.2.1

-- the room of a plan with as many members, pairs and sources as there can be
pub plan-room : (n entries nodes pointers columns source_pointers sources : ℕ)
    → plan_room_for (record { members = n; rows = record { pairs = entries; sources = entries } }) nodes pointers columns source_pointers sources ≡ local_room n entries nodes pointers columns source_pointers sources
unfolding plan_room_for room_for local_room
plan-room n entries nodes pointers columns source_pointers sources =
    then-assoc (must (leb n nodes) ListTooShort) _ _ ∙ ap (λ (x : Check). must (leb n nodes) ListTooShort then x) (then-assoc _ _ _)

local_fits : (n entries : ℕ) (nodes ptr cols source_ptr sources : List ℕ) → local_room n entries (length nodes) (length ptr) (length cols) (length source_ptr) (length sources) ≡ Ok tt
    → LocalFits n entries nodes ptr cols source_ptr sources
unfolding local_room
local_fits n entries nodes ptr cols source_ptr sources e =
    let a = both-passed _ _ e in
    let b = both-passed _ _ a.1 in
    let d = both-passed _ _ b.1 in
    let f = both-passed _ _ d.1 in
    record {
      members = leb-true _ _ (passed _ _ a.0);
      pointers = ltb-true _ _ (passed _ _ b.0);
      columns = leb-true _ _ (passed _ _ d.0);
      source_pointers = ltb-true _ _ (passed _ _ f.0);
      entry_sources = leb-true _ _ (passed _ _ f.1);
    }

pub accepted-room : (nrows ncols entries : ℕ) (rptr ridx rmasks cptr cidx cmasks starts order region frontier scratch nodes ptr cols source_ptr sources : List ℕ)
    → prepare_room nrows ncols entries (length rptr) (length ridx) (length rmasks) (length cptr) (length cidx) (length cmasks) (length starts) (length order) (length region) (length frontier) (length scratch) (length nodes) (length ptr) (length cols) (length source_ptr) (length sources) ≡ Ok tt
    → ((nrows < length rptr) × (entries ≤ length ridx) × (entries ≤ length rmasks) × (ncols < length cptr) × (entries ≤ length cidx) × (entries ≤ length cmasks) × (ncols < length starts) × (entries ≤ length order)) × (MasksFit nrows region frontier scratch × LocalFits nrows entries nodes ptr cols source_ptr sources)
unfolding prepare_room
accepted-room nrows ncols entries rptr ridx rmasks cptr cidx cmasks starts order region frontier scratch nodes ptr cols source_ptr sources e =
    let a = both-passed _ _ e in
    let b = both-passed _ _ a.1 in
    let m = masks-fit nrows (length region) (length frontier) (length scratch) b.0 in (
      build-fits nrows ncols entries (length rptr) (length ridx) (length rmasks) (length cptr) (length cidx) (length cmasks) (length starts) (length order) a.0,
      (record { inside = m.0; edge = m.1; spent = m.2 }, local_fits nrows entries nodes ptr cols source_ptr sources b.1),
    )

-- the owners of an accepted layout's blocks
pub accepted-block-owners : (matrix square : Check) (kinds ids fields components offsets owners : List ℕ) (ranks : ℕ) (out : List ℕ)
    → block_owners_check matrix square (owners_check kinds ids fields components offsets owners ranks out) ≡ Ok tt
    → IsLayout kinds ids fields components offsets × (length owners ≡ total_of components) × (length components ≤ length out)
unfolding block_owners_check
accepted-block-owners matrix square kinds ids fields components offsets owners ranks out e =
    accepted-owners kinds ids fields components offsets owners ranks out (both-passed _ _ (both-passed _ _ e).1).1
