-- A gather after a prepared region: the parts of its two lists that the answer's counts give are the plan's own pointers and sources, so that
-- gather's laws speak of them, and new values of the same structure are refused for themselves alone. Assumes nothing.
use mathlib.Core.Path.{◌≡◌, refl, sym, ap, ap₂, ◌∙◌}
use Rattle.std.specs.Prelude.{Ok}
use Rattle.base.specs.Checks.{Check}
use Rattle.base.specs.declared.Refusal.TheVariants.{OverLimit, NotFinite, ListTooShort}
use mathlib.Core.Bool.{Bool, true}
use mathlib.Core.List.{List}
use Prim.Native.Nat.{ℕ, ◌+◌, ◌≤◌}
use native.Mathlib.Omega.{arith}
use borrow.Author.Tests.{le-leb, eq-eqb}
use lib.Dec.{leb}
use lib.Ieee.{Float, nan}
use lib.ListN.{length, take}
use Rattle.base.specs.Checks.{must, must_be, ◌then◌, entry_limit, leaves}
use Rattle.base.specs.Lists.{every, over_with_zeros}
use Rattle.base.proofs.Checks.{both-passed, pass, length-pass, last-pass}
use Rattle.base.proofs.Lists.{zeros-own, every-all}
use Rattle.csr32.specs.Matrix.{matrix_check, finite, stored, IsMatrix, IsValues}
use Rattle.csr32.proofs.Matrix.{accepted}
use Rattle.dof_layout.specs.Answers.{square_check}
use Rattle.gather.specs.Gather.{gather_check}
use Rattle.gather.specs.Plan.{plan_sources, plan_ptr}
use Rattle.gather.proofs.Plans.{pointers-length}
use Rattle.numeric_plan.proofs.Plans.{plan-gathers}
use Rattle.numeric_plan.specs.declared.AbtmLocalNumericPlanStats.{AbtmLocalNumericPlanStats}
use Rattle.cutting.specs.Cut.{region_of, lists_of}
use Rattle.prepared_field_region.specs.Prepared.{prepare_inputs, prepare_check, prepared_of, prepared_source_ptr, prepared_sources}
use Rattle.prepared_field_region.proofs.Accepted.{accepted-matrix}
use Rattle.cutting.proofs.Local.{binds}

module _ (nrows ncols : ℕ) (ptr cols : List ℕ) (values : List Float) (kinds ids fields components offsets : List ℕ) (len : ℕ) (seeds : List ℕ) (h : ℕ) (room : Check) where
  -- a call's checks, its plan's statistics, and the entries of each pair
  abbrev pub check : Check
  check = prepare_check (prepare_inputs (matrix_check nrows ncols ptr cols values) (square_check kinds ids fields components offsets nrows ncols) nrows len seeds) room

  abbrev pub stats : AbtmLocalNumericPlanStats
  stats = (prepared_of nrows ncols ptr cols components seeds h).numeric_plan

  abbrev pub region : ℕ → Bool
  region = region_of ptr cols components seeds h

  abbrev pub lists : List (List ℕ)
  lists = lists_of nrows region ptr cols

  module _ (ok : check ≡ Ok tt) (source_ptr sources : List ℕ) where
    -- what the call left, as the gather is lent it
    abbrev pub lent_ptr : List ℕ
    lent_ptr = take (stats.local_nnz + 1) (prepared_source_ptr check lists (length cols) source_ptr)

    abbrev pub lent_sources : List ℕ
    lent_sources = take stats.source_terms (prepared_sources check lists (length cols) sources)

    pub own-ptr : lent_ptr ≡ plan_ptr lists
    own-ptr = ap (λ (t : Check). take (length lists + 1) (leaves t (over_with_zeros (plan_ptr lists) (length cols + 1) source_ptr) source_ptr)) ok ∙ zeros-own (plan_ptr lists) source_ptr (length lists + 1) (length cols + 1) (pointers-length lists)

    pub own-sources : lent_sources ≡ plan_sources lists
    own-sources = ap (λ (t : Check). take (length (plan_sources lists)) (leaves t (over_with_zeros (plan_sources lists) (length cols) sources) sources)) ok ∙ zeros-own (plan_sources lists) sources (length (plan_sources lists)) (length cols) refl

    inputs : prepare_inputs (matrix_check nrows ncols ptr cols values) (square_check kinds ids fields components offsets nrows ncols) nrows len seeds ≡ Ok tt
    unfolding prepare_check
    inputs = (both-passed _ _ ok).0

    matrix : IsMatrix nrows nrows ptr cols
    matrix = (accepted-matrix nrows ncols ptr cols values kinds ids fields components offsets len seeds inputs).0

    -- of new values: 1, 11, 8, 25
    pub gathers : (new out : List Float)
        → gather_check lent_ptr lent_sources (length cols) new out ≡ (must (leb (length new) entry_limit) OverLimit then must_be (length cols) (length new) then must (every finite new) NotFinite then must (leb stats.local_nnz (length out)) ListTooShort)
    gathers new out =
        ap₂ (λ (p q : List ℕ). gather_check p q (length cols) new out) own-ptr own-sources
        ∙ plan-gathers nrows region (stored ptr cols) ptr cols matrix (binds nrows region (stored ptr cols) ptr cols matrix refl) new out

    -- finite ones, as many as entries, are gathered into a list with room
    pub gathered-again : (new out : List Float) → length new ≡ length cols → every finite new ≡ true → stats.local_nnz ≤ length out → gather_check lent_ptr lent_sources (length cols) new out ≡ Ok tt
    gathered-again new out long fine enough =
        gathers new out
        ∙ sym (pass _ _ _ _ (le-leb (length new) entry_limit (omega (arith, matrix.few_entries))) (length-pass _ _ _ _ (eq-eqb _ _ long) (pass _ _ _ _ fine (last-pass _ _ _ (le-leb _ _ enough) refl))))

    -- and so are the matrix's own
    pub gathered-first : (out : List Float) → stats.local_nnz ≤ length out → gather_check lent_ptr lent_sources (length cols) values out ≡ Ok tt
    unfolding prepare_inputs
    gathered-first out enough =
        let v : IsValues cols values = (accepted nrows ncols ptr cols values (both-passed _ _ inputs).0).entries in
        gathered-again values out v.as_many (every-all finite nan values v.finite_at) enough
