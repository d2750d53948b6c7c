-- The side that a row is one of. Assumes nothing.
use mathlib.Core.Path.{◌≡◌, ap, sym, ◌∙◌}
use mathlib.Core.Logic.{◌⊎◌, inl, inr}
use mathlib.Core.Bool.{Bool}
use Prim.Native.Nat.{ℕ, ◌<◌, ◌≤◌}
use native.Mathlib.Omega.{arith}
use Rattle.std.specs.Prelude.{Ok, Err}
use borrow.Author.Tests.{lt-ltb, le-ltb}
use mathlib.Core.Path.{refl}
use Rattle.base.specs.declared.Refusal.TheVariants.{OutOfRange}
use Rattle.base.proofs.Checks.{group-pass, last-pass, last-stop}
use Rattle.side.specs.declared.AbtmTopology.{AbtmTopology}
use Rattle.side.specs.declared.inner.Side.{Side}
use Rattle.side.specs.Views.{holds, pairs, AcceptedFrom as AcceptedSide}
use Rattle.dual_topology.specs.declared.AbtmDualTopology.{AbtmDualTopology}
use Rattle.dual_topology.specs.declared.RowOf.{RowOf}
use Rattle.dual_topology.specs.declared.inner.Topology.{Topology}
use Rattle.dual_topology.specs.Answers.{rows_of, width_of, row_set, row_check}
use Rattle.dual_topology.specs.Views.{check_topology, check_row, width, row, SoundTopology, AcceptedFrom}
use Rattle.dual_topology.proofs.Accepted.{column-is}

-- an accepted side holds what it held as it was lent
accepted-pairs : (t : AbtmTopology) (s : Side) → AcceptedSide t s → pairs s ≡ holds t
accepted-pairs t s e = rw (e.2, e.3, e.4) refl

module _ (t : AbtmDualTopology) (a : Topology) (sound : SoundTopology t) (from : AcceptedFrom t a) (of : RowOf) (s : Side) where
  -- s is the side that is named
  abbrev pub Named : Type 0
  Named = ((of ≡ RowOf.Rows) × (s ≡ a.rows)) ⊎ ((of ≡ RowOf.Columns) × (s ≡ a.columns))

  pub named-rows : Named → s.nrows ≡ rows_of of t.rows.nrows t.rows.ncols
  named-rows (inl n) = ap (λ (x : Side). x.nrows) n.1 ∙ from.0.0 ∙ ap (λ (o : RowOf). rows_of o t.rows.nrows t.rows.ncols) (sym n.0)
  named-rows (inr n) = ap (λ (x : Side). x.nrows) n.1 ∙ from.1.0 ∙ sound.as_rows ∙ ap (λ (o : RowOf). rows_of o t.rows.nrows t.rows.ncols) (sym n.0)

  pub named-width : Named → s.ncols ≡ width t of
  named-width (inl n) = ap (λ (x : Side). x.ncols) n.1 ∙ from.0.1 ∙ ap (λ (o : RowOf). width_of o t.rows.nrows t.rows.ncols) (sym n.0)
  named-width (inr n) = ap (λ (x : Side). x.ncols) n.1 ∙ from.1.1 ∙ sound.as_columns ∙ ap (λ (o : RowOf). width_of o t.rows.nrows t.rows.ncols) (sym n.0)

  pub named-row : Named → (k : ℕ) → k < s.nrows → pairs s k ≡ row t of k
  named-row (inl n) k h =
      ap (λ (x : Side). pairs x k) n.1 ∙ ap (λ (p : ℕ → ℕ → Bool). p k) (accepted-pairs t.rows a.rows from.0)
      ∙ ap (λ (o : RowOf). row_set o (holds t.rows) k) (sym n.0)
  named-row (inr n) k h =
      let inside : k < t.rows.ncols = omega (arith, h, ap (λ (x : Side). x.nrows) n.1, from.1.0, sound.as_rows) in
      ap (λ (x : Side). pairs x k) n.1
      ∙ ap (λ (p : ℕ → ℕ → Bool). p k) (accepted-pairs t.columns a.columns from.1)
      ∙ column-is t.rows.nrows t.rows.ncols _ _ _ _ _ _ sound.topology k inside
      ∙ ap (λ (o : RowOf). row_set o (holds t.rows) k) (sym n.0)

  pub named-past : Named → (k : ℕ) → s.nrows ≤ k → check_topology t ≡ Ok tt → check_row t of k ≡ Err OutOfRange
  unfolding row_check
  named-past n k h e = sym (group-pass _ _ _ e (last-stop _ _ _ (le-ltb _ _ (omega (arith, h, named-rows n))) refl))

  pub named-passed : Named → (k : ℕ) → k < s.nrows → check_topology t ≡ Ok tt → check_row t of k ≡ Ok tt
  unfolding row_check
  named-passed n k h e = sym (group-pass _ _ _ e (last-pass _ _ _ (lt-ltb _ _ (omega (arith, h, named-rows n))) refl))
