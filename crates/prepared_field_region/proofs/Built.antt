-- The built topology handed on: the parts of its lists that are its own, and what they are to a growth. Assumes nothing.
use mathlib.Core.Path.{◌≡◌, sym, ap, ap₂, ◌∙◌, subst}
use mathlib.Core.Bool.{Bool}
use mathlib.Core.List.{List, ◌++◌}
use Prim.Native.Nat.{ℕ, ◌+◌, ◌-◌, ◌≤◌}
use native.Mathlib.Omega.{arith}
use lib.ListN.{length, take, replicate, length-append}
use lib.Seq.{length-take-le}
use Rattle.base.specs.Lists.{over, over_with_zeros}
use Rattle.base.proofs.Lists.{length-list_from, over-own, over-room, zeros-own}
use Rattle.csr32.specs.Matrix.{stored, IsMatrix}
use Rattle.csr32.proofs.Matrix.{stored_row, stored-col}
use Rattle.side.specs.Side.{flip, side_ptr, side_words, side_masks, side_holds}
use Rattle.side.proofs.Sides.{as_many}
use Rattle.dual_topology.specs.Check.{IsTopology}
use Rattle.dual_topology.specs.Answers.{counts_of, counted_stats}
use Rattle.dual_topology.specs.declared.TopologyCounts.{TopologyCounts}
use Rattle.dual_topology.specs.declared.AbtmDualTopologyStats.{AbtmDualTopologyStats}
use Rattle.dual_topology.proofs.Built.{built-topology, built-pairs, built-stats}
use Rattle.prepared_field_region.specs.Prepared.{prepared_of}
use Rattle.prepared_field_region.specs.Steps.{Own, BuiltLists}
use Rattle.cutting.specs.Steps.{cut_stats}
use Rattle.prepared_field_region.specs.declared.PreparedFieldAwareLocalRegion.{PreparedFieldAwareLocalRegion}
use Rattle.cutting.specs.declared.RegionCut.{RegionCut}

own-over : (X l list : List ℕ) (part : ℕ) → length X ≡ part → list ≡ over X l → Own part list X
own-over X l list part h e =
    let room : part ≤ length list = omega (arith, over-room X l, ap length e) in
    record { room = room; long = sym (length-take-le part list room); same = ap (take part) e ∙ over-own X l part h }

own-zeros : (X l list : List ℕ) (part n : ℕ) → length X ≡ part → list ≡ over_with_zeros X n l → Own part list X
own-zeros X l list part n h e =
    let room : part ≤ length list = omega (arith, over-room (X ++ replicate {A = ℕ} (n - length X) 0) l, length-append X (replicate {A = ℕ} (n - length X) 0), ap length e) in
    record { room = room; long = sym (length-take-le part list room); same = ap (take part) e ∙ zeros-own X l part n h }

module _ (nrows ncols : ℕ) (ptr cols : List ℕ) (m : IsMatrix nrows ncols ptr cols) where
  abbrev pairs : ℕ → ℕ → Bool
  pairs = stored ptr cols

  -- the parts together are a topology of exactly the matrix's pairs
  pub parts_are : ncols ≡ nrows → (P W M P2 W2 M2 : List ℕ) → P ≡ side_ptr nrows ncols pairs → W ≡ side_words nrows ncols pairs → M ≡ side_masks nrows ncols pairs → P2 ≡ side_ptr ncols nrows (flip pairs) → W2 ≡ side_words ncols nrows (flip pairs) → M2 ≡ side_masks ncols nrows (flip pairs)
      → IsTopology nrows nrows P W M P2 W2 M2 × (side_holds P W M ≡ stored ptr cols)
  parts_are square P W M P2 W2 M2 p w k p2 w2 k2 = (
    rw (p, w, k, p2, w2, k2)
        (subst (λ (n : ℕ). IsTopology nrows n (side_ptr nrows ncols pairs) (side_words nrows ncols pairs) (side_masks nrows ncols pairs) (side_ptr ncols nrows (flip pairs)) (side_words ncols nrows (flip pairs)) (side_masks ncols nrows (flip pairs))) square (built-topology nrows ncols ptr cols m)),
    ap₂ (λ (x y : List ℕ). side_holds x y M) p w ∙ ap (side_holds (side_ptr nrows ncols pairs) (side_words nrows ncols pairs)) k ∙ built-pairs nrows ncols ptr cols m,
  )

module _ (nrows ncols : ℕ) (ptr cols : List ℕ) (m : IsMatrix nrows ncols ptr cols) (counts : TopologyCounts) (ec : counts ≡ counts_of nrows ncols (stored ptr cols)) where
  abbrev s : ℕ → ℕ → Bool
  s = stored ptr cols

  -- each list's own part, told how it was before
  module _ (before list : List ℕ) where
    row_pointers : list ≡ over (side_ptr nrows ncols s) before → Own (nrows + 1) list (side_ptr nrows ncols s)
    row_pointers e = own-over (side_ptr nrows ncols s) before list (nrows + 1) (length-list_from (λ r. length (side_words r ncols s)) (nrows + 1) 0) e

    row_words : list ≡ over_with_zeros (side_words nrows ncols s) (length cols) before → Own counts.row_words list (side_words nrows ncols s)
    row_words e = own-zeros (side_words nrows ncols s) before list counts.row_words (length cols) (sym (ap (λ (k : TopologyCounts). k.row_words) ec)) e

    row_masks : list ≡ over_with_zeros (side_masks nrows ncols s) (length cols) before → Own counts.row_words list (side_masks nrows ncols s)
    row_masks e =
        own-zeros (side_masks nrows ncols s) before list counts.row_words (length cols) (as_many nrows ncols s (λ r c h t. stored-col nrows ncols ptr cols m r c t) nrows ∙ sym (ap (λ (k : TopologyCounts). k.row_words) ec)) e

    column_pointers : list ≡ over (side_ptr ncols nrows (flip s)) before → Own (ncols + 1) list (side_ptr ncols nrows (flip s))
    column_pointers e = own-over (side_ptr ncols nrows (flip s)) before list (ncols + 1) (length-list_from (λ r. length (side_words r nrows (flip s))) (ncols + 1) 0) e

    column_words : list ≡ over_with_zeros (side_words ncols nrows (flip s)) (length cols) before → Own counts.column_words list (side_words ncols nrows (flip s))
    column_words e = own-zeros (side_words ncols nrows (flip s)) before list counts.column_words (length cols) (sym (ap (λ (k : TopologyCounts). k.column_words) ec)) e

    column_masks : list ≡ over_with_zeros (side_masks ncols nrows (flip s)) (length cols) before → Own counts.column_words list (side_masks ncols nrows (flip s))
    column_masks e =
        own-zeros (side_masks ncols nrows (flip s)) before list counts.column_words (length cols) (as_many ncols nrows (flip s) (λ c r h t. stored_row nrows ncols ptr cols m r c t) ncols ∙ sym (ap (λ (k : TopologyCounts). k.column_words) ec)) e

  -- and each list's part is its side's
  pub built_lists : (rptr ridx rmasks cptr cidx cmasks rptr' ridx' rmasks' cptr' cidx' cmasks' : List ℕ)
      → rptr' ≡ over (side_ptr nrows ncols s) rptr → ridx' ≡ over_with_zeros (side_words nrows ncols s) (length cols) ridx → rmasks' ≡ over_with_zeros (side_masks nrows ncols s) (length cols) rmasks
      → cptr' ≡ over (side_ptr ncols nrows (flip s)) cptr → cidx' ≡ over_with_zeros (side_words ncols nrows (flip s)) (length cols) cidx → cmasks' ≡ over_with_zeros (side_masks ncols nrows (flip s)) (length cols) cmasks
      → BuiltLists nrows ncols s counts rptr' ridx' rmasks' cptr' cidx' cmasks'
  built_lists rptr ridx rmasks cptr cidx cmasks rptr' ridx' rmasks' cptr' cidx' cmasks' a b c d e f =
      record {
        row_pointers = row_pointers rptr rptr' a;
        row_words = row_words ridx ridx' b;
        row_masks = row_masks rmasks rmasks' c;
        column_pointers = column_pointers cptr cptr' d;
        column_words = column_words cidx cidx' e;
        column_masks = column_masks cmasks cmasks' f;
      }

  -- the answer, put together
  pub prepared-is : (components seeds : List ℕ) (h : ℕ) (stats : AbtmDualTopologyStats) (whole : RegionCut) → stats ≡ counted_stats nrows ncols counts → whole ≡ cut_stats nrows ptr cols components seeds h
      → ◌≡◌ {A = PreparedFieldAwareLocalRegion} (record { counts = counts; topology = stats; growth = whole.growth; pattern = whole.local.pattern; numeric_plan = whole.local.numeric_plan }) (prepared_of nrows ncols ptr cols components seeds h)
  prepared-is components seeds h stats whole es ew =
      ap₂ (λ (k : TopologyCounts) (t : AbtmDualTopologyStats). put k t whole) ec (es ∙ built-stats nrows ncols ptr cols m counts ec)
      ∙ ap (put _ _) ew
    where
      put : TopologyCounts → AbtmDualTopologyStats → RegionCut → PreparedFieldAwareLocalRegion
      put k t w = record { counts = k; topology = t; growth = w.growth; pattern = w.local.pattern; numeric_plan = w.local.numeric_plan }
