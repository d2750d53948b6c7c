-- What the checks of a building have passed, and that what it leaves is accepted. Assumes nothing.
use mathlib.Core.Path.{◌≡◌, sym, ap, ap₂, ◌∙◌, subst}
use Rattle.std.specs.Prelude.{Ok}
use mathlib.Core.Bool.{Bool}
use mathlib.Core.List.{List}
use Prim.Native.Nat.{ℕ, ◌≤◌, ◌<◌}
use native.Mathlib.Omega.{arith}
use borrow.Author.Tests.{ltb-true, leb-true}
use lib.ListN.{length}
use Rattle.base.proofs.Checks.{both-passed, passed}
use Rattle.csr32.specs.Matrix.{stored, IsMatrix}
use Rattle.csr32.proofs.Matrix.{stored_row, stored-col, pairs-le}
use Rattle.base.specs.Checks.{entry_limit}
use Rattle.side.specs.Side.{flip, side_ptr, side_words, side_masks, pair_count, side_holds}
use Rattle.side.proofs.Sides.{side-pairs, side-words-le, pairs-flip}
use Rattle.dual_topology.specs.Check.{topology_check, IsTopology}
use Rattle.dual_topology.proofs.Accepted.{sides-are, sides-accepted}
use Rattle.topology.proofs.Bytes.{bytes-are}
use Rattle.side.proofs.Accepted.{room-passed}
use Rattle.dual_topology.specs.Answers.{build_room, counts_of, stats_of, counted_stats}
use Rattle.dual_topology.specs.declared.TopologyCounts.{TopologyCounts}
use Rattle.dual_topology.specs.declared.AbtmDualTopologyStats.{AbtmDualTopologyStats}

pub build-fits : (nrows ncols entries rptr ridx rmasks cptr cidx cmasks starts order : ℕ) → build_room nrows ncols entries rptr ridx rmasks cptr cidx cmasks starts order ≡ Ok tt
    → (nrows < rptr) × (entries ≤ ridx) × (entries ≤ rmasks) × (ncols < cptr) × (entries ≤ cidx) × (entries ≤ cmasks) × (ncols < starts) × (entries ≤ order)
build-fits nrows ncols entries rptr ridx rmasks cptr cidx cmasks starts order e =
    let e2 = both-passed _ _ e in
    let e3 = both-passed _ _ e2.1 in
    let e4 = both-passed _ _ e3.1 in
    let r = room-passed nrows entries rptr ridx rmasks e2.0 in
    let c = room-passed ncols entries cptr cidx cmasks e3.0 in
    (r.0, r.1, r.2, c.0, c.1, c.2, ltb-true _ _ (passed _ _ e4.0), leb-true _ _ (passed _ _ e4.1))

-- what a building leaves is an accepted topology of exactly the matrix's pairs
module _ (nrows ncols : ℕ) (ptr cols : List ℕ) (m : IsMatrix nrows ncols ptr cols) where
  abbrev s : ℕ → ℕ → Bool
  s = stored ptr cols

  few_pairs : pair_count nrows ncols s ≤ entry_limit
  few_pairs = omega (arith, pairs-le nrows ncols ptr cols m, m.few_entries)

  few_words : length (side_words nrows ncols s) ≤ entry_limit
  few_words = omega (arith, few_pairs, side-words-le nrows ncols s (λ r c h t. stored-col nrows ncols ptr cols m r c t))

  few-columns : length (side_words ncols nrows (flip s)) ≤ entry_limit
  few-columns = omega (arith, few_pairs, pairs-flip nrows ncols s, side-words-le ncols nrows (flip s) (λ c r h t. stored_row nrows ncols ptr cols m r c t))

  pub built-topology : IsTopology nrows ncols (side_ptr nrows ncols s) (side_words nrows ncols s) (side_masks nrows ncols s) (side_ptr ncols nrows (flip s)) (side_words ncols nrows (flip s)) (side_masks ncols nrows (flip s))
  built-topology = sides-are nrows ncols s m.few_rows m.few_cols (stored_row nrows ncols ptr cols m) (stored-col nrows ncols ptr cols m) few_words few-columns few_pairs

  pub built-accepted : topology_check nrows ncols (side_ptr nrows ncols s) (side_words nrows ncols s) (side_masks nrows ncols s) (pair_count nrows ncols s) ncols nrows (side_ptr ncols nrows (flip s)) (side_words ncols nrows (flip s)) (side_masks ncols nrows (flip s)) (pair_count nrows ncols s) ≡ Ok tt
  built-accepted = sides-accepted nrows ncols s m.few_rows m.few_cols (stored_row nrows ncols ptr cols m) (stored-col nrows ncols ptr cols m) few_words few-columns few_pairs

  -- and of no other
  pub built-pairs : side_holds (side_ptr nrows ncols s) (side_words nrows ncols s) (side_masks nrows ncols s) ≡ stored ptr cols
  built-pairs = side-pairs nrows ncols s (λ r c h t. stored-col nrows ncols ptr cols m r c t) (stored_row nrows ncols ptr cols m)

  -- its counts are few, and give its statistics
  pub few-counts : (counts : TopologyCounts) → counts ≡ counts_of nrows ncols (stored ptr cols) → (counts.row_words ≤ entry_limit) × (counts.column_words ≤ entry_limit) × (counts.pairs ≤ entry_limit)
  few-counts counts e = subst (λ (k : TopologyCounts). (k.row_words ≤ entry_limit) × (k.column_words ≤ entry_limit) × (k.pairs ≤ entry_limit)) (sym e) (few_words, few-columns, few_pairs)

  pub built-stats : (counts : TopologyCounts) → counts ≡ counts_of nrows ncols (stored ptr cols)
      → counted_stats nrows ncols counts ≡ stats_of nrows ncols (side_ptr nrows ncols s) (side_words nrows ncols s) (side_masks nrows ncols s) (pair_count nrows ncols s) (side_ptr ncols nrows (flip s)) (side_words ncols nrows (flip s)) (side_masks ncols nrows (flip s))
  built-stats counts e =
      ap (counted_stats nrows ncols) e
      ∙ ap₂ put (bytes-are _ _ _ _ _ built-topology.rows.shape built-topology.rows.shape.as_many) (bytes-are _ _ _ _ _ built-topology.columns.shape built-topology.columns.shape.as_many)
    where
      put : ℕ → ℕ → AbtmDualTopologyStats
      put bytes bytes2 =
          record { nrows = nrows; ncols = ncols; structural_nnz = pair_count nrows ncols s; row_metadata_bytes = bytes; column_metadata_bytes = bytes2 }
