-- What is said of a topology that is lent.
use Rattle.std.specs.Prelude.{◌≡◌, Result, Ok, Bool, List, ℕ, length}
use Rattle.base.specs.Checks.{Check}
use Rattle.base.specs.declared.Refusal.{Refusal}
use Rattle.csr32.specs.declared.Csr32Matrix.{Csr32Matrix}
use Rattle.side.specs.declared.inner.RowWords.{RowWords}
use Rattle.side.specs.declared.Fault.{Fault}
use Rattle.side.specs.Check.{bits_in}
use Rattle.side.specs.Views.{holds, held, AcceptedFrom as AcceptedSide}
use Rattle.dual_topology.specs.declared.AbtmDualTopology.{AbtmDualTopology}
use Rattle.dual_topology.specs.declared.RowOf.{RowOf}
use Rattle.dual_topology.specs.declared.inner.Topology.{Topology}
use Rattle.dual_topology.specs.Check.{sides_agree, topology_fault, topology_check, square_topology, IsTopology}
use Rattle.dual_topology.specs.declared.AbtmDualTopologyStats.{AbtmDualTopologyStats}
use Rattle.dual_topology.specs.Answers.{build_check, stats_of, stats_answer, row_check, rows_of, width_of, row_set}

-- 1 for each side, then 9
abbrev pub check_topology : AbtmDualTopology → Check
check_topology t =
    topology_check t.rows.nrows t.rows.ncols t.rows.row_word_ptr.now t.rows.word_indices.now t.rows.masks.now t.rows.structural_nnz
    t.columns.nrows t.columns.ncols t.columns.row_word_ptr.now t.columns.word_indices.now t.columns.masks.now t.columns.structural_nnz

-- and 10, of one that must be square
abbrev pub check_square_topology : AbtmDualTopology → Check
check_square_topology t = square_topology (check_topology t) t.rows.nrows t.rows.ncols

-- its first fault, and whether its sides agree
abbrev pub fault_of : AbtmDualTopology → Result Unit Fault
fault_of t =
    topology_fault t.rows.nrows t.rows.ncols t.rows.row_word_ptr.now t.rows.word_indices.now t.rows.masks.now t.rows.structural_nnz
    t.columns.nrows t.columns.ncols t.columns.row_word_ptr.now t.columns.word_indices.now t.columns.masks.now t.columns.structural_nnz

abbrev pub agree : AbtmDualTopology → Bool
agree t =
    sides_agree t.rows.nrows t.rows.ncols t.rows.row_word_ptr.now t.rows.word_indices.now t.rows.masks.now t.rows.structural_nnz
    t.columns.nrows t.columns.ncols t.columns.row_word_ptr.now t.columns.word_indices.now t.columns.masks.now t.columns.structural_nnz

-- what is known of one that its check accepts
pub record SoundTopology (t : AbtmDualTopology) : Type 0 where
  pub topology : IsTopology t.rows.nrows t.rows.ncols t.rows.row_word_ptr.now t.rows.word_indices.now t.rows.masks.now t.columns.row_word_ptr.now t.columns.word_indices.now t.columns.masks.now
  pub as_rows : t.columns.nrows ≡ t.rows.ncols
  pub as_columns : t.columns.ncols ≡ t.rows.nrows
  pub as_pairs : t.columns.structural_nnz ≡ t.rows.structural_nnz
  pub counted : t.rows.structural_nnz ≡ bits_in t.rows.masks.now 0 (length t.rows.masks.now)

-- the topology; the bytes of both sides
abbrev pub answer_stats : AbtmDualTopology → Result AbtmDualTopologyStats Refusal
answer_stats t =
    stats_answer (check_topology t)
    (stats_of t.rows.nrows t.rows.ncols t.rows.row_word_ptr.now t.rows.word_indices.now t.rows.masks.now t.rows.structural_nnz t.columns.row_word_ptr.now t.columns.word_indices.now t.columns.masks.now)

-- ---- a row that is named by side and number

-- the topology, then 13
abbrev pub check_row : AbtmDualTopology → RowOf → ℕ → Check
check_row t of k = row_check (check_topology t) k (rows_of of t.rows.nrows t.rows.ncols)

-- how many columns the row may have, and which it has
abbrev pub width : AbtmDualTopology → RowOf → ℕ
width t of = width_of of t.rows.nrows t.rows.ncols

abbrev pub row : AbtmDualTopology → RowOf → ℕ → ℕ → Bool
row t of k = row_set of (holds t.rows) k

-- the words of an accepted row
pub record FoundRow (t : AbtmDualTopology) (of : RowOf) (k : ℕ) (r : RowWords) : Type 0 where
  pub passed : check_row t of k ≡ Ok tt
  pub wide : r.ncols ≡ width t of
  pub columns : held r ≡ row t of k

-- ---- from_csr32, with the lengths of the eight lists

abbrev pub check_build : Csr32Matrix → List ℕ → List ℕ → List ℕ → List ℕ → List ℕ → List ℕ → List ℕ → List ℕ → Check
check_build m = build_check m.nrows m.ncols m.row_ptr.now m.col_idx.now m.values.now

-- ---- the lent topology as it was accepted

abbrev pub AcceptedFrom : AbtmDualTopology → Topology → Type 0
AcceptedFrom t a = (AcceptedSide t.rows a.rows) × (AcceptedSide t.columns a.columns)

-- an accepted topology has that many rows and columns
abbrev pub SizedTopology : ℕ → ℕ → Topology → Type 0
SizedTopology nrows ncols t =
    IsTopology nrows ncols t.rows.row_word_ptr.now t.rows.word_indices.now t.rows.masks.now t.columns.row_word_ptr.now t.columns.word_indices.now t.columns.masks.now
