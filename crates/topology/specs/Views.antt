-- What is said of the calls on matrices and sides as they are lent.
use Rattle.std.specs.Prelude.{List, ℕ, Result}
use Rattle.base.specs.Checks.{Check}
use Rattle.base.specs.declared.Refusal.{Refusal}
use Rattle.csr32.specs.declared.Csr32Matrix.{Csr32Matrix}
use Rattle.side.specs.declared.AbtmTopology.{AbtmTopology}
use Rattle.topology.specs.declared.AbtmTopologyStats.{AbtmTopologyStats}
use Rattle.topology.specs.Answers.{stats_answer, build_check, sets_check}

-- the side; its statistics
abbrev pub answer_stats : AbtmTopology → Result AbtmTopologyStats Refusal
answer_stats t = stats_answer t.nrows t.ncols t.row_word_ptr.now t.word_indices.now t.masks.now t.structural_nnz

-- from_csr32, with the lengths of the three lists
abbrev pub check_build : Csr32Matrix → List ℕ → List ℕ → List ℕ → Check
check_build m = build_check m.nrows m.ncols m.row_ptr.now m.col_idx.now m.values.now

-- a set operation, with the lengths of the three lists
abbrev pub check_sets : AbtmTopology → AbtmTopology → List ℕ → List ℕ → List ℕ → Check
check_sets a b =
    sets_check a.nrows a.ncols a.row_word_ptr.now a.word_indices.now a.masks.now a.structural_nnz
    b.nrows b.ncols b.row_word_ptr.now b.word_indices.now b.masks.now b.structural_nnz
