-- A plan's lists and checks, of a system that was accepted and of what is lent to a call.
use Rattle.std.specs.Prelude.{List, ℕ}
use Rattle.base.specs.Checks.{Check}
use Rattle.csr32.specs.declared.Csr32Matrix.{Csr32Matrix}
use Rattle.csr32.specs.Matrix.{stored}
use Rattle.csr32.specs.Views.{check_matrix}
use Rattle.mask.specs.declared.DofMask.{DofMask}
use Rattle.mask.specs.Mask.{in_mask}
use Rattle.mask.specs.Views.{nodes}
use Rattle.side.specs.Views.{holds, pairs}
use Rattle.dual_topology.specs.declared.AbtmDualTopology.{AbtmDualTopology}
use Rattle.dual_topology.specs.Views.{check_topology}
use Rattle.binding.specs.declared.inner.System.{System}
use Rattle.binding.specs.Views.{check_binding}
use Rattle.pattern.specs.Pattern.{columns_of}
use Rattle.numeric_plan.specs.Steps.{row_entries}
use Rattle.numeric_plan.specs.Plan.{pair_entries, plan_inputs, plan_check}

-- ---- an accepted system

-- the entries of each pair
abbrev pub lists : System → List (List ℕ)
lists s = pair_entries s.local.region.len (nodes s.local.region) (pairs s.local.rows) s.matrix.row_ptr.now s.matrix.col_idx.now

-- the columns of row r that are inside, and the entries of its pair j
abbrev pub columns : System → ℕ → List ℕ
columns s r = columns_of s.local.region.len (nodes s.local.region) (pairs s.local.rows) r

abbrev pub entries : System → ℕ → ℕ → List ℕ
entries s r = row_entries s.local.region.len (nodes s.local.region) (pairs s.local.rows) s.matrix.row_ptr.now s.matrix.col_idx.now r

-- then 25
abbrev pub check_lists : System → List ℕ → List ℕ → List ℕ → List ℕ → List ℕ → Check
check_lists s members ptr cols source_ptr sources =
    plan_check (check_binding s) s.local.region.len (nodes s.local.region) (pairs s.local.rows) (lists s) members ptr cols source_ptr sources

-- ---- what is lent

abbrev pub lent_lists : AbtmDualTopology → Csr32Matrix → DofMask → List (List ℕ)
lent_lists topology matrix region = pair_entries topology.rows.nrows (in_mask region.words.now) (holds topology.rows) matrix.row_ptr.now matrix.col_idx.now

abbrev pub check_plan : AbtmDualTopology → Csr32Matrix → DofMask → List ℕ → List ℕ → List ℕ → List ℕ → List ℕ → Check
check_plan topology matrix region members ptr cols source_ptr sources =
    plan_check
    (plan_inputs (check_matrix matrix) (check_topology topology) matrix.nrows matrix.ncols topology.rows.nrows topology.rows.ncols region.len region.words.now (holds topology.rows) (stored matrix.row_ptr.now matrix.col_idx.now))
    topology.rows.nrows (in_mask region.words.now) (holds topology.rows) (lent_lists topology matrix region) members ptr cols source_ptr sources
