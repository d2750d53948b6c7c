-- Topologies, matrices and masks as a run is lent them: its checks, and the system that is cut.
use Rattle.std.specs.Prelude.{Result, List, ℕ, Float}
use Rattle.base.specs.Checks.{Check, leaves}
use Rattle.base.specs.declared.Refusal.{Refusal}
use Rattle.csr32.specs.declared.Csr32Matrix.{Csr32Matrix}
use Rattle.csr32.specs.Views.{check_matrix, stores}
use Rattle.dof_layout.specs.declared.FieldAwareDofLayout.{FieldAwareDofLayout}
use Rattle.dof_layout.specs.Views.{check_square}
use Rattle.side.specs.Views.{holds}
use Rattle.dual_topology.specs.declared.AbtmDualTopology.{AbtmDualTopology}
use Rattle.dual_topology.specs.Views.{check_topology}
use Rattle.graph.specs.Network.{Network, region_words}
use Rattle.region.specs.Views.{plain}
use Rattle.field_region.specs.Views.{blocked}
use Rattle.growths.specs.Counts.{seeds_after, region_once_grown, frontier_once_grown, scratch_once_grown}
use Rattle.growths.specs.declared.Ran.{Ran}
use Rattle.claims.specs.declared.Cut.{Cut}
use Rattle.claims.specs.declared.GrowthRun.{GrowthRun}
use Rattle.claims.specs.Demand.{CutSystem, Planned}
use Rattle.claims.specs.Cutting.{system_of, plan_cut, cut_answer, values_cut}
use Rattle.claims.specs.Run.{sided_topology, arrays_check, run_check, field_run_check, ran_by, run_answer, run_left}

-- the topology, 22, 10
abbrev pub check_sides : AbtmDualTopology → Csr32Matrix → Check
check_sides t m = sided_topology (check_topology t) t.rows.nrows t.rows.ncols m.nrows m.ncols

-- the mask, 23 and 24, and one room for each growth
abbrev pub check_arrays : AbtmDualTopology → Csr32Matrix → ℕ → List ℕ → List ℕ → List ℕ → Check
check_arrays t m len seeds hops rooms = arrays_check t.rows.nrows len seeds (holds t.rows) (stores m) hops rooms

abbrev pub check_run : AbtmDualTopology → Csr32Matrix → ℕ → List ℕ → List ℕ → List ℕ → Check
check_run t m len seeds hops rooms = run_check (check_matrix m) (check_sides t m) (check_arrays t m len seeds hops rooms)

abbrev pub check_field_run : AbtmDualTopology → Csr32Matrix → FieldAwareDofLayout → ℕ → List ℕ → List ℕ → List ℕ → Check
check_field_run t m l len seeds hops rooms =
    field_run_check (check_matrix m) (check_sides t m) (check_square l t.rows.nrows t.rows.ncols) (check_arrays t m len seeds hops rooms)

-- by any growths: `besides` is what is checked of them between the sides and the arrays
abbrev pub check_by : Check → AbtmDualTopology → Csr32Matrix → ℕ → List ℕ → List ℕ → List ℕ → Check
check_by besides t m len seeds hops rooms = field_run_check (check_matrix m) (check_sides t m) besides (check_arrays t m len seeds hops rooms)

-- as many columns as rows on both sides
abbrev pub square_of : AbtmDualTopology → AbtmDualTopology
square_of t = record { rows = record t.rows { ncols = t.rows.nrows }; columns = record t.columns { nrows = t.rows.nrows; ncols = t.rows.nrows } }

-- of the rows' nodes, on every side
abbrev pub cut_system : AbtmDualTopology → Csr32Matrix → ℕ → List ℕ → CutSystem
cut_system t m len seeds =
    system_of t.rows.nrows m.row_ptr.now m.col_idx.now m.values.now t.rows.row_word_ptr.now t.rows.word_indices.now t.rows.masks.now t.rows.structural_nnz
    t.columns.row_word_ptr.now t.columns.word_indices.now t.columns.masks.now t.columns.structural_nnz len seeds

-- ---- what is cut of a region of their nodes

module _ (t : AbtmDualTopology) (m : Csr32Matrix) (len : ℕ) (region nodes ptr cols source_ptr sources : List ℕ) where
  abbrev pub plan_on : Planned
  plan_on = plan_cut (cut_system t m len region) region nodes ptr cols source_ptr sources

  abbrev pub answer_on : List Float → List Float → Cut
  answer_on values out = cut_answer (cut_system t m len region) region nodes ptr cols source_ptr sources values out

  abbrev pub values_on : List Float → List Float → List Float
  values_on values out = values_cut (cut_system t m len region) region nodes ptr cols source_ptr sources values out

-- ---- a run, of all that it is lent, in its order

pub record RunLeft : Type 0 where
  pub answer : Result GrowthRun Refusal
  pub seeds : List ℕ
  pub region : List ℕ
  pub frontier : List ℕ
  pub scratch : List ℕ
  pub nodes : List ℕ
  pub ptr : List ℕ
  pub columns : List ℕ
  pub source_ptr : List ℕ
  pub sources : List ℕ
  pub values : List Float

module _ (check : Check) (g : Network) (t : AbtmDualTopology) (m : Csr32Matrix) (len : ℕ) (seeds hops rooms : List ℕ) (values : List Float) (region frontier scratch nodes ptr cols source_ptr sources : List ℕ) (out : List Float) where
  -- what all growths come to, the region of one growth by their total, and the plan on it
  abbrev ran : Ran
  ran = ran_by t.rows.nrows hops rooms region frontier scratch

  abbrev grown : List ℕ
  grown = region_words g seeds ran.total

  abbrev plan : Planned
  plan = plan_on t m len grown nodes ptr cols source_ptr sources

  -- on a network g, by what is checked first
  abbrev pub run_of : RunLeft
  run_of =
      record {
        answer = run_answer check ran (answer_on t m len grown nodes ptr cols source_ptr sources values out);
        seeds = leaves check (seeds_after g ran seeds) seeds;
        region = leaves check (region_once_grown g ran seeds region) region;
        frontier = leaves check (frontier_once_grown g ran seeds frontier) frontier;
        scratch = leaves check (scratch_once_grown g ran scratch) scratch;
        nodes = run_left check ran plan.nodes nodes;
        ptr = run_left check ran plan.ptr ptr;
        columns = run_left check ran plan.columns cols;
        source_ptr = run_left check ran plan.source_ptr source_ptr;
        sources = run_left check ran plan.sources sources;
        values = run_left check ran (values_on t m len grown nodes ptr cols source_ptr sources values out) out;
      }

-- from the mask's length to the gathered values
abbrev Lists : Type 0
Lists = ℕ → List ℕ → List ℕ → List ℕ → List Float → List ℕ → List ℕ → List ℕ → List ℕ → List ℕ → List ℕ → List ℕ → List ℕ → List Float → RunLeft

abbrev pub run_by : Check → Network → AbtmDualTopology → Csr32Matrix → Lists
run_by besides g t m len seeds hops rooms = run_of (check_by besides t m len seeds hops rooms) g t m len seeds hops rooms

abbrev pub plain_run : AbtmDualTopology → Csr32Matrix → Lists
plain_run t m len seeds hops rooms = run_of (check_run t m len seeds hops rooms) (plain t) t m len seeds hops rooms

abbrev pub field_run : AbtmDualTopology → Csr32Matrix → FieldAwareDofLayout → Lists
field_run t m l len seeds hops rooms = run_of (check_field_run t m l len seeds hops rooms) (blocked t l) t m len seeds hops rooms
