-- Demand 3, one claim about the whole list of growths. Its inputs, what the later calls give on a region, and what is claimed.
use Rattle.std.specs.Prelude.{◌≡◌, Bool, true, cond, ◌&&◌, List, map, ◌↔◌, ℕ, ◌+◌, ◌*◌, ◌/◌, ◌%◌, ◌^◌, ◌≤◌, ◌<◌, min, T, leb, Float, length, get_or, take}
use Rattle.std.specs.Prelude.{Result, Ok}
use Rattle.base.specs.Checks.{Check}
use Rattle.base.specs.declared.Refusal.{Refusal}
use Rattle.base.specs.declared.Refusal.TheVariants.{ListTooShort}
use Rattle.std.specs.Float.{nan}
use Rattle.std.proofs.Math.Seq.{slice}
use Rattle.base.specs.Checks.{must, ◌then◌}
use Rattle.base.specs.Lists.{every, join_below}
use Rattle.base.specs.Sets.{count_below, members_below}
use Rattle.csr32.specs.Matrix.{matrix_check, stored, finite}
use Rattle.mask.specs.Mask.{in_mask, length_check}
use Rattle.dof_layout.specs.Answers.{square_check}
use Rattle.side.specs.Side.{side_holds}
use Rattle.dual_topology.specs.Check.{topology_check}
use Rattle.graph.specs.Distance.{Within, Distance}
use Rattle.graph.specs.Network.{linked, seeded}
use Rattle.growth.specs.Lent.{masks_room}
use Rattle.pattern.specs.Pattern.{member_at, pattern_check, pattern_room, pattern_answer, nodes_left, ptr_left, columns_left, pattern_ptr, pattern_columns, pairs_inside}
use Rattle.gather.specs.Gather.{sum_of, gathered, gather_check, gather_answer, gather_left}
use Rattle.gather.specs.Plan.{plan_sources, plan_ptr, direct}
use Rattle.numeric_plan.specs.Plan.{pair_entries, plan_inputs, plan_room, plan_check, plan_answer, source_ptr_left, sources_left}
use Rattle.growths.specs.Runs.{largest, Growth, Ground, plain_ground, field_ground, Run, begun, check_of, region_of, frontier_of, run}
use Rattle.numeric_plan.specs.declared.AbtmLocalNumericPlanStats.{AbtmLocalNumericPlanStats}
use Rattle.pattern.specs.declared.AbtmLocalSubmatrixPatternStats.{AbtmLocalSubmatrixPatternStats}

-- ---- the inputs

-- a square matrix, a topology, and the first seeds
pub record CutSystem : Type 0 where
  pub side : ℕ
  pub row_ptr : List ℕ
  pub col_idx : List ℕ
  pub values : List Float
  pub row_word_ptr : List ℕ
  pub row_word_indices : List ℕ
  pub row_masks : List ℕ
  pub row_pairs : ℕ
  pub column_word_ptr : List ℕ
  pub column_word_indices : List ℕ
  pub column_masks : List ℕ
  pub column_pairs : ℕ
  pub len : ℕ
  pub seeds : List ℕ

module _ (S : CutSystem) where
  abbrev pub matrix_of : Check
  matrix_of = matrix_check S.side S.side S.row_ptr S.col_idx S.values

  abbrev pub topology_of : Check
  topology_of =
      topology_check S.side S.side S.row_word_ptr S.row_word_indices S.row_masks S.row_pairs S.side S.side S.column_word_ptr S.column_word_indices S.column_masks S.column_pairs

  -- the topology's pairs, and the matrix's
  abbrev pub pairs_of : ℕ → ℕ → Bool
  pairs_of = side_holds S.row_word_ptr S.row_word_indices S.row_masks

  abbrev pub entries_stored : ℕ → ℕ → Bool
  entries_stored = stored S.row_ptr S.col_idx

  -- matrix, topology and seeds are accepted, and the topology has exactly the matrix's pairs; words have 64 bits
  pub record Accepts : Type 0 where
    pub matrix : matrix_of ≡ Ok tt
    pub topology : topology_of ≡ Ok tt
    pub same_pairs : (r c : ℕ) → r < S.side → c < S.side → pairs_of r c ≡ entries_stored r c
    pub seeds : length_check S.side S.len S.seeds ≡ Ok tt
    pub row_bits : (w : ℕ) → get_or S.row_masks w 0 < 2 ^ 64
    pub column_bits : (w : ℕ) → get_or S.column_masks w 0 < 2 ^ 64
    pub seed_bits : (w : ℕ) → get_or S.seeds w 0 < 2 ^ 64

  -- all growths are plain ones, or field growths under one accepted layout
  pub data Kind : Ground → Type 0 where
    plain : Kind (plain_ground topology_of S.side pairs_of S.len)
    field : (kinds ids fields components offsets : List ℕ) → square_check kinds ids fields components offsets S.side S.side ≡ Ok tt
        → Kind (field_ground topology_of (square_check kinds ids fields components offsets S.side S.side) components pairs_of S.len)

  -- values that a gather accepts
  pub record Values (values : List Float) : Type 0 where
    pub as_many : length values ≡ length S.col_idx
    pub all_finite : every finite values ≡ true

-- ---- pattern, plan and gather on a region, as their promises say it

pub record Extracted : Type 0 where
  pub answer : Result AbtmLocalSubmatrixPatternStats Refusal
  pub nodes : List ℕ
  pub ptr : List ℕ
  pub columns : List ℕ

pub record Planned : Type 0 where
  pub answer : Result AbtmLocalNumericPlanStats Refusal
  pub nodes : List ℕ
  pub ptr : List ℕ
  pub columns : List ℕ
  pub source_ptr : List ℕ
  pub sources : List ℕ

pub record Gathered : Type 0 where
  pub answer : Result ℕ Refusal
  pub values : List Float

module _ (S : CutSystem) (region : List ℕ) where
  module _ (nodes ptr cols : List ℕ) where
    abbrev pub pattern_of : Check
    pattern_of = pattern_check (topology_of S) S.side S.side S.len region (pairs_of S) nodes ptr cols

    abbrev pub extracted : Extracted
    extracted =
        record {
          answer = pattern_answer pattern_of S.side (in_mask region) (pairs_of S);
          nodes = nodes_left pattern_of S.side (in_mask region) nodes;
          ptr = ptr_left pattern_of S.side (in_mask region) (pairs_of S) ptr;
          columns = columns_left pattern_of S.side (in_mask region) (pairs_of S) cols;
        }

  -- the entries of each pair of the pattern
  abbrev pub entries : List (List ℕ)
  entries = pair_entries S.side (in_mask region) (pairs_of S) S.row_ptr S.col_idx

  -- the matrix, the topology, 22, 10, the mask, 23 and 24
  abbrev pub inputs_of : Check
  inputs_of = plan_inputs (matrix_of S) (topology_of S) S.side S.side S.side S.side S.len region (pairs_of S) (entries_stored S)

  module _ (nodes ptr cols source_ptr sources : List ℕ) where
    abbrev pub plan_of : Check
    plan_of = plan_check inputs_of S.side (in_mask region) (pairs_of S) entries nodes ptr cols source_ptr sources

    abbrev pub planned : Planned
    planned =
        record {
          answer = plan_answer plan_of S.side (in_mask region) entries;
          nodes = nodes_left plan_of S.side (in_mask region) nodes;
          ptr = ptr_left plan_of S.side (in_mask region) (pairs_of S) ptr;
          columns = columns_left plan_of S.side (in_mask region) (pairs_of S) cols;
          source_ptr = source_ptr_left plan_of entries source_ptr;
          sources = sources_left plan_of entries sources;
        }

  -- a plan is handed on with exactly its own pointers and sources
  module _ (source_ptr sources : List ℕ) (values out : List Float) where
    abbrev pub gather_of : Check
    gather_of = gather_check (take (length entries + 1) source_ptr) (take (length (plan_sources entries)) sources) (length S.col_idx) values out

    abbrev pub gathered_from : Gathered
    gathered_from =
        record {
          answer = gather_answer gather_of (take (length entries + 1) source_ptr);
          values = gather_left gather_of (take (length entries + 1) source_ptr) (take (length (plan_sources entries)) sources) values out;
        }

-- ---- what a pattern and its values are

-- the pairs that a pattern's pointers and columns stand for, each as row times side plus column
unfoldable pub listed_pairs : ℕ → (ℕ → Bool) → List ℕ → List ℕ → List ℕ
listed_pairs n p ptr cols = join_below (count_below n p) (λ k. map (λ (c : ℕ). member_at n p k * n + member_at n p c) (slice (get_or ptr k 0) (get_or ptr (k + 1) 0) cols))

-- the stored pairs with both ends inside, by row, then by rising column
unfoldable pub stored_pairs : ℕ → (ℕ → Bool) → (ℕ → ℕ → Bool) → List ℕ
stored_pairs n p stored = members_below (n * n) (λ x. p (x / n) && p (x % n) && stored (x / n) (x % n))

-- the value of a pair with these entries: where all pairs have one entry, that entry itself; else the sum from 0.0 in stored order
abbrev pub value_of : Bool → List Float → List ℕ → Float
value_of one values entries = cond one (get_or values (get_or entries 0 0) nan) (sum_of values entries)

-- ---- the claim

module _ (S : CutSystem) (k : Ground) (cs : List Growth) where
  -- what the list of growths has come to
  abbrev pub held : Run
  held = run k (begun S.seeds) cs

  -- as after one growth d from the first seeds
  pub record AsOne (d : Growth) : Type 0 where
    pub accepted : check_of k S.seeds d ≡ Ok tt
    pub region : held.seeds ≡ region_of k S.seeds d
    pub frontier : 1 ≤ held.last → held.frontier ≡ frontier_of k S.seeds d
    pub pattern : (nodes ptr cols : List ℕ) → extracted S held.seeds nodes ptr cols ≡ extracted S (region_of k S.seeds d) nodes ptr cols
    pub plan : (nodes ptr cols source_ptr sources : List ℕ) → planned S held.seeds nodes ptr cols source_ptr sources ≡ planned S (region_of k S.seeds d) nodes ptr cols source_ptr sources
    pub gather : (source_ptr sources : List ℕ) (values out : List Float) → gathered_from S held.seeds source_ptr sources values out ≡ gathered_from S (region_of k S.seeds d) source_ptr sources values out

  abbrev p : ℕ → Bool
  p = in_mask held.seeds

  -- what the region, its pattern and its gathered values are
  pub record Complete : Type 0 where
    -- the region is exactly the nodes whose block is within so many links of a seeded block, the frontier those at exactly so many: by walks
    pub region : (i : ℕ) → i < S.side → T (p i) ↔ Within k.network.blocks (linked k.network) (seeded k.network (in_mask S.seeds)) held.total (k.network.block i)
    pub frontier : 1 ≤ held.last → (i : ℕ) → i < S.side
        → T (in_mask held.frontier i) ↔ Distance k.network.blocks (linked k.network) (seeded k.network (in_mask S.seeds)) held.total (k.network.block i)
    -- only 25 can refuse the pattern, the plan and, on what the plan left, the gather
    pub pattern_fits : (nodes ptr cols : List ℕ) → pattern_of S held.seeds nodes ptr cols ≡ pattern_room S.side p (pairs_of S) nodes ptr cols
    pub plan_fits : (nodes ptr cols source_ptr sources : List ℕ)
        → plan_of S held.seeds nodes ptr cols source_ptr sources ≡ (pattern_room S.side p (pairs_of S) nodes ptr cols then plan_room (entries S held.seeds) source_ptr sources)
    pub gather_room : (nodes ptr cols source_ptr sources : List ℕ) (values out : List Float) → plan_of S held.seeds nodes ptr cols source_ptr sources ≡ Ok tt → Values S values
        → gather_of S held.seeds (planned S held.seeds nodes ptr cols source_ptr sources).source_ptr (planned S held.seeds nodes ptr cols source_ptr sources).sources values out
        ≡ must (leb (pairs_inside S.side p (pairs_of S)) (length out)) ListTooShort
    -- the pattern is each pair stored in the region once, by row, then by rising column
    pub pairs : listed_pairs S.side p (pattern_ptr S.side p (pairs_of S)) (pattern_columns S.side p (pairs_of S)) ≡ stored_pairs S.side p (entries_stored S)
    -- one gathered value for each: the sum in stored order of all its entries or, where no pair has several, its entry
    pub one_each : length (entries S held.seeds) ≡ pairs_inside S.side p (pairs_of S)
    pub gathered_values : (values : List Float)
        → gathered (plan_ptr (entries S held.seeds)) (plan_sources (entries S held.seeds)) values ≡ map (value_of (direct (entries S held.seeds)) values) (entries S held.seeds)

  -- demand 3: of every list of growths
  pub record Claim : Type 0 where
    -- only 25 can refuse the next growth, which is accepted exactly if its lists reach their needed lengths
    pub room : (c : Growth) → check_of k held.seeds c ≡ masks_room S.side (length c.region) (length c.frontier) (length c.scratch)
    -- after at least one accepted growth: as after one growth by the total, the largest count where the total is past 64 bits
    pub as_one : 1 ≤ held.accepted → (d : Growth) → d.hops ≡ min held.total largest → masks_room S.side (length d.region) (length d.frontier) (length d.scratch) ≡ Ok tt → AsOne d
    pub complete : 1 ≤ held.accepted → Complete
