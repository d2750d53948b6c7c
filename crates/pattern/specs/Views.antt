-- What a call's check says of a topology and a region that are lent, and what is accepted of them.
use Rattle.std.specs.Prelude.{◌≡◌, List, map, ℕ, Ok}
use Rattle.base.specs.Checks.{Check}
use Rattle.base.specs.Sets.{count_below, members_below}
use Rattle.mask.specs.declared.DofMask.{DofMask}
use Rattle.mask.specs.Views.{nodes}
use Rattle.side.specs.declared.inner.Side.{Side}
use Rattle.side.specs.Views.{holds, pairs}
use Rattle.dual_topology.specs.declared.AbtmDualTopology.{AbtmDualTopology}
use Rattle.dual_topology.specs.Views.{check_topology}
use Rattle.pattern.specs.declared.inner.Local.{Local}
use Rattle.pattern.specs.Pattern.{number_of, columns_of, pairs_inside, pattern_ptr, pattern_columns, region_check, pattern_check}

abbrev pub check_pattern : AbtmDualTopology → DofMask → List ℕ → List ℕ → List ℕ → Check
check_pattern topology region nodes ptr cols =
    pattern_check (check_topology topology) topology.rows.nrows topology.rows.ncols region.len region.words.now (holds topology.rows) nodes ptr cols

-- ---- a region in the rows of its square topology

-- of a topology that is accepted: 10, the mask
abbrev pub check_local : Side → DofMask → Check
check_local rows region = region_check (Ok tt) rows.nrows rows.ncols region.len region.words.now

-- the rows and the lent region as they were accepted
abbrev pub AcceptedFrom : Side → DofMask → Local → Type 0
AcceptedFrom rows region l = (l.rows ≡ rows) × (l.region.len ≡ rows.nrows) × (l.region.words ≡ region.words)

-- how many members it has, how many pairs are inside, and the numbers of the columns of row r that are
abbrev pub size : Local → ℕ
size l = count_below l.region.len (nodes l.region)

abbrev pub kept : Local → ℕ
kept l = pairs_inside l.region.len (nodes l.region) (pairs l.rows)

abbrev pub numbers : Local → ℕ → List ℕ
numbers l r = map (number_of (nodes l.region)) (columns_of l.region.len (nodes l.region) (pairs l.rows) r)

-- its pattern: the members, where each row's columns start, the columns
abbrev pub member_list : Local → List ℕ
member_list l = members_below l.region.len (nodes l.region)

abbrev pub ptr_list : Local → List ℕ
ptr_list l = pattern_ptr l.region.len (nodes l.region) (pairs l.rows)

abbrev pub column_list : Local → List ℕ
column_list l = pattern_columns l.region.len (nodes l.region) (pairs l.rows)
