-- Topologies, masks and systems of a call: what is known of the lists behind them.
use Rattle.std.specs.Prelude.{◌≡◌, List, ℕ, ◌^◌, ◌<◌, ◌≤◌, length, get_or}
use Rattle.base.specs.Lists.{over}
use Rattle.base.specs.Sets.{members_below}
use Rattle.mask.specs.declared.DofMask.{DofMask}
use Rattle.mask.specs.Views.{nodes}
use Rattle.csr32.specs.declared.Csr32Matrix.{Csr32Matrix}
use Rattle.side.specs.declared.AbtmTopology.{AbtmTopology}
use Rattle.side.specs.declared.inner.Side.{Side}
use Rattle.side.specs.Views.{pairs}
use Rattle.dual_topology.specs.declared.AbtmDualTopology.{AbtmDualTopology}
use Rattle.dual_topology.specs.Check.{IsTopology}
use Rattle.growth.specs.declared.inner.Graph.{Graph}
use Rattle.pattern.specs.declared.inner.Local.{Local}
use Rattle.pattern.specs.Pattern.{pattern_ptr, pattern_columns}
use Rattle.pattern.specs.Views.{size, kept}
use Rattle.binding.specs.declared.inner.System.{System}
use Rattle.binding.specs.Steps.{sources_inside}
use Rattle.repeated.specs.Held.{PlanHeld}

-- words have 64 bits, which is known of a list's and not of a field's
pub record Words (t : AbtmDualTopology) (m : DofMask) : Type 0 where
  pub rows : (w : ℕ) → get_or t.rows.masks.now w 0 < 2 ^ 64
  pub columns : (w : ℕ) → get_or t.columns.masks.now w 0 < 2 ^ 64
  pub mask : (w : ℕ) → get_or m.words.now w 0 < 2 ^ 64

-- three lists have room for a region's pattern, and begin with it
abbrev pub PatternHeld : Local → List ℕ → List ℕ → List ℕ → Type 0
PatternHeld l members ptr cols =
    (size l ≤ length members) × (size l < length ptr) × (kept l ≤ length cols)
    × (over (members_below l.region.len (nodes l.region)) members ≡ members)
    × (over (pattern_ptr l.region.len (nodes l.region) (pairs l.rows)) ptr ≡ ptr)
    × (over (pattern_columns l.region.len (nodes l.region) (pairs l.rows)) cols ≡ cols)

-- five lists begin with a system's plan
abbrev pub SystemHeld : System → List ℕ → List ℕ → List ℕ → List ℕ → List ℕ → Type 0
SystemHeld s =
    PlanHeld s.local.region.len s.local.rows.row_word_ptr.now s.local.rows.word_indices.now s.local.rows.masks.now s.matrix.row_ptr.now s.matrix.col_idx.now s.local.region.words.now

-- how many sources a system's plan has
abbrev pub terms_inside : System → ℕ
terms_inside s = sources_inside s.local.region.len (nodes s.local.region) s.matrix.row_ptr.now s.matrix.col_idx.now

-- what is made of a side and of a square topology that a call has accepted
abbrev pub SideOf : ℕ → AbtmTopology → Side → Type 0
SideOf n t s = (s.nrows ≡ n) × (s.ncols ≡ n) × (s.row_word_ptr ≡ t.row_word_ptr) × (s.word_indices ≡ t.word_indices) × (s.masks ≡ t.masks)

-- such a topology, of as many columns as rows
abbrev pub Square : AbtmDualTopology → Type 0
Square t =
    IsTopology t.rows.nrows t.rows.nrows t.rows.row_word_ptr.now t.rows.word_indices.now t.rows.masks.now
    t.columns.row_word_ptr.now t.columns.word_indices.now t.columns.masks.now

abbrev pub GraphOf : AbtmDualTopology → Graph → Type 0
GraphOf t g = (g.n ≡ t.rows.nrows) × SideOf t.rows.nrows t.rows g.topology.rows × SideOf t.rows.nrows t.columns g.topology.columns

-- and of a system
abbrev pub SystemOf : AbtmDualTopology → Csr32Matrix → DofMask → System → Type 0
SystemOf t m k s =
    SideOf t.rows.nrows t.rows s.local.rows × (s.local.region.len ≡ t.rows.nrows) × (s.local.region.words ≡ k.words) × (s.matrix.row_ptr ≡ m.row_ptr) × (s.matrix.col_idx ≡ m.col_idx)
