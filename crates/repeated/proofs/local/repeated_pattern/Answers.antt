-- `repeated::local::repeated_pattern` meets its contract: the lists that the checked pattern left are written again with the same. Assumes
-- nothing.
use mathlib.Core.Path.{◌≡◌, sym, ap, ◌∙◌}
use Rattle.std.specs.Prelude.{Ok}
use mathlib.Core.Bool.{Bool}
use Prim.Native.Nat.{ℕ}
use native.Mathlib.Omega.{arith}
use Rattle.base.specs.Lists.{over}
use Rattle.base.specs.Sets.{members_below}
use Rattle.mask.specs.Mask.{in_mask}
use Rattle.side.specs.Side.{side_holds}
use Rattle.dual_topology.specs.Check.{topology_check}
use Rattle.pattern.specs.Pattern.{pattern_check, pattern_ptr, pattern_columns, pairs_inside}
use Rattle.pattern.proofs.Accepted.{Accepts, Fits, accepted-pattern}
use Rattle.repeated.proofs.Repeating.{side-pairs}
use Rattle.repeated.proofs.Rewriting.{holds, pattern-accepted}
use Rattle.repeated.proofs.local.repeated_pattern.Goals.{In-Ok, Start}
use Rattle.repeated.proofs.local.repeated_pattern.Goals as goal

-- in this arm the checks accepted
module _ (c : In-Ok) where
  abbrev s : Start
  s = (goal.at.In-Ok c).Start

  abbrev pairs : ℕ → ℕ → Bool
  pairs = side_holds s.args.topology.rows.row_word_ptr.now s.args.topology.rows.word_indices.now s.args.topology.rows.masks.now

  ok : pattern_check (topology_check s.args.topology.rows.nrows s.args.topology.rows.ncols s.args.topology.rows.row_word_ptr.now s.args.topology.rows.word_indices.now s.args.topology.rows.masks.now s.args.topology.rows.structural_nnz s.args.topology.columns.nrows s.args.topology.columns.ncols s.args.topology.columns.row_word_ptr.now s.args.topology.columns.word_indices.now s.args.topology.columns.masks.now s.args.topology.columns.structural_nnz) s.args.topology.rows.nrows s.args.topology.rows.ncols s.args.mask.len s.args.mask.words.now pairs s.args.global_nodes.now s.args.row_ptr.now s.args.col_idx.now ≡ Ok tt
  ok = pattern-accepted _ s.args.topology.rows.nrows (in_mask s.args.mask.words.now) pairs _ (sym c.extract_local_submatrix_pattern.ensures.value ∙ c.in-Ok.is)

  good : Accepts s.args.topology.rows.nrows s.args.topology.rows.row_word_ptr.now s.args.topology.rows.word_indices.now s.args.topology.rows.masks.now s.args.topology.columns.row_word_ptr.now s.args.topology.columns.word_indices.now s.args.topology.columns.masks.now s.args.mask.words.now
      × Fits s.args.topology.rows.nrows (in_mask s.args.mask.words.now) pairs s.args.global_nodes.now s.args.row_ptr.now s.args.col_idx.now
  good =
      accepted-pattern s.args.topology.rows.nrows s.args.topology.rows.ncols s.args.topology.rows.row_word_ptr.now s.args.topology.rows.word_indices.now s.args.topology.rows.masks.now s.args.topology.rows.structural_nnz s.args.topology.columns.nrows s.args.topology.columns.ncols s.args.topology.columns.row_word_ptr.now s.args.topology.columns.word_indices.now s.args.topology.columns.masks.now s.args.topology.columns.structural_nnz s.args.mask.len s.args.mask.words.now pairs s.args.global_nodes.now s.args.row_ptr.now s.args.col_idx.now c.requires.rows c.requires.columns c.requires.mask ok

pub side_of-rows-requires : goal.side_of-rows-requires
side_of-rows-requires c = (good (goal.at.side_of-rows-requires c).In-Ok).0.topology.rows

pub invariant_of-region : goal.invariant_of-region
invariant_of-region c = record { accepted = (good (goal.at.invariant_of-region c).In-Ok).0.mask }

pub repeat_pattern-requires : goal.repeat_pattern-requires
repeat_pattern-requires c =
    let e = ok (goal.at.repeat_pattern-requires c).In-Ok in
    let f = (good (goal.at.repeat_pattern-requires c).In-Ok).1 in
    let p = in_mask c.args.mask.words.now in
    let left = c.extract_local_submatrix_pattern.ensures in
    let same = side-pairs _ c.args.topology.rows c.side_of-rows.result c.side_of-rows.ensures in
    (omega (arith, f.nodes_room), omega (arith, f.ptr_room), omega (arith, f.columns_room, ap (pairs_inside c.args.topology.rows.nrows p) same), holds _ (members_below c.args.topology.rows.nrows p) c.args.global_nodes.now _ e left.members, ap (λ (q : ℕ → ℕ → Bool). over (pattern_ptr c.args.topology.rows.nrows p q) c.extract_local_submatrix_pattern.new.row_ptr) same ∙ holds _ (pattern_ptr c.args.topology.rows.nrows p (pairs (goal.at.repeat_pattern-requires c).In-Ok)) c.args.row_ptr.now _ e left.pointers, ap (λ (q : ℕ → ℕ → Bool). over (pattern_columns c.args.topology.rows.nrows p q) c.extract_local_submatrix_pattern.new.col_idx) same ∙ holds _ (pattern_columns c.args.topology.rows.nrows p (pairs (goal.at.repeat_pattern-requires c).In-Ok)) c.args.col_idx.now _ e left.columns)
