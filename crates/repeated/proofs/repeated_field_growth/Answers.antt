-- `repeated::repeated_field_growth` meets its contract: the lists that the checked growth left are written again with the same. Assumes nothing.
use mathlib.Core.Path.{◌≡◌, sym, ap, ◌∙◌, subst}
use Rattle.std.specs.Prelude.{Ok}
use mathlib.Core.Bool.{Bool}
use mathlib.Core.List.{List}
use Prim.Native.Nat.{ℕ, ◌≤◌}
use native.Mathlib.Omega.{arith}
use lib.ListN.{length, replicate, length-replicate}
use lib.Seq.{length-take-le}
use Rattle.base.proofs.Checks.{on-accepted}
use Rattle.mask.specs.Mask.{words_needed, IsMask}
use Rattle.dof_layout.specs.Layout.{total_of}
use Rattle.dof_layout.specs.Answers.{square_check}
use Rattle.side.specs.Side.{side_holds}
use Rattle.dual_topology.specs.Check.{topology_check, IsTopology}
use Rattle.graph.specs.Network.{Network, field_network, region_words, frontier_words}
use Rattle.growth.proofs.Lent.{region-length, frontier-length, scratch-zero}
use Rattle.field_region.specs.Growth.{field_grow_check, blocks_grown_by}
use Rattle.field_region.proofs.Accepted.{Accepts, accepted-growth}
use Rattle.repeated.proofs.Repeating.{left_is, again-room, again-left, field-accepted, field-hops-told, side-pairs}
use Rattle.repeated.proofs.repeated_field_growth.Goals.{After-words_for-need, In-Ok, Start}
use Rattle.repeated.proofs.repeated_field_growth.Goals as goal

-- in this arm the checks accepted
module _ (c : In-Ok) where
  abbrev s : Start
  s = (goal.at.In-Ok c).Start

  ok : field_grow_check (topology_check s.args.topology.rows.nrows s.args.topology.rows.ncols s.args.topology.rows.row_word_ptr.now s.args.topology.rows.word_indices.now s.args.topology.rows.masks.now s.args.topology.rows.structural_nnz s.args.topology.columns.nrows s.args.topology.columns.ncols s.args.topology.columns.row_word_ptr.now s.args.topology.columns.word_indices.now s.args.topology.columns.masks.now s.args.topology.columns.structural_nnz) (square_check s.args.layout.blocks.entity_kinds.now s.args.layout.blocks.entity_ids.now s.args.layout.blocks.field_ids.now s.args.layout.blocks.components.now s.args.layout.offsets.now s.args.topology.rows.nrows s.args.topology.rows.ncols) (total_of s.args.layout.blocks.components.now) s.args.mask.len s.args.mask.words.now s.args.region.now s.args.frontier.now s.args.scratch.now ≡ Ok tt
  ok = field-accepted _ (field_network s.args.layout.blocks.components.now (side_holds s.args.topology.rows.row_word_ptr.now s.args.topology.rows.word_indices.now s.args.topology.rows.masks.now)) s.args.mask.words.now s.args.hops _ (sym c.grow_field_aware_region.ensures.value ∙ c.in-Ok.is)

  good : Accepts s.args.topology.rows.nrows s.args.layout.blocks.entity_kinds.now s.args.layout.blocks.entity_ids.now s.args.layout.blocks.field_ids.now s.args.layout.blocks.components.now s.args.layout.offsets.now s.args.topology.rows.row_word_ptr.now s.args.topology.rows.word_indices.now s.args.topology.rows.masks.now s.args.topology.columns.row_word_ptr.now s.args.topology.columns.word_indices.now s.args.topology.columns.masks.now s.args.mask.words.now (length s.args.region.now) (length s.args.frontier.now) (length s.args.scratch.now)
  good = accepted-growth s.args.topology.rows.nrows s.args.topology.rows.ncols s.args.topology.rows.row_word_ptr.now s.args.topology.rows.word_indices.now s.args.topology.rows.masks.now s.args.topology.rows.structural_nnz s.args.topology.columns.nrows s.args.topology.columns.ncols s.args.topology.columns.row_word_ptr.now s.args.topology.columns.word_indices.now s.args.topology.columns.masks.now s.args.topology.columns.structural_nnz s.args.layout.blocks.entity_kinds.now s.args.layout.blocks.entity_ids.now s.args.layout.blocks.field_ids.now s.args.layout.blocks.components.now s.args.layout.offsets.now s.args.mask.len s.args.mask.words.now s.args.region.now s.args.frontier.now s.args.scratch.now c.requires.rows c.requires.columns c.requires.mask ok

  -- of the rows' nodes
  square : IsTopology s.args.topology.rows.nrows s.args.topology.rows.nrows s.args.topology.rows.row_word_ptr.now s.args.topology.rows.word_indices.now s.args.topology.rows.masks.now s.args.topology.columns.row_word_ptr.now s.args.topology.columns.word_indices.now s.args.topology.columns.masks.now
  square =
      subst (λ (n : ℕ). IsTopology n n s.args.topology.rows.row_word_ptr.now s.args.topology.rows.word_indices.now s.args.topology.rows.masks.now s.args.topology.columns.row_word_ptr.now s.args.topology.columns.word_indices.now s.args.topology.columns.masks.now) (sym good.side) good.topology

  seeds : IsMask s.args.topology.rows.nrows s.args.mask.words.now
  seeds = subst (λ (n : ℕ). IsMask n s.args.mask.words.now) (sym good.side) good.mask

-- what each list needs, and the answers have
module _ (c : After-words_for-need) where
  abbrev t : Start
  t = (goal.at.After-words_for-need c).Start

  abbrev g : Network
  g = field_network t.args.layout.blocks.components.now (side_holds t.args.topology.rows.row_word_ptr.now t.args.topology.rows.word_indices.now t.args.topology.rows.masks.now)

  needed : c.words_for-need.result ≡ words_needed (total_of t.args.layout.blocks.components.now)
  needed = c.words_for-need.ensures ∙ ap words_needed (good (goal.at.After-words_for-need c).In-Ok).side

  abbrev inside : List ℕ
  inside = region_words g t.args.mask.words.now t.args.hops

  abbrev edge : List ℕ
  edge = frontier_words g t.args.mask.words.now t.args.hops

  abbrev zeros : List ℕ
  zeros = replicate (words_needed (total_of t.args.layout.blocks.components.now)) 0

  inside-long : c.words_for-need.result ≡ length inside
  inside-long = needed ∙ sym (region-length g t.args.mask.words.now t.args.hops)

  edge-long : c.words_for-need.result ≡ length edge
  edge-long = needed ∙ sym (frontier-length g t.args.mask.words.now t.args.hops)

  zeros-long : c.words_for-need.result ≡ length zeros
  zeros-long = needed ∙ sym (length-replicate _ _)

  room-region : c.words_for-need.result ≤ length c.grow_field_aware_region.new.region
  room-region = again-room inside t.args.region.now _ _ (left_is _ _ _ _ (ok (goal.at.After-words_for-need c).In-Ok) c.grow_field_aware_region.ensures.inside) inside-long

  room-frontier : c.words_for-need.result ≤ length c.grow_field_aware_region.new.frontier
  room-frontier = again-room edge t.args.frontier.now _ _ (left_is _ _ _ _ (ok (goal.at.After-words_for-need c).In-Ok) c.grow_field_aware_region.ensures.edge) edge-long

  room-scratch : c.words_for-need.result ≤ length c.grow_field_aware_region.new.scratch
  room-scratch = again-room zeros t.args.scratch.now _ _ (left_is _ _ _ _ (ok (goal.at.After-words_for-need c).In-Ok) c.grow_field_aware_region.ensures.spent) zeros-long

pub field_graph_of-graph-requires : goal.field_graph_of-graph-requires
field_graph_of-graph-requires c =
    let a = (goal.at.field_graph_of-graph-requires c).In-Ok in
    (square a, (good a).layout, (good a).side)

pub invariant_of-seeds : goal.invariant_of-seeds
invariant_of-seeds c = record { accepted = seeds (goal.at.invariant_of-seeds c).In-Ok }

pub words_for-need-requires : goal.words_for-need-requires
words_for-need-requires c = omega (arith, (good (goal.at.words_for-need-requires c).In-Ok).side, (good (goal.at.words_for-need-requires c).In-Ok).layout.blocks.short)

pub slice_bounds-repeat_blocks-end : goal.slice_bounds-repeat_blocks-end
slice_bounds-repeat_blocks-end c = room-region (goal.at.slice_bounds-repeat_blocks-end c).After-words_for-need

pub slice_bounds-repeat_blocks-end-in-Ok : goal.slice_bounds-repeat_blocks-end-in-Ok
slice_bounds-repeat_blocks-end-in-Ok c = sym (length-take-le _ _ (room-region (goal.at.slice_bounds-repeat_blocks-end-in-Ok c).After-words_for-need))

pub slice_bounds-repeat_blocks-end-in-Ok-2 : goal.slice_bounds-repeat_blocks-end-in-Ok-2
slice_bounds-repeat_blocks-end-in-Ok-2 c = room-frontier (goal.at.slice_bounds-repeat_blocks-end-in-Ok-2 c).After-words_for-need

pub slice_bounds-repeat_blocks-end-in-Ok-3 : goal.slice_bounds-repeat_blocks-end-in-Ok-3
slice_bounds-repeat_blocks-end-in-Ok-3 c = sym (length-take-le _ _ (room-frontier (goal.at.slice_bounds-repeat_blocks-end-in-Ok-3 c).After-words_for-need))

pub slice_bounds-repeat_blocks-end-in-Ok-4 : goal.slice_bounds-repeat_blocks-end-in-Ok-4
slice_bounds-repeat_blocks-end-in-Ok-4 c = room-scratch (goal.at.slice_bounds-repeat_blocks-end-in-Ok-4 c).After-words_for-need

pub slice_bounds-repeat_blocks-end-in-Ok-5 : goal.slice_bounds-repeat_blocks-end-in-Ok-5
slice_bounds-repeat_blocks-end-in-Ok-5 c = sym (length-take-le _ _ (room-scratch (goal.at.slice_bounds-repeat_blocks-end-in-Ok-5 c).After-words_for-need))

pub repeat_blocks-grown-requires : goal.repeat_blocks-grown-requires
repeat_blocks-grown-requires c =
    let w = (goal.at.repeat_blocks-grown-requires c).After-words_for-need in
    let n = c.words_for-need.ensures ∙ ap words_needed (sym c.field_graph_of-graph.ensures.0.0) in
    (sym c.field_graph_of-graph.ensures.0.0, length-take-le _ _ (room-region w) ∙ n, length-take-le _ _ (room-frontier w) ∙ n, length-take-le _ _ (room-scratch w) ∙ n)

pub returns-in-Ok-clause-value : goal.returns-in-Ok-clause-value
returns-in-Ok-clause-value c =
    c.into-in-Ok.ensures
    ∙ field-hops-told _ (field_network c.args.layout.blocks.components.now (side_holds c.args.topology.rows.row_word_ptr.now c.args.topology.rows.word_indices.now c.args.topology.rows.masks.now)) c.args.mask.words.now c.args.hops _ (ok (goal.at.returns-in-Ok-clause-value c).In-Ok) ((rw c.field_graph_of-graph.ensures.1 at c.repeat_blocks-grown.ensures.value) ∙ ap (λ (p : ℕ → ℕ → Bool). blocks_grown_by (field_network c.args.layout.blocks.components.now p) c.args.mask.words.now c.args.hops) (side-pairs _ c.args.topology.rows c.field_graph_of-graph.result.graph.topology.rows c.field_graph_of-graph.ensures.0.1))

pub returns-in-Ok-clause-spent : goal.returns-in-Ok-clause-spent
returns-in-Ok-clause-spent c =
    let e = ok (goal.at.returns-in-Ok-clause-spent c).In-Ok in
    on-accepted _ _ _ _ e (again-left _ _ _ _ (left_is _ _ _ _ e c.grow_field_aware_region.ensures.spent) (zeros-long (goal.at.returns-in-Ok-clause-spent c).After-words_for-need) _ (scratch-zero _ _ (rw c.field_graph_of-graph.ensures.1 at c.repeat_blocks-grown.ensures.scratch_after)))
