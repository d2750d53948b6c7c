-- `repeated::repeated_growth` meets its contract: the lists that the checked growth left are written again with the same. Assumes nothing.
use mathlib.Core.Path.{◌≡◌, sym, ap, ◌∙◌}
use Rattle.std.specs.Prelude.{Ok}
use mathlib.Core.List.{List}
use Prim.Native.Nat.{ℕ, ◌≤◌}
use lib.ListN.{length, replicate, length-replicate}
use lib.Seq.{length-take-le}
use Rattle.base.proofs.Checks.{on-accepted}
use Rattle.mask.specs.Mask.{words_needed}
use Rattle.side.specs.Side.{side_holds}
use Rattle.dual_topology.specs.Check.{topology_check}
use Rattle.graph.specs.Network.{Network, plain_network, region_words, frontier_words}
use Rattle.growth.specs.Visits.{grown_by}
use Rattle.growth.proofs.Lent.{region-length, frontier-length, scratch-zero}
use Rattle.region.specs.Growth.{grow_check}
use Rattle.region.proofs.Accepted.{Accepts, accepted-growth}
use Rattle.repeated.proofs.Repeating.{left_is, again-room, again-left, grown-accepted, hops-told, side-pairs}
use Rattle.repeated.proofs.repeated_growth.Goals.{After-words_for-need, In-Ok, Start}
use Rattle.repeated.proofs.repeated_growth.Goals as goal

-- in this arm the checks accepted
module _ (c : In-Ok) where
  abbrev s : Start
  s = (goal.at.In-Ok c).Start

  ok : grow_check (topology_check s.args.topology.rows.nrows s.args.topology.rows.ncols s.args.topology.rows.row_word_ptr.now s.args.topology.rows.word_indices.now s.args.topology.rows.masks.now s.args.topology.rows.structural_nnz s.args.topology.columns.nrows s.args.topology.columns.ncols s.args.topology.columns.row_word_ptr.now s.args.topology.columns.word_indices.now s.args.topology.columns.masks.now s.args.topology.columns.structural_nnz) s.args.topology.rows.nrows s.args.topology.rows.ncols s.args.mask.len s.args.mask.words.now s.args.region.now s.args.frontier.now s.args.scratch.now ≡ Ok tt
  ok = grown-accepted _ (plain_network s.args.topology.rows.nrows (side_holds s.args.topology.rows.row_word_ptr.now s.args.topology.rows.word_indices.now s.args.topology.rows.masks.now)) s.args.mask.words.now s.args.hops _ (sym c.grow_undirected_region.ensures.value ∙ c.in-Ok.is)

  good : Accepts s.args.topology.rows.nrows s.args.topology.rows.row_word_ptr.now s.args.topology.rows.word_indices.now s.args.topology.rows.masks.now s.args.topology.columns.row_word_ptr.now s.args.topology.columns.word_indices.now s.args.topology.columns.masks.now s.args.mask.words.now (length s.args.region.now) (length s.args.frontier.now) (length s.args.scratch.now)
  good = accepted-growth s.args.topology.rows.nrows s.args.topology.rows.ncols s.args.topology.rows.row_word_ptr.now s.args.topology.rows.word_indices.now s.args.topology.rows.masks.now s.args.topology.rows.structural_nnz s.args.topology.columns.nrows s.args.topology.columns.ncols s.args.topology.columns.row_word_ptr.now s.args.topology.columns.word_indices.now s.args.topology.columns.masks.now s.args.topology.columns.structural_nnz s.args.mask.len s.args.mask.words.now s.args.region.now s.args.frontier.now s.args.scratch.now c.requires.rows c.requires.columns c.requires.mask ok

-- what each list needs, and the answers have
module _ (c : After-words_for-need) where
  abbrev t : Start
  t = (goal.at.After-words_for-need c).Start

  abbrev g : Network
  g = plain_network t.args.topology.rows.nrows (side_holds t.args.topology.rows.row_word_ptr.now t.args.topology.rows.word_indices.now t.args.topology.rows.masks.now)

  needed : c.words_for-need.result ≡ words_needed t.args.topology.rows.nrows
  needed = c.words_for-need.ensures

  abbrev inside : List ℕ
  inside = region_words g t.args.mask.words.now t.args.hops

  abbrev edge : List ℕ
  edge = frontier_words g t.args.mask.words.now t.args.hops

  abbrev zeros : List ℕ
  zeros = replicate (words_needed t.args.topology.rows.nrows) 0

  inside-long : c.words_for-need.result ≡ length inside
  inside-long = needed ∙ sym (region-length g t.args.mask.words.now t.args.hops)

  edge-long : c.words_for-need.result ≡ length edge
  edge-long = needed ∙ sym (frontier-length g t.args.mask.words.now t.args.hops)

  zeros-long : c.words_for-need.result ≡ length zeros
  zeros-long = needed ∙ sym (length-replicate _ _)

  room-region : c.words_for-need.result ≤ length c.grow_undirected_region.new.region
  room-region = again-room inside t.args.region.now _ _ (left_is _ _ _ _ (ok (goal.at.After-words_for-need c).In-Ok) c.grow_undirected_region.ensures.inside) inside-long

  room-frontier : c.words_for-need.result ≤ length c.grow_undirected_region.new.frontier
  room-frontier = again-room edge t.args.frontier.now _ _ (left_is _ _ _ _ (ok (goal.at.After-words_for-need c).In-Ok) c.grow_undirected_region.ensures.edge) edge-long

  room-scratch : c.words_for-need.result ≤ length c.grow_undirected_region.new.scratch
  room-scratch = again-room zeros t.args.scratch.now _ _ (left_is _ _ _ _ (ok (goal.at.After-words_for-need c).In-Ok) c.grow_undirected_region.ensures.spent) zeros-long

pub graph_of-graph-requires : goal.graph_of-graph-requires
graph_of-graph-requires c = (good (goal.at.graph_of-graph-requires c).In-Ok).topology

pub invariant_of-seeds : goal.invariant_of-seeds
invariant_of-seeds c = record { accepted = (good (goal.at.invariant_of-seeds c).In-Ok).mask }

pub words_for-need-requires : goal.words_for-need-requires
words_for-need-requires c = (good (goal.at.words_for-need-requires c).In-Ok).topology.rows.few_cols

pub slice_bounds-repeat-end : goal.slice_bounds-repeat-end
slice_bounds-repeat-end c = room-region (goal.at.slice_bounds-repeat-end c).After-words_for-need

pub slice_bounds-repeat-end-in-Ok : goal.slice_bounds-repeat-end-in-Ok
slice_bounds-repeat-end-in-Ok c = sym (length-take-le _ _ (room-region (goal.at.slice_bounds-repeat-end-in-Ok c).After-words_for-need))

pub slice_bounds-repeat-end-in-Ok-2 : goal.slice_bounds-repeat-end-in-Ok-2
slice_bounds-repeat-end-in-Ok-2 c = room-frontier (goal.at.slice_bounds-repeat-end-in-Ok-2 c).After-words_for-need

pub slice_bounds-repeat-end-in-Ok-3 : goal.slice_bounds-repeat-end-in-Ok-3
slice_bounds-repeat-end-in-Ok-3 c = sym (length-take-le _ _ (room-frontier (goal.at.slice_bounds-repeat-end-in-Ok-3 c).After-words_for-need))

pub repeat-grown-requires : goal.repeat-grown-requires
repeat-grown-requires c =
    let w = (goal.at.repeat-grown-requires c).After-words_for-need in
    let n = needed w ∙ ap words_needed (sym c.graph_of-graph.ensures.0) in
    (sym c.graph_of-graph.ensures.0, length-take-le _ _ (room-region w) ∙ n, length-take-le _ _ (room-frontier w) ∙ n, length-take-le _ _ (room-scratch w) ∙ n)

pub returns-in-Ok-clause-value : goal.returns-in-Ok-clause-value
returns-in-Ok-clause-value c =
    c.into-in-Ok.ensures
    ∙ hops-told _ (plain_network c.args.topology.rows.nrows (side_holds c.args.topology.rows.row_word_ptr.now c.args.topology.rows.word_indices.now c.args.topology.rows.masks.now)) c.args.mask.words.now c.args.hops _ (ok (goal.at.returns-in-Ok-clause-value c).In-Ok) (c.repeat-grown.ensures.value ∙ ap (λ (g : Network). grown_by g c.args.mask.words.now c.args.hops) (cc (c.graph_of-graph.ensures.0, side-pairs _ c.args.topology.rows c.graph_of-graph.result.topology.rows c.graph_of-graph.ensures.1)))

pub returns-in-Ok-clause-spent : goal.returns-in-Ok-clause-spent
returns-in-Ok-clause-spent c =
    let e = ok (goal.at.returns-in-Ok-clause-spent c).In-Ok in
    on-accepted _ _ _ _ e (again-left _ _ _ _ (left_is _ _ _ _ e c.grow_undirected_region.ensures.spent) (zeros-long (goal.at.returns-in-Ok-clause-spent c).After-words_for-need) _ (scratch-zero _ _ c.repeat-grown.ensures.scratch_after ∙ ap (λ (n : ℕ). replicate (words_needed n) 0) c.graph_of-graph.ensures.0))
