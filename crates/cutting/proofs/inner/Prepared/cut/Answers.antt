-- `cutting::inner::Prepared::cut` meets its contract. Assumes nothing.
use mathlib.Core.Path.{◌≡◌, sym, ap, ap₂, ◌∙◌}
use mathlib.Core.Bool.{Bool}
use mathlib.Core.List.{List}
use Prim.Native.Nat.{ℕ, ◌+◌, ◌≤◌}
use native.Mathlib.Omega.{arith}
use lib.ListN.{length, take}
use lib.Seq.{length-take-le}
use Rattle.base.specs.Lists.{over, over_with_zeros}
use Rattle.base.specs.Sets.{members_below}
use Rattle.base.proofs.Lists.{over-own}
use Rattle.csr32.specs.Matrix.{stored}
use Rattle.mask.specs.Mask.{in_mask, words_needed}
use Rattle.mask.proofs.Masks.{mask-as}
use Rattle.graph.specs.Network.{Network, field_network, region_words, frontier_words}
use Rattle.growth.proofs.Lent.{region-length, region_is}
use Rattle.field_region.specs.Growth.{field_stats}
use Rattle.side.specs.Views.{pairs}
use Rattle.field_region.specs.declared.FieldAwareRegionStats.{FieldAwareRegionStats}
use Rattle.pattern.specs.Pattern.{pattern_ptr, pattern_columns}
use Rattle.gather.specs.Plan.{plan_sources, plan_ptr}
use Rattle.cutting.specs.Cut.{lists_of}
use Rattle.cutting.specs.Views.{network}
use Rattle.cutting.specs.Steps.{local_stats}
use Rattle.cutting.specs.declared.LocalStats.{LocalStats}
use Rattle.cutting.proofs.inner.Prepared.cut.Goals.{After-words_for-need, Start}
use Rattle.cutting.proofs.inner.Prepared.cut.Goals as goal

-- the region that was grown, and the part of its list that holds it
module _ (c : After-words_for-need) where
  abbrev t : Start
  t = (goal.at.After-words_for-need c).Start

  abbrev grown : Network
  grown = field_network t.args.self.fields.layout.components.now (pairs t.args.self.fields.graph.topology.rows)

  abbrev lent : List ℕ
  lent = c.grow-growth.new.region

  fits : c.words_for-need.result ≤ length lent
  fits = omega (arith, c.words_for-need.ensures, t.requires.masks.inside, c.grow-growth.auto.region)

  own : take c.words_for-need.result lent ≡ region_words grown t.args.seeds.words.now t.args.hops
  own = ap (take c.words_for-need.result) c.grow-growth.ensures.inside ∙ over-own _ _ _ (region-length grown t.args.seeds.words.now t.args.hops ∙ sym (c.words_for-need.ensures ∙ ap words_needed t.args.self.fields.sized))

  same : take c.words_for-need.result lent ≡ region_words (network t.args.self) t.args.seeds.words.now t.args.hops
  same = own ∙ ap (λ (p : ℕ → ℕ → Bool). region_words (field_network t.args.self.fields.layout.components.now p) t.args.seeds.words.now t.args.hops) t.args.self.own

pub slice_bounds-plan-end : goal.slice_bounds-plan-end
slice_bounds-plan-end c = fits ((goal.at.slice_bounds-plan-end c).After-words_for-need)

pub slice_bounds-plan-end-2 : goal.slice_bounds-plan-end-2
slice_bounds-plan-end-2 c = sym (length-take-le _ _ (fits (goal.at.slice_bounds-plan-end-2 c).After-words_for-need))

pub plan-local-requires : goal.plan-local-requires
plan-local-requires c =
    let sized = c.args.self.fields.sized in
    record { mask = mask-as _ _ _ _ sized (own (goal.at.plan-local-requires c).After-words_for-need) (region_is (grown (goal.at.plan-local-requires c).After-words_for-need) _ _ c.args.self.fields.layout.few); fits = c.requires.lists }

pub returns : goal.returns
returns c =
    let e = same (goal.at.returns c).After-words_for-need in
    let r = c.grow-growth.ensures in
    let l = c.plan-local.ensures in
    let is = c.args.self.own in
    let n = c.args.self.fields.graph.n in
    let ptr = c.args.self.matrix.row_ptr.now in
    let cols = c.args.self.matrix.col_idx.now in
    let components = c.args.self.fields.layout.components.now in
    let seeds = c.args.seeds.words.now in record {
      value = ap₂ (λ (x : FieldAwareRegionStats) (y : LocalStats). record { growth = x; local = y }) (r.value ∙ ap (λ (t : ℕ → ℕ → Bool). field_stats (field_network components t) seeds c.args.hops) is) (l.value ∙ ap (λ (w : List ℕ). local_stats n (in_mask w) ptr cols) e);
      inside = r.inside ∙ ap (λ (t : ℕ → ℕ → Bool). over (region_words (field_network components t) seeds c.args.hops) c.args.region.now) is;
      edge = r.edge ∙ ap (λ (t : ℕ → ℕ → Bool). over (frontier_words (field_network components t) seeds c.args.hops) c.args.frontier.now) is;
      spent = r.spent;
      members = l.members ∙ ap (λ (w : List ℕ). over_with_zeros (members_below n (in_mask w)) n c.args.global_nodes.now) e;
      pointers = l.pointers ∙ ap (λ (w : List ℕ). over_with_zeros (pattern_ptr n (in_mask w) (stored ptr cols)) (n + 1) c.args.local_row_ptr.now) e;
      columns = l.columns ∙ ap (λ (w : List ℕ). over_with_zeros (pattern_columns n (in_mask w) (stored ptr cols)) (length cols) c.args.local_col_idx.now) e;
      source_pointers = l.source_pointers ∙ ap (λ (w : List ℕ). over_with_zeros (plan_ptr (lists_of n (in_mask w) ptr cols)) (length cols + 1) c.args.source_ptr.now) e;
      sources = l.sources ∙ ap (λ (w : List ℕ). over_with_zeros (plan_sources (lists_of n (in_mask w) ptr cols)) (length cols) c.args.source_indices.now) e;
    }
