-- `region::grow` meets its contract. Assumes nothing.
use Rattle.std.proofs.Common.{◌≡◌, refl, sym, ap, ◌∙◌, subst, List, ℕ, length}
use lib.ListN.{length-replicate}
use Rattle.base.specs.Sets.{count_below}
use Rattle.base.proofs.Lists.{part_left, part-take}
use Rattle.mask.specs.Mask.{in_mask, IsMask}
use Rattle.side.specs.Views.{pairs}
use Rattle.graph.specs.Network.{Network, plain_network, region_words}
use Rattle.growth.proofs.Lent.{region-length, region_is, scratch-zero}
use Rattle.region.proofs.Accepted.{stats_are}
use Rattle.region.proofs.grow.Goals.{After-words_for-need}
use Rattle.region.proofs.grow.Goals as goal

module _ (c : After-words_for-need) where
  abbrev g : Network
  g = plain_network c.args.graph.n (pairs c.args.graph.topology.rows)

  -- the region has the length that it needs
  region_long : (h : ℕ) → c.words_for-need.result ≡ length (region_words g c.args.seeds.words.now h)
  region_long h = c.words_for-need.ensures ∙ sym (region-length g c.args.seeds.words.now h)

pub invariant_of-inside : goal.invariant_of-inside
invariant_of-inside c = record {
  accepted = subst (IsMask c.args.graph.n) (sym (part-take _ _ _ _ c.grow-grown.ensures.region_after (region_long (goal.at.invariant_of-inside c).After-words_for-need _))) (region_is _ _ _ c.args.graph.square.rows.few_cols);
}

pub returns-clause-value : goal.returns-clause-value
returns-clause-value c =
    stats_are (plain_network c.args.graph.n (pairs c.args.graph.topology.rows)) c.args.seeds.words.now (region_words (plain_network c.args.graph.n (pairs c.args.graph.topology.rows)) c.args.seeds.words.now c.args.hops) c.args.hops _ _ _ c.grow-grown.ensures.value refl
    (c.count.ensures ∙ ap (λ (n : ℕ). count_below n (in_mask c.args.seeds.words.now)) c.requires.0)
    (c.count-2.ensures ∙ ap (λ (l : List ℕ). count_below c.args.graph.n (in_mask l)) (part-take _ _ _ _ c.grow-grown.ensures.region_after (region_long (goal.at.returns-clause-value c).After-words_for-need c.args.hops)))

pub returns-clause-spent : goal.returns-clause-spent
returns-clause-spent c = part_left _ _ _ _ (scratch-zero _ _ c.grow-grown.ensures.scratch_after) (c.words_for-need.ensures ∙ sym (length-replicate _ _))
