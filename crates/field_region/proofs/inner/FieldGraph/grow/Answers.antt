-- `field_region::inner::FieldGraph::grow` meets its contract. Assumes nothing.
use Rattle.std.proofs.Common.{refl, sym, ap, ◌∙◌, List, ℕ, length}
use lib.ListN.{length-replicate}
use Rattle.base.specs.Sets.{count_below}
use Rattle.base.proofs.Lists.{part_left, part-take}
use Rattle.mask.specs.Mask.{in_mask, words_needed}
use Rattle.mask.proofs.Masks.{mask-as, count-as}
use Rattle.dof_layout.specs.Layout.{start_of}
use Rattle.growth.proofs.Lent.{region-length, region_is, region-count, scratch-zero}
use Rattle.field_region.proofs.Growing.{block-count}
use Rattle.field_region.proofs.Accepted.{stats_are}
use Rattle.field_region.proofs.inner.FieldGraph.grow.Goals as goal

pub invariant_of-inside : goal.invariant_of-inside
invariant_of-inside c = record {
  accepted =
      let needed = c.words_for-need.ensures ∙ ap words_needed c.args.self.sized in
      mask-as _ _ _ _ c.args.self.sized (part-take _ _ _ _ c.grow_blocks-blocks.ensures.region_after (needed ∙ sym (region-length _ _ _))) (region_is _ _ _ c.args.self.layout.few);
}

pub returns-clause-value : goal.returns-clause-value
returns-clause-value c =
    let r = c.grow_blocks-blocks.ensures in
    let needed = c.words_for-need.ensures ∙ ap words_needed c.args.self.sized in
    let part = part-take _ _ _ _ r.region_after (needed ∙ sym (region-length _ _ _)) in
    stats_are _ _ _ _ _ _ _ r.value (count-as _ _ _ _ _ (c.requires.0 ∙ c.args.self.sized) refl c.count.ensures) (count-as _ _ _ _ _ c.args.self.sized part c.count-2.ensures ∙ region-count _ _ _ _ refl)
    (block-count _ _ c.args.self.layout.filled _ _ _ _ refl (c.count_blocks.ensures ∙ ap (λ (l : List ℕ). count_below (length c.args.self.layout.components.now) (λ b. in_mask l (start_of c.args.self.layout.components.now b))) part))

pub returns-clause-spent : goal.returns-clause-spent
returns-clause-spent c =
    let needed = c.words_for-need.ensures ∙ ap words_needed c.args.self.sized in
    part_left _ _ _ _ (scratch-zero _ _ c.grow_blocks-blocks.ensures.scratch_after) (needed ∙ sym (length-replicate _ _))
