-- `field_region::inner::count_blocks` meets its contract. Assumes nothing.
use Rattle.std.proofs.Common.{◌∙◌, arith, rules, tests, Bool, ℕ, length}
use Rattle.std.proofs.lemmas.Iterator.{YieldsList-from_range}
use Rattle.std.proofs.lemmas.Iterator.Consumers.{YieldsList-from_filter, count_from_yields_List}
use Rattle.std.proofs.iter.Serving.{serving}
use Rattle.base.proofs.Passes.{kept-range}
use Rattle.mask.specs.Mask.{in_mask}
use Rattle.dof_layout.specs.Layout.{start_of}
use Rattle.field_region.proofs.Blocks.{first-node}
use Rattle.field_region.proofs.inner.count_blocks.Goals as goal

pub count-requires-clause-can : goal.count-requires-clause-can
count-requires-clause-can c = grind (serving, first-node)

pub returns : goal.returns
returns c =
    let cs = c.args.layout.components.now in
    let p : ℕ → Bool = λ b. in_mask c.args.region.words.now (start_of cs b) in
    count_from_yields_List c.filter.result _ c.count.ensures.ran
    (YieldsList-from_filter _ p (YieldsList-from_range 0 (length cs) (length cs) c.filter.ensures.source (omega arith)) c.filter.ensures.closure (λ x b q k. search (rules, tests)))
    ∙ kept-range p (length cs)
