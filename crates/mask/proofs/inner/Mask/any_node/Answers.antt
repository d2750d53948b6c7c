-- `mask::inner::Mask::any_node` meets its contract. Assumes nothing.
use Rattle.std.proofs.Common.{rules, tests, ◌∙◌, not}
use Rattle.std.proofs.lemmas.Iterator.{YieldsList-from_slice}
use Rattle.std.proofs.lemmas.Iterator.Search.{any_from_yields_List}
use lib.Dec.{eqb}
use Rattle.mask.proofs.Passes.{any-list}
use Rattle.mask.proofs.inner.Mask.any_node.Goals as goal

pub returns : goal.returns
returns c =
    any_from_yields_List (λ x. not (eqb x 0)) _ _ _ c.any.ensures.ran (YieldsList-from_slice c.args.self.words.now cc) (λ x b q k. search (rules, tests))
    ∙ any-list _ _ c.args.self.accepted
