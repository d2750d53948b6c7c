-- `field_region::inner::owned` meets its contract. Assumes nothing.
use Rattle.std.proofs.Common.{◌∙◌, ◌+◌, rules, tests, eqb, eq-eqb}
use Rattle.std.proofs.lemmas.Iterator.{YieldsList-from_slice}
use Rattle.std.proofs.lemmas.Iterator.Search.{all_from_yields_List}
use Rattle.field_region.proofs.Owning.{every-part, first-held}
use Rattle.field_region.proofs.inner.owned.Goals as goal

pub returns : goal.returns
returns c =
    all_from_yields_List (λ x. eqb x c.args.owner) _ _ _ c.all.ensures.ran (YieldsList-from_slice _ cc) (λ x b q k. search (rules, tests))
    ∙ every-part (λ x. eqb x c.args.owner) c.args.dof_owners.now (c.args.start + 1) c.args.end c.requires.1
    ∙ first-held (λ x. eqb x c.args.owner) c.args.dof_owners.now c.args.start c.args.end c.requires.0 (eq-eqb _ _ c.requires.2)
