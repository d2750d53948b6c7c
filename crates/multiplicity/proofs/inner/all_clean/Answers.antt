-- `multiplicity::inner::all_clean` meets its contract. Assumes nothing.
use Rattle.std.proofs.Common.{refl, ◌∙◌, arith, rules, tests}
use Rattle.std.proofs.lemmas.Iterator.{YieldsList-from_range}
use Rattle.std.proofs.lemmas.Iterator.Search.{all_from_yields_List}
use Rattle.multiplicity.proofs.Regions.{all_whole, all-last, last_none}
use Rattle.multiplicity.proofs.inner.all_clean.Goals as goal

pub returns-then-spare-eq0 : goal.returns-then-spare-eq0
returns-then-spare-eq0 c = all_whole _ _ _ c.requires.2 c.if-spare-eq0.true

pub returns : goal.returns
returns c =
    all_from_yields_List (last_none c.words_for-each.result c.args.node_count c.args.words.now) _ _ _ c.all.ensures.ran (YieldsList-from_range 0 c.args.region_count c.args.region_count refl (omega arith)) (λ x b q k. search (rules, tests))
    ∙ rw c.words_for-each.ensures (all-last _ _ _ c.requires.2 c.if-spare-eq0.false (search rules))
