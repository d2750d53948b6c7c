-- `mask::inner::Mask::count` meets its contract. Assumes nothing.
use Rattle.std.proofs.Common.{◌∙◌, ◌^◌, arith, rules}
use Rattle.std.proofs.lemmas.Iterator.{YieldsList-from_slice, YieldsList-from_map}
use Rattle.std.proofs.lemmas.Iterator.Consumers.{YieldsList-at, sum_by_from_yields_List, fits_by_from_yields_list}
use lib.Count.{ones}
use Rattle.base.proofs.Sets.{count-le}
use Rattle.mask.specs.Mask.{in_mask}
use Rattle.mask.proofs.Passes.{count-list}
use Rattle.mask.proofs.inner.Mask.count.Goals as goal

pub sum-requires-clause-fits : goal.sum-requires-clause-fits
sum-requires-clause-fits c =
    let m = c.args.self in
    fits_by_from_yields_list ones _ c.map.result (2 ^ 64)
    (YieldsList-from_map _ ones (YieldsList-at c.map.ensures.source (YieldsList-from_slice m.words.now c.iter.ensures.rest)) c.map.ensures.closure (λ x b q k. search rules))
    (omega (arith, count-list m.len m.words.now m.accepted, count-le m.len (in_mask m.words.now), m.accepted.short))

pub returns : goal.returns
returns c =
    let m = c.args.self in
    sum_by_from_yields_List ones _ c.map.result _ c.sum.ensures.ran
    (YieldsList-from_map _ ones (YieldsList-at c.map.ensures.source (YieldsList-from_slice m.words.now c.iter.ensures.rest)) c.map.ensures.closure (λ x b q k. search rules))
    ∙ count-list m.len m.words.now m.accepted
