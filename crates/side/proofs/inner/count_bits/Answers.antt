-- `side::inner::count_bits` meets its contract. Assumes nothing.
use Rattle.std.proofs.Common.{◌∙◌, ◌^◌, arith, rules}
use Rattle.std.proofs.lemmas.Iterator.{YieldsList-from_slice, YieldsList-from_map}
use Rattle.std.proofs.lemmas.Iterator.Consumers.{YieldsList-at, sum_by_from_yields_List, fits_by_from_yields_list}
use lib.Count.{ones}
use Rattle.side.proofs.Sides.{bits-list, bits-le}
use Rattle.side.proofs.inner.count_bits.Goals as goal

pub sum-requires-clause-fits : goal.sum-requires-clause-fits
sum-requires-clause-fits c =
    let a = c.args in
    fits_by_from_yields_list ones _ c.map.result (2 ^ 64)
    (YieldsList-from_map _ ones (YieldsList-at c.map.ensures.source (YieldsList-from_slice _ c.iter.ensures.rest)) c.map.ensures.closure (λ x b q k. search rules))
    (omega (arith, bits-list a.masks.now a.from a.to c.requires.1 (λ k. (c.type_inv.masks k).fits), bits-le a.masks.now a.from a.to, c.requires.2))

pub returns : goal.returns
returns c =
    let a = c.args in
    sum_by_from_yields_List ones _ c.map.result _ c.sum.ensures.ran
    (YieldsList-from_map _ ones (YieldsList-at c.map.ensures.source (YieldsList-from_slice _ c.iter.ensures.rest)) c.map.ensures.closure (λ x b q k. search rules))
    ∙ bits-list a.masks.now a.from a.to c.requires.1 (λ k. (c.type_inv.masks k).fits)
