-- `text_writing::inner::RefSliceU32Text::length` meets its contract. Assumes nothing.
use Rattle.std.proofs.Common.{◌≡◌, ◌+◌, ◌^◌, ◌≤◌, length, arith, rules}
use Rattle.std.specs.List.{sum_by}
use Rattle.std.proofs.lemmas.Iterator.{YieldsList-from_slice, YieldsList-from_map}
use Rattle.std.proofs.lemmas.Iterator.Consumers.{sum_by_from_yields_List}
use Rattle.std.proofs.lemmas.Iterator.Adapters.{fits_from_length, at_most_from_yields_List}
use Rattle.text_writing.specs.Text.{decimal, numbers}
use Rattle.text_writing.proofs.Digits.{decimal-most}
use Rattle.text_writing.proofs.Lists.{length-numbers, numbers-least}
use Rattle.text_writing.proofs.inner.RefSliceU32Text.length.Goals as goal

pub sum-digits-requires-clause-fits : goal.sum-digits-requires-clause-fits
sum-digits-requires-clause-fits c =
    let few : length c.args.self.now ≤ 4294967295 = omega (arith, c.requires, numbers-least c.args.self.now) in
    fits_from_length _ _ 4294967295 (2 ^ 64) (at_most_from_yields_List (YieldsList-from_slice c.args.self.now cc) few) c.map.ensures.closure (omega arith) (λ x r q k. search (rules, decimal-most))

-- the digits, and so many commas as there are numbers but one
whole : (c : goal.After-saturating_sub) → c.sum-digits.result + c.saturating_sub.result ≡ length (numbers c.args.self.now)
whole c =
    let digits : c.sum-digits.result ≡ sum_by (λ x. length (decimal x)) c.args.self.now = sum_by_from_yields_List _ _ c.map.result _ c.sum-digits.ensures.ran (YieldsList-from_map _ (λ x. length (decimal x)) (YieldsList-from_slice c.args.self.now cc) c.map.ensures.closure (λ x r q k. search rules)) in
    omega (arith, digits, c.saturating_sub.ensures, length-numbers c.args.self.now)

pub overflow_add-result : goal.overflow_add-result
overflow_add-result c = omega (arith, whole c, c.requires)

pub returns : goal.returns
returns c = whole c
