-- `twins::keys::Keys::found_before` meets its contract. Assumes nothing.
use Rattle.std.proofs.Common.{refl, ◌∙◌, arith, rules, tests}
use Rattle.std.proofs.lemmas.Iterator.{YieldsList-from_range}
use Rattle.std.proofs.lemmas.Iterator.Search.{any_from_yields_List}
use Rattle.twins.specs.Views.{alike}
use Rattle.twins.proofs.Twins.{any-range, alike_at}
use Rattle.twins.proofs.keys.Keys.found_before.Goals as goal

pub returns : goal.returns
returns c =
    any_from_yields_List (λ a. alike c.args.self a c.args.b) _ _ _ c.any.ensures.ran (YieldsList-from_range 0 c.args.b c.args.b refl (omega arith)) (λ x b q k. search (rules, tests, alike_at))
    ∙ any-range (λ a. alike c.args.self a c.args.b) c.args.b
