-- `twins::orders::rises` meets its contract. Assumes nothing.
use Rattle.std.proofs.Common.{◌≡◌, sym, ap, ◌∙◌, Bool, ℕ, ◌-◌, arith, rules, tests, refl, get_or}
use Rattle.std.specs.List.{range_with_len}
use Rattle.std.proofs.lemmas.List.FromFn.{length-range_with_len, get_or-range_with_len}
use Rattle.std.proofs.lemmas.Iterator.{YieldsList-from_range}
use Rattle.std.proofs.lemmas.Iterator.Search.{all_from_yields_List}
use Rattle.base.proofs.Bools.{not-T-of}
use Rattle.base.proofs.Lists.{every-at}
use Rattle.base.proofs.Sets.{first-none}
use Rattle.twins.specs.Views.{above, repeats}
use Rattle.twins.proofs.Rising.{apart}
use Rattle.twins.proofs.orders.rises.Goals as goal

pub returns : goal.returns
returns g c = λ e.
    let keys = c.args.front.keys in
    let count = c.args.front.count in
    let rise : ℕ → Bool = λ b. above g.O.Ordered.order keys b (b - 1) in
    let all = all_from_yields_List rise _ _ _ c.all.ensures.ran (YieldsList-from_range 1 count (count - 1) refl (omega arith)) (λ x b q k. search (rules, tests)) in
    first-none count (repeats keys)
    (λ b l. not-T-of _
    (apart keys.kinds.now keys.ids.now keys.fields.now g.O.Ordered.order count
    (λ i m u.
    let at : get_or (range_with_len 1 (count - 1)) (i - 1) 0 ≡ i = get_or-range_with_len 1 (count - 1) (i - 1) 0 (omega arith) ∙ omega arith in
    ap rise (sym at) ∙ every-at rise 0 _ (i - 1) (sym all ∙ e) (omega (arith, length-range_with_len 1 (count - 1))))
    b l))
