-- `gather::inner::Plan::gather` meets its contract. Assumes nothing.
use mathlib.Core.Path.{◌≡◌, sym, ◌∙◌, ap}
use mathlib.Core.Bool.{Bool, true, false, cond}
use Prim.Native.Nat.{◌-◌}
use native.Mathlib.Omega.{arith}
use lib.ListN.{length}
use Rattle.base.specs.Lists.{over}
use Rattle.gather.specs.Gather.{values_of, is_one_each, summed, gathered}
use Rattle.gather.proofs.Plans.{one-each-at}
use Rattle.gather.proofs.inner.Plan.gather.Goals as goal

pub copy_sources-requires : goal.copy_sources-requires
copy_sources-requires c =
    let p = c.args.self.ptr.now in
    let one : is_one_each p ≡ true = sym c.one_each.ensures ∙ c.if-one_each.true in
    let last = one-each-at p (length p - 1) one (omega (arith, c.args.self.some)) in
    omega (arith, last, c.args.self.starts, c.args.self.ends, c.requires)

pub returns-then-one_each : goal.returns-then-one_each
unfolding gathered
returns-then-one_each c =
    let a = c.args in
    let one : is_one_each a.self.ptr.now ≡ true = sym c.one_each.ensures ∙ c.if-one_each.true in
    c.copy_sources.ensures ∙ ap (λ (b : Bool). over (cond b (values_of a.self.values.now a.self.sources.now) (summed a.self.ptr.now a.self.sources.now a.self.values.now)) a.out.now) (sym one)

pub returns : goal.returns
unfolding gathered
returns c =
    let a = c.args in
    let one : is_one_each a.self.ptr.now ≡ false = sym c.one_each.ensures ∙ c.if-one_each.false in
    c.sum_pairs.ensures ∙ ap (λ (b : Bool). over (cond b (values_of a.self.values.now a.self.sources.now) (summed a.self.ptr.now a.self.sources.now a.self.values.now)) a.out.now) (sym one)
