-- `gather::inner::Plan::one_each` meets its contract. The scan's invariant: no step differs from one so far exactly where the pointers so far pass.
-- Assumes nothing.
use mathlib.Core.Path.{◌≡◌, sym, ◌∙◌, ap₂}
use mathlib.Core.Bool.{◌&&◌}
use Prim.Native.Nat.{ℕ, ◌+◌, ◌-◌, ◌≤◌}
use native.Mathlib.Omega.{arith}
use lib.Bits.{bit_or, bit_xor, xor_self}
use lib.Dec.{eqb}
use lib.ListN.{get_or}
use Rattle.std.proofs.lemmas.Bool.Decides.{nat_tests}
use Rattle.base.proofs.Bits.{or-none, xor_same}
use Rattle.gather.proofs.Plans.{ptr-rises, pairwise_more}
use Rattle.gather.proofs.inner.Plan.one_each.Goals as goal

-- nothing differs in two parts exactly where nothing differs in either
none_of_both : (x y : ℕ) → eqb (bit_or x y) 0 ≡ (eqb x 0 && eqb y 0)
none_of_both x y = grind (arith, nat_tests, or-none x y)

-- a step from a up to b is of one
by_one : (a b : ℕ) → a ≤ b → eqb (bit_xor (b - a) 1) 0 ≡ eqb b (a + 1)
by_one a b h = grind (arith, nat_tests, xor_same (b - a) 1, xor_self 1)

pub overflow_sub-other-in-loop-i : goal.overflow_sub-other-in-loop-i
overflow_sub-other-in-loop-i c = ptr-rises c.args.self.ptr.now (c.loop-i.i - 1) c.loop-i.i c.args.self.rises (omega arith) (omega arith)

pub loop-i-preserved : goal.loop-i-preserved
loop-i-preserved c =
    let p = c.args.self.ptr.now in
    let i = c.loop-i.i in
    let a = get_or p (i - 1) 0 in
    let b = get_or p i 0 in
    none_of_both c.loop-i.other (bit_xor (b - a) 1) ∙ ap₂ ◌&&◌ c.loop-i.invariant (by_one a b (ptr-rises p (i - 1) i c.args.self.rises (omega arith) (omega arith)))
    ∙ sym (pairwise_more (λ (from to : ℕ). eqb to (from + 1)) 0 p i (omega arith) (omega arith))
