-- `dof_layout::inner::locate` meets its contract. The measure is the span between the two ends. Assumes nothing.
use mathlib.Core.Path.{◌≡◌, sym, subst}
use Prim.Native.Nat.{ℕ, suc, ◌+◌, ◌-◌, ◌/◌, ◌<◌}
use native.Mathlib.Omega.{arith}
use lib.ListN.{get_or}
use Rattle.dof_layout.specs.Layout.{start_of}
use Rattle.dof_layout.proofs.Layouts.{total-at, offsets-count, in-block, block-is}
use Rattle.dof_layout.proofs.inner.+locate.Goals as goal

pub returns-then-high-low-eq1 : goal.returns-then-high-low-eq1
returns-then-high-low-eq1 t c =
    let a = c.args in
    let next : a.high ≡ suc a.low = omega (arith, c.if-high-low-eq1.true, c.requires.1) in
    sym (block-is a.components.now a.low a.dof (omega (arith, c.requires.1, c.requires.2)) (in-block a.components.now a.low a.dof c.requires.3 (subst (λ (n : ℕ). a.dof < start_of a.components.now n) next c.requires.4)))

pub bounds-offsets-middle : goal.bounds-offsets-middle
bounds-offsets-middle t c = omega (arith, offsets-count _ _ c.requires.0, c.requires.1, c.requires.2)

pub locate-requires : goal.locate-requires
locate-requires t c =
    let a = c.args in
    let m = a.low + (a.high - a.low) / 2 in
    let e : get_or a.offsets.now m 0 ≡ start_of a.components.now m = total-at _ _ m c.requires.0 (omega (arith, c.requires.1, c.requires.2)) in
    (omega (arith, c.decreases, c.requires.1, c.if-high-low-eq1.false), (c.requires.0, omega (arith, c.requires.1), c.requires.2, omega (arith, e, c.if-offsets-middle.true), c.requires.4))

pub locate-requires-else-offsets-middle : goal.locate-requires-else-offsets-middle
locate-requires-else-offsets-middle t c =
    let a = c.args in
    let m = a.low + (a.high - a.low) / 2 in
    let e : get_or a.offsets.now m 0 ≡ start_of a.components.now m = total-at _ _ m c.requires.0 (omega (arith, c.requires.1, c.requires.2)) in
    (omega (arith, c.decreases, c.requires.1, c.if-high-low-eq1.false), (c.requires.0, omega (arith, c.requires.1, c.if-high-low-eq1.false), omega (arith, c.requires.1, c.requires.2), c.requires.3, omega (arith, e, c.if-offsets-middle.false)))
