-- `growths::inner::grow_all` meets its contract. Assumes nothing.
use Rattle.std.proofs.Common.{◌≡◌, refl, arith}
use Rattle.growths.proofs.Growing.{turn-none, turn}
use Rattle.growths.proofs.inner.grow_all.Goals as goal

pub loop-i-init : goal.loop-i-init
loop-i-init g c =
    let e = c.default-ran.ensures in
    let none : c.default-ran.result ≡ record { accepted = 0; total = 0; last = 0 } = (λ i. record { accepted = e.0 i; total = e.1.0 i; last = e.1.1 i }) in
    rw none (turn-none _ _ _ _ _ _ _ _ _)

pub loop-i-preserved : goal.loop-i-preserved
loop-i-preserved g c =
    let u = c.grow_one-ran.ensures in
    turn _ _ _ c.requires.2 _ _ _ _ _ _ _ c.requires.3 c.loop-i.i _ _ _ _ _ c.loop-i.invariant c.min-part.result (omega arith) (omega arith) (omega arith) (omega arith) _ refl _ _ _ _ _ u.value u.renewed u.inside u.edge u.spent
