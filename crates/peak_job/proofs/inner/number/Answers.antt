-- `peak_job::inner::number` meets its contract. The invariant: the places before b hold themselves. Assumes nothing.
use mathlib.Core.Path.{◌≡◌, refl, sym, ◌∙◌}
use Prim.Native.Nat.{ℕ, ◌<◌}
use native.Mathlib.Nat.{zero-add}
use native.Mathlib.Omega.{arith}
use lib.ListN.{length}
use Rattle.base.specs.Lists.{list_from}
use Rattle.base.proofs.Lists.{length-list_from, get_or-list_from, put_next, put_whole}
use Rattle.peak_job.proofs.inner.number.Goals as goal

pub loop-b-init : goal.loop-b-init
loop-b-init c = refl

pub loop-b-preserved : goal.loop-b-preserved
loop-b-preserved c =
    let b = c.loop-b.b in
    let n : b < length (list_from (λ (k : ℕ). k) 1024 0) = omega (arith, length-list_from (λ (k : ℕ). k) 1024 0) in
    put_next (list_from (λ k. k) 1024 0) c.args.ids.now c.loop-b.ids b b 0 n (omega arith) c.loop-b.invariant (sym (get_or-list_from (λ k. k) 1024 0 b 0 (omega arith) ∙ zero-add b))

pub returns : goal.returns
returns c = put_whole (list_from (λ k. k) 1024 0) c.args.ids.now c.loop-b.ids c.loop-b.b (omega (arith, length-list_from (λ (k : ℕ). k) 1024 0)) (omega arith) c.loop-b.invariant
