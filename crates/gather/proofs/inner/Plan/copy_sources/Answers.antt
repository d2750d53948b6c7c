-- `gather::inner::Plan::copy_sources` meets its contract. The invariant: the values of the first sources stand over the front of the lent list.
-- Assumes nothing.
use mathlib.Core.Path.{sym}
use Prim.Native.Nat.{ℕ}
use native.Mathlib.Omega.{arith}
use lib.ListN.{get_or, length-map, get_or-map}
use lib.Ieee.{nan}
use Rattle.base.proofs.Lists.{put_next}
use Rattle.gather.specs.Gather.{values_of}
use Rattle.gather.proofs.inner.Plan.copy_sources.Goals as goal

pub loop-i-preserved : goal.loop-i-preserved
loop-i-preserved c =
    let a = c.args in
    put_next (values_of a.self.values.now a.self.sources.now) a.out.now _ c.loop-i.i _ (get_or a.self.values.now 0 nan) (simp length-map (omega arith)) (omega arith) c.loop-i.invariant (sym (get_or-map (λ (e : ℕ). get_or a.self.values.now e nan) a.self.sources.now c.loop-i.i 0))
