-- `gather::inner::Plan::sum_pairs` meets its contract. The invariant: the sums of the first pairs stand over the front of the lent list. Assumes
-- nothing.
use mathlib.Core.Path.{sym, ◌∙◌}
use Prim.Native.Nat.{◌+◌, ◌-◌}
use native.Mathlib.Omega.{arith}
use lib.ListN.{length}
use lib.Ieee.{nan}
use Rattle.base.proofs.Lists.{put_next, put-end}
use Rattle.gather.specs.Gather.{summed}
use Rattle.gather.proofs.Plans.{ptr-rises, summed-length, summed_at}
use Rattle.gather.proofs.inner.Plan.sum_pairs.Goals as goal

pub sum_pair-requires : goal.sum_pair-requires
sum_pair-requires c =
    let p = c.args.self.ptr.now in
    let i = c.loop-i.i in (
      ptr-rises p i (i + 1) c.args.self.rises (omega arith) (omega arith),
      omega (arith, ptr-rises p (i + 1) (length p - 1) c.args.self.rises (omega arith) (omega arith)),
    )

pub loop-i-preserved : goal.loop-i-preserved
loop-i-preserved c =
    let a = c.args in
    let n = summed-length a.self.ptr.now a.self.sources.now a.self.values.now in
    put_next _ a.out.now _ c.loop-i.i _ nan (omega arith) (omega arith) c.loop-i.invariant (c.sum_pair.ensures ∙ sym (summed_at _ _ a.self.values.now c.loop-i.i nan (omega arith)))

pub returns : goal.returns
returns c =
    let a = c.args in
    put-end (summed a.self.ptr.now a.self.sources.now a.self.values.now) a.out.now _ c.loop-i.i (omega (arith, summed-length a.self.ptr.now a.self.sources.now a.self.values.now)) c.loop-i.invariant
