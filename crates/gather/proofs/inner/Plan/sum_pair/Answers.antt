-- `gather::inner::Plan::sum_pair` meets its contract. The invariant: the sum so far is the sum from 0.0 of the entries so far. Assumes nothing.
use mathlib.Core.Path.{◌∙◌, ap}
use native.Mathlib.Omega.{arith}
use Prim.Native.Nat.{◌-◌}
use lib.ListN.{take, drop}
use lib.Seq.{take_all}
use Rattle.base.proofs.Lists.{part_slice}
use Rattle.gather.specs.Gather.{sum_of}
use Rattle.gather.proofs.Plans.{sum_more}
use Rattle.gather.proofs.inner.Plan.sum_pair.Goals as goal

pub loop-s-preserved : goal.loop-s-preserved
loop-s-preserved c = let a = c.args in cc (sum_more a.self.values.now (take (a.to - a.from) (drop a.from a.self.sources.now)) c.loop-s.s-index (omega arith))

pub returns : goal.returns
returns c = c.loop-s.invariant ∙ ap (sum_of c.args.self.values.now) (take_all _ _ (omega arith) ∙ part_slice c.args.from c.args.to c.args.self.sources.now)
