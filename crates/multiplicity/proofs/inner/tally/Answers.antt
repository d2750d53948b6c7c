-- `multiplicity::inner::tally` meets its contract. Assumes nothing.
use Rattle.std.proofs.Common.{◌≡◌, length, arith}
use Rattle.multiplicity.proofs.Tallies.{tally_steps}
use Rattle.multiplicity.proofs.inner.tally.Goals as goal

pub loop-count-preserved : goal.loop-count-preserved
loop-count-preserved c = record {
  sum = grind (arith, tally_steps);
  some = grind (arith, tally_steps);
  more = grind (arith, tally_steps);
  largest = grind (arith, tally_steps);
  shared = grind (arith, tally_steps);
  few = omega arith;
  few_some = grind arith;
  few_more = grind arith;
  few_shared = grind arith;
}

pub returns : goal.returns
returns c = let e : c.loop-count.count-index ≡ length c.args.counts.now = omega arith in cc
