-- `growth::inner::settle` meets its contract. Assumes nothing.
use Rattle.std.proofs.Common.{ℕ, arith, length-set}
use Rattle.mask.proofs.Masks.{is-length}
use Rattle.growth.proofs.Settles.{settle-start, settle_turn, settle-end}
use Rattle.growth.proofs.inner.settle.Goals as goal

pub loop-w-init : goal.loop-w-init
loop-w-init c = record {
  frontier_long = omega (arith, is-length _ _ c.requires.0, is-length _ _ c.requires.1);
  reached_long = omega (arith, is-length _ _ c.requires.0, is-length _ _ c.requires.2);
  settled = settle-start _ _ _ _ c.requires.0 c.requires.1 c.requires.2;
}

pub loop-w-preserved : goal.loop-w-preserved
loop-w-preserved c = record {
  frontier_long = omega (arith, length-set {A = ℕ});
  reached_long = omega (arith, length-set {A = ℕ});
  settled = settle_turn _ _ _ _ c.requires.0 c.requires.1 c.requires.2 _ _ _ _ _ c.loop-w.invariant.settled c.loop-w-test.true;
}

pub returns : goal.returns
returns c =
    let d = settle-end _ _ _ _ c.requires.0 c.requires.1 c.requires.2 _ _ _ _ _ c.loop-w.invariant.settled (omega arith) in record {
      value = d.0;
      region_after = d.1;
      frontier_after = d.2;
      reached_after = d.3;
    }
