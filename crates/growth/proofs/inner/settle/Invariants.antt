-- `growth::inner::settle` meets its contract. The invariant: the first w words of the three masks are those of the result. Assumes nothing.
use Rattle.std.proofs.Common.{◌≡◌, length}
use Rattle.growth.proofs.Settles.{Settled}
use Rattle.growth.proofs.inner.settle.Given as goal

abbrev pub invariant-loop-w : goal.invariant-loop-w
invariant-loop-w l = record {
  frontier_long : length l.frontier ≡ length l.region;
  reached_long : length l.reached ≡ length l.region;
  settled : Settled l.n l.initial.region l.initial.frontier l.initial.reached l.region l.frontier l.reached l.fresh_bits l.w;
}
