-- `growth::inner::Rows::take` meets its contract. The invariant: the words of the row before k are joined, their bits counted. Assumes nothing.
use Rattle.std.proofs.Common.{◌≡◌, ◌≤◌, length}
use Rattle.mask.specs.Mask.{mask_words}
use Rattle.side.specs.Check.{bits_in}
use Rattle.growth.proofs.Takes.{taking}
use Rattle.growth.proofs.inner.Rows.take.Given as goal

abbrev pub invariant-loop-k : goal.invariant-loop-k
invariant-loop-k l = record {
  up : l.from ≤ l.to;
  stored : l.to ≤ length l.self.side.masks.now;
  counted : l.bits ≡ bits_in l.self.side.masks.now l.from l.k;
  joined : l.reached ≡ mask_words l.self.n (taking l.self.n l.initial.reached l.self.side.word_indices.now l.self.side.masks.now l.from l.k);
}
