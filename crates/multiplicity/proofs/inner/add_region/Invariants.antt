-- `multiplicity::inner::add_region` meets its contract. The invariants: the members of the words before w are counted; of word w those whose bits are
-- no longer left. Assumes nothing.
use Rattle.multiplicity.proofs.Adds.{Walked, Added}
use Rattle.multiplicity.proofs.inner.add_region.Given as goal

abbrev pub invariant-loop-bit : goal.invariant-loop-bit
invariant-loop-bit l = Walked l.region.len l.region.words.now l.initial.counts l.w l.counts l.bit-iterator.left

abbrev pub invariant-loop-w : goal.invariant-loop-w
invariant-loop-w l = Added l.region.len l.region.words.now l.initial.counts l.counts l.w
