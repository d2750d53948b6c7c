-- `multiplicity::inner::tally` meets its contract. The invariant: the sums are those of the counts before the index, and how large they are. Assumes
-- nothing.
use Rattle.std.proofs.Common.{◌≡◌, ◌*◌, ◌≤◌, get_or, ltb}
use Rattle.base.specs.Sets.{sum_below, largest_below, count_below}
use Rattle.multiplicity.specs.Multiplicity.{pairs_of}
use Rattle.multiplicity.proofs.inner.tally.Given as goal

abbrev pub invariant-loop-count : goal.invariant-loop-count
invariant-loop-count l = record {
  sum : l.total ≡ sum_below l.count-index (λ k. get_or l.counts k 0);
  some : l.covered ≡ count_below l.count-index (λ k. ltb 0 (get_or l.counts k 0));
  more : l.overlap ≡ count_below l.count-index (λ k. ltb 1 (get_or l.counts k 0));
  largest : l.most ≡ largest_below l.count-index (λ k. get_or l.counts k 0);
  shared : l.pairs ≡ sum_below l.count-index (λ k. pairs_of (get_or l.counts k 0));
  few : l.total ≤ 65536 * l.count-index;
  few_some : l.covered ≤ l.total;
  few_more : l.overlap ≤ l.covered;
  few_shared : l.pairs ≤ 32768 * l.total;
}
