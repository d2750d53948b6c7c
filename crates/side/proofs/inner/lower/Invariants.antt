use Rattle.std.proofs.Common.{ℕ, ◌-◌, ◌<◌, ◌≤◌, get_or}
use Rattle.side.proofs.inner.lower.Given as goal

abbrev pub invariant-loop-lo : goal.invariant-loop-lo
invariant-loop-lo l = record {
  low : l.from ≤ l.lo;
  order : l.lo ≤ l.hi;
  high : l.hi ≤ l.to;
  below : (k : ℕ) → l.from ≤ k → k < l.lo → get_or l.word_indices k 0 < l.word;
  above : (k : ℕ) → l.hi ≤ k → k < l.to → l.word ≤ get_or l.word_indices k 0;
}

abbrev pub decreases-loop-lo : goal.decreases-loop-lo
decreases-loop-lo l = l.hi - l.lo
