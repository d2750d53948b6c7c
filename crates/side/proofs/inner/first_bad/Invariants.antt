use Rattle.std.proofs.Common.{◌≡◌, ℕ, ◌<◌, true}
use Rattle.side.specs.Check.{good_word}
use Rattle.side.proofs.inner.first_bad.Given as goal

abbrev pub invariant-loop-k : goal.invariant-loop-k
invariant-loop-k l = (j : ℕ) → j < l.k → good_word l.ncols l.word_indices l.masks 0 j ≡ true
