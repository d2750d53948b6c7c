-- `mask::inner::combine`: the first w words are those of the result.
use Rattle.std.proofs.Common.{◌≡◌}
use Rattle.base.specs.Lists.{written}
use Rattle.word.specs.Answers.{on}
use Rattle.mask.specs.Answers.{combined}
use Rattle.mask.proofs.inner.combine.Given as goal

abbrev pub invariant-loop-w : goal.invariant-loop-w
invariant-loop-w l = l.words ≡ written l.w (combined (on l.op) l.len l.fn.words l.other) l.fn.words
