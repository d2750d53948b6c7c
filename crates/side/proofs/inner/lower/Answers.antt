-- `side::inner::lower` meets its contract. Assumes nothing.
use Rattle.std.proofs.Common.{rules}
use Rattle.side.specs.Row.{Lower}
use Rattle.side.proofs.Searches.{lower-is}
use Rattle.side.proofs.inner.lower.Goals as goal

pub returns-clause-place : goal.returns-clause-place
returns-clause-place c =
    let a = c.args in
    let around : Lower a.word_indices.now a.from a.to a.word c.loop-lo.lo = search rules in
    lower-is _ _ _ _ _ around
