use Rattle.std.proofs.Common.{ap, ◌∙◌, arith}
use Rattle.std.specs.Prelude.{Some}
use Rattle.side.proofs.AtRow.{word-here, word-past}
use Rattle.side.proofs.inner.RowWords.word.Goals as goal

pub returns-then-k-self : goal.returns-then-k-self
returns-then-k-self c = word-past _ _ _ c.args.self.accepted _ c.if-k-self.true

pub bounds-self-at : goal.bounds-self-at
bounds-self-at c = omega (arith, c.if-k-self.false, c.args.self.accepted.as_many)

pub returns : goal.returns
returns c = ap Some c.new.ensures ∙ word-here _ _ _ c.args.self.accepted _ c.if-k-self.false
