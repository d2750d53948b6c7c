use Rattle.side.proofs.AtRow.{words-length}
use Rattle.side.proofs.inner.RowWords.count.Goals as goal

pub returns : goal.returns
returns c = words-length _ _ _ c.args.self.accepted
