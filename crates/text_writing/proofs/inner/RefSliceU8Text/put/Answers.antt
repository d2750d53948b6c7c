-- `text_writing::inner::RefSliceU8Text::put` meets its contract. Assumes nothing.
use Rattle.std.proofs.Common.{arith}
use Rattle.std.proofs.lemmas.Grind.{common_steps}
use Rattle.base.specs.Lists.{placed}
use Rattle.text_writing.proofs.inner.RefSliceU8Text.put.Goals as goal

pub returns-clause-bytes : goal.returns-clause-bytes
unfolding placed
returns-clause-bytes c = grind (arith, common_steps)
