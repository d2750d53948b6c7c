use Rattle.std.proofs.Common.{◌∙◌, arith}
use native.Mathlib.Nat.{le_refl}
use Rattle.side.proofs.AtRow.{words-count}
use Rattle.side.proofs.inner.RowWords.popcount.Goals as goal

pub count_bits-requires : goal.count_bits-requires
count_bits-requires c = (omega arith, le_refl _, omega (arith, c.args.self.accepted.few_words))

pub returns : goal.returns
returns c = c.count_bits.ensures ∙ words-count _ _ _ c.args.self.accepted
