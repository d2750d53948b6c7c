-- `side::inner::RowWords::rank` meets its contract. Assumes nothing.
use Rattle.std.proofs.Common.{arith}
use native.Mathlib.Nat.{le_refl}
use Rattle.side.proofs.AtRow.{long}
use Rattle.side.proofs.inner.RowWords.rank.Goals as goal

pub rank-requires : goal.rank-requires
rank-requires c =
    let m = c.args.self.accepted in
    (omega arith, long _ _ _ m, le_refl _, m.row, omega (arith, m.few_words), omega (arith, m.few_cols))
