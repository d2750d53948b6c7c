-- `side::inner::RowWords::select` meets its contract. Assumes nothing.
use Rattle.std.proofs.Common.{arith}
use native.Mathlib.Nat.{le_refl}
use Rattle.side.proofs.AtRow.{long}
use Rattle.side.proofs.inner.RowWords.select.Goals as goal

pub select-requires : goal.select-requires
select-requires c =
    let m = c.args.self.accepted in
    (omega arith, long _ _ _ m, le_refl _, m.row, m.inside)
