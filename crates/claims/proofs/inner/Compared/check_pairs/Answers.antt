-- `claims::inner::Compared::check_pairs` meets its contract. Assumes nothing.
use native.Mathlib.Omega.{arith}
use Rattle.mask.proofs.Masks.{zeros-empty}
use Rattle.claims.proofs.inner.Compared.check_pairs.Goals as goal

pub check_filled-requires : goal.check_filled-requires
check_filled-requires c =
    zeros-empty c.args.self.rows.nrows 16384 c.words_for-need.result (omega (arith, c.words_for-need.ensures)) (omega (arith, c.words_for-need.ensures, c.args.self.rows.accepted.shape.few_rows))
