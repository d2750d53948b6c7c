-- `binding::inner::System::bind` meets its contract. Assumes nothing.
use native.Mathlib.Omega.{arith}
use Rattle.mask.proofs.Masks.{zeros-empty}
use Rattle.binding.proofs.inner.System.bind.Goals as goal

pub bind_rows-requires : goal.bind_rows-requires
bind_rows-requires c =
    zeros-empty c.args.self.local.region.len 16384 c.words_for-need.result (omega (arith, c.words_for-need.ensures)) (omega (arith, c.words_for-need.ensures, c.args.self.local.region.accepted.short))
