-- `binding::inner::System::settle` meets its contract. Assumes nothing.
use native.Mathlib.Omega.{arith}
use Rattle.mask.proofs.Masks.{zeros-empty}
use Rattle.binding.proofs.inner.System.settle.Goals as goal

pub settle_members-requires : goal.settle_members-requires
settle_members-requires c =
    (c.requires, zeros-empty c.args.self.local.region.len 16384 c.words_for-need.result (omega (arith, c.words_for-need.ensures)) (omega (arith, c.words_for-need.ensures, c.args.self.local.region.accepted.short)))
