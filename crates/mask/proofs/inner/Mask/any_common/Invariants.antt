-- `mask::inner::Mask::any_common`: no bit in common before word w.
use Rattle.std.proofs.Common.{◌≡◌, ℕ, ◌<◌, get_or, bit_and}
use Rattle.mask.proofs.inner.Mask.any_common.Given as goal

abbrev pub invariant-loop-w : goal.invariant-loop-w
invariant-loop-w l = (k : ℕ) → k < l.w → bit_and (get_or l.self.words.now k 0) (get_or l.other.words.now k 0) ≡ 0
