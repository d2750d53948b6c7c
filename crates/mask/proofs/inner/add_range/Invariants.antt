-- `mask::inner::add_range`: the nodes of the range below word w are in.
use Rattle.std.proofs.Common.{◌≡◌}
use Rattle.mask.specs.Mask.{mask_words}
use Rattle.mask.proofs.Stores.{ranged}
use Rattle.mask.proofs.inner.add_range.Given as goal

abbrev pub invariant-loop-w : goal.invariant-loop-w
invariant-loop-w l = l.words ≡ mask_words l.len (ranged l.len l.fn.words l.start l.end l.w)
