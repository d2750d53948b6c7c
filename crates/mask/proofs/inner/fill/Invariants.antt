-- `mask::inner::fill`: the mask of the indices so far.
use Rattle.std.proofs.Common.{◌≡◌, take}
use Rattle.base.specs.Lists.{is_in}
use Rattle.mask.specs.Mask.{mask_words}
use Rattle.mask.proofs.inner.fill.Given as goal

abbrev pub invariant-loop-index : goal.invariant-loop-index
invariant-loop-index l = l.words ≡ mask_words l.len (λ i. is_in i (take l.index-index l.indices))
