-- `pattern::inner::fill_ranks` meets its contract. The invariant: the words before w are written, and their members counted. Assumes nothing.
use mathlib.Core.Path.{◌≡◌}
use Prim.Native.Nat.{◌*◌}
use Rattle.base.specs.Lists.{written}
use Rattle.base.specs.Sets.{count_below}
use Rattle.mask.specs.Mask.{in_mask}
use Rattle.pattern.specs.Steps.{ranks_of}
use Rattle.pattern.proofs.inner.fill_ranks.Given as goal

abbrev pub invariant-loop-w : goal.invariant-loop-w
invariant-loop-w l = (l.before ≡ count_below (64 * l.w) (in_mask l.region.words.now)) × (l.ranks ≡ written l.w (ranks_of l.region.len (in_mask l.region.words.now)) l.initial.ranks)
