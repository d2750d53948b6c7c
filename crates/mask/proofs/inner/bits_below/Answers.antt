-- `mask::inner::bits_below` meets its contract. Assumes nothing.
use Rattle.mask.proofs.Stores.{below_none, below_all}
use Rattle.mask.proofs.inner.bits_below.Goals as goal

pub returns-then-bound-first : goal.returns-then-bound-first
returns-then-bound-first c = below_none _ _ c.if-bound-first.true

pub returns-then-left-ge-BITS : goal.returns-then-left-ge-BITS
returns-then-left-ge-BITS c = below_all _ _ c.if-left-ge-BITS.true
