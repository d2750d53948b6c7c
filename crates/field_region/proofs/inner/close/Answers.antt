-- `field_region::inner::close` meets its contract. Assumes nothing.
use Rattle.std.proofs.Common.{arith, subst}
use Rattle.mask.specs.Mask.{IsMask}
use Rattle.field_region.proofs.inner.close.Goals as goal

pub close_in_place-requires : goal.close_in_place-requires
close_in_place-requires c =
    (c.requires.0, omega (arith, c.args.mask.accepted.short, c.requires.1), rw c.copy.ensures (subst (λ n. IsMask n c.args.mask.words.now) c.requires.1 c.args.mask.accepted))
