-- `field_region::inner::check_blocks` meets its contract. Assumes nothing.
use Rattle.std.proofs.Common.{sym, ◌∙◌, arith}
use mathlib.Core.Path.{refl}
use Rattle.base.proofs.Checks.{checks-none, checks-next, checks-stop}
use Rattle.field_region.proofs.Blocks.{block-of}
use Rattle.field_region.proofs.Owning.{owner-20, owner-21, owner-ok}
use Rattle.field_region.proofs.inner.check_blocks.Goals as goal

pub loop-b-init : goal.loop-b-init
loop-b-init c = checks-none _

pub returns-then-owner-ranks : goal.returns-then-owner-ranks
returns-then-owner-ranks c =
    refl
    ∙ sym (checks-stop _ _ _ _ c.loop-b-test.true c.loop-b.invariant (owner-20 _ _ _ _ _ (block-of _ _ _ _ c.loop-b-test.true c.start-start.ensures c.start-end.ensures) _ c.if-owner-ranks.true))

pub owned-requires : goal.owned-requires
owned-requires c =
    let k = block-of _ _ _ _ c.loop-b-test.true c.start-start.ensures c.start-end.ensures in
    (omega (arith, k, c.args.layout.filled c.loop-b.b), omega (arith, k), refl)

pub returns-then-not-owned : goal.returns-then-not-owned
returns-then-not-owned c =
    refl
    ∙ sym (checks-stop _ _ _ _ c.loop-b-test.true c.loop-b.invariant (owner-21 _ _ _ _ _ (block-of _ _ _ _ c.loop-b-test.true c.start-start.ensures c.start-end.ensures) _ c.if-owner-ranks.false (sym c.owned.ensures ∙ c.if-not-owned.true)))

pub loop-b-preserved : goal.loop-b-preserved
loop-b-preserved c = checks-next _ _ c.loop-b.invariant (owner-ok _ _ _ _ _ (block-of _ _ _ _ c.loop-b-test.true c.start-start.ensures c.start-end.ensures) _ c.if-owner-ranks.false (sym c.owned.ensures ∙ c.if-not-owned.false))
