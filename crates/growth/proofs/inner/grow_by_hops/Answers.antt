-- `growth::inner::grow_by_hops` meets its contract. Assumes nothing.
use Rattle.std.proofs.Common.{◌≡◌, sym, ap₂, inl, inr, subst, ◌∙◌, arith}
use Rattle.base.specs.Sets.{any_below}
use Rattle.mask.specs.Mask.{in_mask}
use Rattle.mask.proofs.Masks.{is-of}
use Rattle.growth.specs.Visits.{Small}
use Rattle.growth.proofs.Growing.{region-mask, frontier-mask, growing-first, counted, growing-turn, growing-last}
use Rattle.growth.proofs.inner.grow_by_hops.Goals as goal

pub invariant_of-start : goal.invariant_of-start
invariant_of-start g c = record { accepted = rw (sym c.requires.1) at (is-of _ _ _ c.requires.0.short c.requires.2) }

pub loop-k-init : goal.loop-k-init
loop-k-init g c =
    growing-first _ c.requires.0.whole _ _ _ _ _ _ _ c.requires.2 c.copy.ensures (rw c.requires.1 at c.clear.ensures)
    (c.any_node-some.ensures ∙ ap₂ (λ n w. any_below n (in_mask w)) c.requires.1 (sym c.copy.ensures)) (λ i. let e = c.default-visits.ensures in record { nodes = e.0 i; row_words = e.1.0 i; column_words = e.1.1.0 i; candidate_bits = e.1.1.1 i })

pub returns-then-not-some : goal.returns-then-not-some
returns-then-not-some g c =
    let r = growing-last _ c.requires.0.whole _ _ _ _ _ _ _ _ c.loop-k.invariant (inr c.if-not-some.true) in record {
      value = r.0;
      region_after = r.1;
      frontier_after = r.2;
      scratch_after = r.3;
    }

pub invariant_of-reach : goal.invariant_of-reach
invariant_of-reach g c = record { accepted = rw (sym c.requires.1) at (frontier-mask _ _ c.requires.0.short _ _ _ _ _ _ _ c.loop-k.invariant) }

pub add-visits-requires : goal.add-visits-requires
add-visits-requires g c = subst Small (sym (counted _ c.requires.0.whole _ _ _ _ _ _ _ _ _ c.loop-k.invariant c.reach-found.ensures.value)) (c.requires.0.small _)

pub settle-some-requires : goal.settle-some-requires
settle-some-requires g c =
    rw c.requires.1
    (region-mask _ _ c.requires.0.short _ _ _ _ _ _ _ c.loop-k.invariant, frontier-mask _ _ c.requires.0.short _ _ _ _ _ _ _ c.loop-k.invariant, is-of _ _ _ c.requires.0.short c.reach-found.ensures.reached_after)

pub loop-k-preserved : goal.loop-k-preserved
loop-k-preserved g c =
    let e = c.requires.1 in
    let s = c.settle-some.ensures in
    growing-turn _ c.requires.0.whole _ _ _ _ _ _ _ _ _ _ _ _ _ _ _ c.loop-k.invariant c.loop-k-test.true c.if-not-some.false c.reach-found.ensures.value c.add-visits.ensures
    c.reach-found.ensures.reached_after (rw e at s.region_after) (rw e at s.frontier_after) (rw e at s.reached_after) (rw e at s.value)

pub returns : goal.returns
returns g c =
    let e : c.loop-k.k ≡ c.args.hops = omega arith in
    let r = growing-last _ c.requires.0.whole _ _ _ _ _ _ _ _ c.loop-k.invariant (inl e) in record {
      value = rw e at r.0;
      region_after = r.1;
      frontier_after = r.2;
      scratch_after = r.3;
    }
