-- `pattern::inner::write_nodes` meets its contract. The invariants: still to come are the members of the word's bits that are left, then those of later
-- words. Assumes nothing.
use mathlib.Core.Path.{◌≡◌, sym, ap, ◌∙◌, subst}
use mathlib.Core.List.{List, ◌∷◌}
use Prim.Native.Nat.{ℕ, ◌+◌, ◌-◌, ◌*◌, ◌<◌, ◌^◌}
use native.Mathlib.Omega.{arith}
use lib.ListN.{length}
use Rattle.base.specs.Lists.{over}
use Rattle.base.specs.Sets.{count_below, members_from}
use Rattle.base.proofs.Sets.{members-zero, count-members}
use Rattle.word.specs.Bits.{set_bits}
use Rattle.word.proofs.Bits.{head_bit}
use Rattle.mask.specs.Mask.{in_mask}
use Rattle.mask.proofs.Masks.{is-length}
use Rattle.mask.proofs.Passes.{open-word, members-all}
use Rattle.pattern.proofs.Coming.{Coming, coming_over, coming_none, coming_in, coming_next}
use Rattle.pattern.proofs.inner.write_nodes.Invariants.{members, left}
use Rattle.pattern.proofs.inner.write_nodes.Goals.{In-Some, In-loop-w, Start}
use Rattle.pattern.proofs.inner.write_nodes.Goals as goal

-- a word's nodes are numbers of 32 bits
low : (c : In-loop-w) → 64 * c.loop-w.w + 64 < 2 ^ 32
low c = omega (arith, is-length _ _ c.args.region.accepted, c.args.region.accepted.short)

-- the next of the bits that are left
turn : (c : In-Some) → left c.args.region.words.now c.loop-w.w (set_bits c.loop-bit.bit-iterator.left)
    ≡ (c.loop-w.w * 64 + c.in-Some.bit) ∷ left c.args.region.words.now c.loop-w.w (set_bits c.next.new.self.left)
turn c =
    let w = c.loop-w.w in
    let e : 64 * w + c.in-Some.bit ≡ w * 64 + c.in-Some.bit = omega arith in
    ap (left c.args.region.words.now w) c.in-Some.ensures.steps ∙ ap (λ (x : ℕ). x ∷ left c.args.region.words.now w (set_bits c.next.new.self.left)) e

pub loop-w-init : goal.loop-w-init
loop-w-init c =
    let region = c.args.region.words.now in
    let all : length region - 0 ≡ length region = omega arith in
    subst (λ (X : List ℕ). Coming (count_below c.args.region.len (in_mask region)) (over (members c.args.region.len region) c.args.nodes.now) 0 X c.args.nodes.now)
    (sym (members-all c.args.region.len region c.args.region.accepted) ∙ ap (λ (x : ℕ). members_from (in_mask region) 0 (64 * x)) (sym all))
    (coming_over (members c.args.region.len region) c.args.nodes.now _ (count-members c.args.region.len (in_mask region)))

pub overflow_mul-first : goal.overflow_mul-first
overflow_mul-first c = omega (arith, low (goal.at.overflow_mul-first c).In-loop-w)

pub overflow_cast-first : goal.overflow_cast-first
overflow_cast-first c = omega (arith, low (goal.at.overflow_cast-first c).In-loop-w)

pub loop-bit-init : goal.loop-bit-init
loop-bit-init c = rw (c.into_iter-bit-iterator.ensures.into_iter_gives, c.of-bit-items.ensures, sym (open-word c.args.region.words.now c.loop-w.w (omega arith))) c.loop-w.invariant

pub overflow_add-nodes : goal.overflow_add-nodes
overflow_add-nodes c = omega (arith, head_bit _ _ _ c.in-Some.ensures.steps, low (goal.at.overflow_add-nodes c).In-loop-w)

pub bounds-nodes-k : goal.bounds-nodes-k
bounds-nodes-k c = coming_in c.loop-bit.invariant _ _ (turn (goal.at.bounds-nodes-k c).In-Some) (omega arith)

pub loop-bit-preserved : goal.loop-bit-preserved
loop-bit-preserved c = coming_next c.loop-bit.invariant _ _ (turn (goal.at.loop-bit-preserved c).In-Some) (omega arith)

pub loop-w-preserved : goal.loop-w-preserved
loop-w-preserved c =
    let region = c.args.region.words.now in
    subst (λ (X : List ℕ). Coming (count_below c.args.region.len (in_mask region)) (over (members c.args.region.len region) c.args.nodes.now) c.loop-bit.k X c.loop-bit.nodes)
    (ap (left region c.loop-w.w) c.in-None.ensures.steps.0)
    c.loop-bit.invariant

pub returns : goal.returns
returns c =
    let p = in_mask c.args.region.words.now in
    let none : 64 * (length c.args.region.words.now - c.loop-w.w) ≡ 0 = omega arith in
    let done = coming_none c.loop-w.invariant (ap (members_from p (64 * c.loop-w.w)) none ∙ members-zero p (64 * c.loop-w.w)) in record {
      value = done.0;
      nodes_after = done.1;
    }
