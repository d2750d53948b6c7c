-- `multiplicity::inner::Regions::multiplicity` meets its contract. The invariant: the regions below q are counted. Assumes nothing.
use mir.Val.{bool_byte}
use Rattle.std.proofs.Common.{◌≡◌, refl, ◌∙◌, ap, ap₂, sym, arith, Bool, true, false, ℕ, ◌+◌, ◌≤◌}
use Rattle.base.specs.Sets.{one_if}
use Rattle.multiplicity.proofs.Counts.{mult-none, mult-next, mult-le}
use Rattle.multiplicity.proofs.inner.Regions.multiplicity.Goals as goal

number : (b : Bool) → bool_byte b ≡ one_if b
number true = refl
number false = refl

small : (b : Bool) → one_if b ≤ 1
small true = omega arith
small false = omega arith

pub loop-q-init : goal.loop-q-init
loop-q-init c = sym (mult-none c.args.self.node_count c.args.self.words.now c.args.node)

pub overflow_add-m : goal.overflow_add-m
overflow_add-m c =
    omega (
      arith,
      c.loop-q.invariant,
      mult-le c.args.self.node_count c.args.self.words.now c.args.node c.loop-q.q,
      c.from-m.ensures ∙ number c.holds.result,
      small c.holds.result,
      c.args.self.accepted.few_regions,
    )

pub loop-q-preserved : goal.loop-q-preserved
loop-q-preserved c =
    ap₂ (λ (a b : ℕ). a + b) c.loop-q.invariant (c.from-m.ensures ∙ number c.holds.result ∙ ap one_if c.holds.ensures)
    ∙ sym (mult-next c.args.self.node_count c.args.self.words.now c.args.node c.loop-q.q)
