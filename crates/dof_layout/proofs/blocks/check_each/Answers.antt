-- `dof_layout::blocks::check_each` meets its contract. Assumes nothing.
use Rattle.std.proofs.Common.{◌≡◌, sym, ap, ◌∙◌, ◌⊎◌, inl, inr, false, not, List, ℕ, ◌<◌, ◌≤◌, arith}
use mathlib.Core.Path.{refl}
use borrow.Author.Tests.{ne_eqb}
use Rattle.base.proofs.Bools.{T_true, T_false, not-T-of, lt-or-le}
use Rattle.base.proofs.Checks.{checks, checks-none, checks-next, checks-stop}
use Rattle.base.proofs.Sets.{below_next}
use Rattle.dof_layout.specs.Layout.{block_check}
use Rattle.twins.specs.declared.keys.Keys.{Keys}
use Rattle.twins.specs.Views.{repeats, lowest_repeat}
use Rattle.twins.proofs.Twins.{twin-is}
use Rattle.dof_layout.proofs.Layouts.{start-zero, start-next, block_1, block-ok}
use Rattle.dof_layout.proofs.blocks.check_each.Invariants.{Passed}
use Rattle.dof_layout.proofs.blocks.check_each.Goals as goal

-- no block that passes is the first twin
before-twin : (keys : Keys) (components : List ℕ) (total b count twin : ℕ) → Passed keys components total b → b ≤ count → twin ≡ lowest_repeat keys count → b ≤ twin
before-twin keys components total b count twin p l e = go (lt-or-le twin b)
  where
    go : (twin < b) ⊎ (b ≤ twin) → b ≤ twin
    go (inl h) = absurd (not-T-of _ (p.fresh twin h) ((twin-is keys.kinds.now keys.ids.now keys.fields.now count twin e).passes (omega arith)))
    go (inr h) = h

-- a block before the twin repeats no key
once : (keys : Keys) (b count twin : ℕ) → twin ≡ lowest_repeat keys count → b < twin → repeats keys b ≡ false
once keys b count twin e h = T_false _ ((twin-is keys.kinds.now keys.ids.now keys.fields.now count twin e).before b h)

pub loop-from-init : goal.loop-from-init
loop-from-init c = record {
  within = omega arith;
  running = sym (start-zero _);
  short = omega arith;
  filled = omega arith;
  fresh = λ a l. absurd (omega arith);
  checks = checks-none _;
}

pub loop-b-init : goal.loop-b-init
loop-b-init c = (c.loop-from.invariant, before-twin c.args.keys _ _ _ _ _ c.loop-from.invariant (omega arith) c.first_twin-twin.ensures)

pub returns-then-not-is_kind : goal.returns-then-not-is_kind
unfolding block_check
returns-then-not-is_kind c = refl ∙ sym (checks-stop _ _ _ _ (omega arith) c.loop-b.invariant.0.checks (sym (search checks depth 20)))

pub returns-then-size-eq0 : goal.returns-then-size-eq0
unfolding block_check
returns-then-size-eq0 c = refl ∙ sym (checks-stop _ _ _ _ (omega arith) c.loop-b.invariant.0.checks (sym (search checks depth 20)))

pub returns-then-b-twin : goal.returns-then-b-twin
unfolding block_check
returns-then-b-twin c =
    let keys = c.args.keys in
    let twice : not (repeats keys c.loop-b.b) ≡ false = ap not (T_true _ ((twin-is keys.kinds.now keys.ids.now keys.fields.now c.reach_from-reach.result c.loop-b.b (c.if-b-twin.true ∙ c.first_twin-twin.ensures)).passes (omega arith))) in
    let some = ne_eqb _ _ c.if-size-eq0.false in
    refl ∙ sym (checks-stop _ _ _ _ (omega arith) c.loop-b.invariant.0.checks (sym (search checks depth 20)))

pub returns-then-total : goal.returns-then-total
returns-then-total c =
    let first : repeats c.args.keys c.loop-b.b ≡ false = once c.args.keys _ _ _ c.first_twin-twin.ensures (omega arith) in
    refl ∙ sym (checks-stop _ _ _ _ (omega arith) c.loop-b.invariant.0.checks (block_1 _ _ _ _ _ (sym c.is_kind.ensures ∙ c.if-not-is_kind.false) c.if-size-eq0.false first (omega arith)))

pub loop-b-preserved : goal.loop-b-preserved
loop-b-preserved c =
    let first : repeats c.args.keys c.loop-b.b ≡ false = once c.args.keys _ _ _ c.first_twin-twin.ensures (omega arith) in (
      record {
        within = omega arith;
        running = grind (arith, start-next);
        short = omega arith;
        filled = omega arith;
        fresh = below_next (λ a. repeats c.args.keys a ≡ false) c.loop-b.b c.loop-b.invariant.0.fresh first;
        checks = checks-next c.loop-b.b _ c.loop-b.invariant.0.checks (block-ok _ _ _ _ _ (sym c.is_kind.ensures ∙ c.if-not-is_kind.false) c.if-size-eq0.false first (omega arith));
      },
      omega arith,
    )
