-- `twins::table::meets` meets its contract. Assumes nothing.
use Rattle.std.proofs.Common.{◌≡◌, sym, ap, ◌∙◌, true, false, ℕ, ◌-◌, ◌/◌, ◌^◌, ◌<◌, slice_index_or, rules, arith}
use lib.Bits.{bit_and}
use Rattle.base.proofs.Bools.{T_true, T_of}
use Rattle.base.proofs.Sets.{any-i}
use Rattle.twins.specs.declared.keys.Key.{Key}
use Rattle.twins.specs.Keys.{spread_of, spread_at}
use Rattle.twins.specs.Views.{alike, repeats, class_of}
use Rattle.twins.proofs.Tables.{walk_next, fresh, taken_in}
use Rattle.twins.proofs.Twins.{alike_at}
use Rattle.twins.proofs.table.meets.Goals.{After-eq}
use Rattle.twins.proofs.table.meets.Goals as goal

pub returns-then-met-eq0-clause-value : goal.returns-then-met-eq0-clause-value
returns-then-met-eq0-clause-value c =
    let a = c.args in
    let bits : c.spread-bits.result ≡ spread_at a.keys.kinds.now a.keys.ids.now a.keys.fields.now a.b = c.spread-bits.ensures ∙ ap (λ (k : Key). spread_of k.kind k.id k.field) c.at-key.ensures in
    let class : class_of a.keys a.class.last a.b ≡ a.class.number = sym (ap (λ (x : ℕ). bit_and (x / 2 ^ 32) a.class.last) bits) ∙ c.if-bits-class.false in
    let once : repeats a.keys a.b ≡ false = fresh a.keys.kinds.now a.keys.ids.now a.keys.fields.now c.loop-s.table a.class.last a.class.number a.last_slot a.b c.loop-s.invariant.0 c.loop-s.s class c.loop-s.invariant.1 (omega arith) c.if-met-eq0.true in
    search rules

pub returns-then-met-eq0-clause-table : goal.returns-then-met-eq0-clause-table
returns-then-met-eq0-clause-table c = λ e.
    let a = c.args in
    taken_in a.keys.kinds.now a.keys.ids.now a.keys.fields.now c.loop-s.table a.class.last a.class.number a.last_slot a.b c.loop-s.invariant.0 c.loop-s.s c.loop-s.invariant.1 (omega arith) c.if-met-eq0.true

-- the comparison of the two keys
compared : (c : After-eq) → c.eq.result ≡ alike c.args.keys (slice_index_or c.loop-s.table c.loop-s.s 0 - 1) c.args.b
compared c = c.eq.ensures ∙ alike_at c.args.keys _ c.args.b _ _ c.at.ensures c.at-key.ensures

pub returns-then-eq-clause-value : goal.returns-then-eq-clause-value
returns-then-eq-clause-value c =
    let a = c.args in
    let met = slice_index_or c.loop-s.table c.loop-s.s 0 - 1 in
    let earlier : met < a.b = omega (arith, c.if-met-eq0.false, c.loop-s.invariant.0.earlier c.loop-s.s) in
    let twice : repeats a.keys a.b ≡ true = T_true _ (any-i a.b (λ i. alike a.keys i a.b) met earlier (T_of _ (sym (compared (goal.at.returns-then-eq-clause-value c).After-eq) ∙ c.if-eq.true))) in
    search rules

pub loop-s-preserved : goal.loop-s-preserved
loop-s-preserved c = (
  c.loop-s.invariant.0,
  walk_next c.args.keys.kinds.now c.args.keys.ids.now c.args.keys.fields.now c.loop-s.table c.args.last_slot c.args.b c.loop-s.s c.loop-s.invariant.1 (c.if-met-eq0.false, sym (compared (goal.at.loop-s-preserved c).After-eq) ∙ c.if-eq.false),
)
