-- `text_writing::inner::U64Text::put` meets its contract. Assumes nothing.
use Rattle.std.proofs.Common.{◌≡◌, ◌-◌, ◌%◌, [], ◌∷◌, refl, sym, ap, ◌∙◌, arith, length-set}
use mathlib.Core.List.{append-nil}
use mathlib.Core.Logic.{inl}
use Prim.Native.Nat.{◌+◌}
use Rattle.base.proofs.Lists.{placed-none}
use Rattle.text_writing.specs.Text.{digit, decimal}
use Rattle.text_writing.proofs.Digits.{digit-turn}
use Rattle.text_writing.proofs.Lists.{placed-ahead}
use Rattle.text_writing.proofs.inner.U64Text.put.Goals as goal

pub loop-place-init : goal.loop-place-init
loop-place-init c = (refl, refl, refl, (decimal c.args.self, [], inl refl, ap (λ k. c.args.out.now.len + k) c.length.ensures, sym (append-nil _), sym (placed-none _ _)))

pub loop-place-preserved : goal.loop-place-preserved
loop-place-preserved c =
    let l = c.loop-place in
    let i = l.invariant.3 in
    let o = c.args.out.now.bytes.now in
    let d = digit (l.left % 10) in
    let t = digit-turn l.left i.0 i.1 (decimal c.args.self) l.place c.args.out.now.len (omega arith) c.loop-place-test.true i.2 i.3 i.4 in
    let before : l.place - 1 + 1 ≡ l.place = omega arith in (
      l.invariant.0,
      l.invariant.1,
      length-set _ _ _ ∙ l.invariant.2,
      (t.0, d ∷ i.1, t.1, t.2, t.3, cc (i.5, before, placed-ahead (l.place - 1) i.1 o d (omega (arith, l.auto.place, c.length.ensures, c.requires)))),
    )
