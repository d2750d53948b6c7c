-- `text_reading::inner::read_number` meets its contract. Assumes nothing.
use Rattle.std.proofs.Common.{◌≡◌, ◌<◌, eqb, false, true, Bool, List, ℕ, length, sym, ap, ◌∙◌, arith}
use Rattle.std.specs.Bool.{then_some}
use borrow.Author.Tests.{eqb-true, eqb-false}
use Rattle.text_reading.specs.Reading.{is_number, value_from, number_of, leading_zero}
use Rattle.text_reading.proofs.Numbers.{number-empty, number-first, number-is}
use Rattle.text_reading.proofs.inner.read_number.Goals.{then-is_empty-via-then-is_empty, then-is_empty-via-else-is_empty+then-has_leading_zero}
use Rattle.text_reading.proofs.inner.read_number.Goals as goal

some : (s : List ℕ) → eqb (length s) 0 ≡ false → 0 < length s
some s e = omega (arith, eqb-false (length s) 0 e)

pub returns-then-is_empty : goal.returns-then-is_empty
returns-then-is_empty c =
    let s = c.args.bytes.now in
    let most = c.args.most in
    let none : is_number most s ≡ false = elim c.then-is_empty.branch [
      | then-is_empty-via-then-is_empty w ↦ number-empty most s (eqb-true (length s) 0 (sym c.is_empty.ensures ∙ w.if-is_empty.true))
      | then-is_empty-via-else-is_empty+then-has_leading_zero w ↦ number-first most s (some s (sym c.is_empty.ensures ∙ w.if-is_empty.false)) true (sym w.has_leading_zero.ensures ∙ w.if-has_leading_zero.true)
    ] in
    sym (ap (λ (b : Bool). then_some b (number_of most s)) none)

pub returns : goal.returns
returns c =
    let s = c.args.bytes.now in
    let most = c.args.most in
    let h : 0 < length s = some s (sym c.is_empty.ensures ∙ c.if-is_empty.false) in
    let z : leading_zero s ≡ false = sym c.has_leading_zero.ensures ∙ c.if-has_leading_zero.false in
    c.read_digits.ensures
    ∙ sym (ap (λ (b : Bool). then_some b (value_from 0 s)) (number-first most s h false z))
    ∙ number-is most s
