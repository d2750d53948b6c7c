-- `text_reading::inner::cut` meets its contract. Assumes nothing.
use Rattle.std.proofs.Common.{◌≡◌, ◌+◌, ◌-◌, Some, None, cond, eqb, ltb, length, take, drop, refl, sym, ap, ◌∙◌, rules, arith, length-drop, take_all}
use Rattle.std.proofs.lemmas.Iterator.{YieldsList-from_slice}
use Rattle.std.proofs.lemmas.Iterator.Search.{position_from_yields_List}
use Rattle.std.specs.List.{position_or_len}
use borrow.Author.Tests.{tests}
use native.Mathlib.Numerals.{add-one}
use Rattle.text_reading.specs.Reading.{behind}
use Rattle.text_reading.proofs.Parts.{take-before, behind-drop, before-all, search-found, search-missing}
use Rattle.text_reading.proofs.inner.cut.Goals.{After-position}
use Rattle.text_reading.proofs.inner.cut.Goals as goal

place : (c : After-position) → c.position.result ≡ cond (ltb (position_or_len (λ b. eqb b c.args.byte) c.args.bytes.now) (length c.args.bytes.now)) (Some (position_or_len (λ b. eqb b c.args.byte) c.args.bytes.now)) None
place c = position_from_yields_List (λ b. eqb b c.args.byte) _ _ c.position.result c.position.ensures.ran (YieldsList-from_slice c.args.bytes.now cc) (λ x b q k. search (rules, tests))

pub returns-in-Some-clause-front : goal.returns-in-Some-clause-front
returns-in-Some-clause-front c =
    let bytes = c.args.bytes.now in
    let f = search-found c.args.byte bytes c.in-Some.n (sym c.in-Some.is ∙ place (goal.at.returns-in-Some-clause-front c).After-position) in
    ap (λ k. take k bytes) f.0 ∙ take-before c.args.byte bytes

pub returns-in-Some-clause-back : goal.returns-in-Some-clause-back
returns-in-Some-clause-back c =
    let bytes = c.args.bytes.now in
    let n = c.in-Some.n in
    let f = search-found c.args.byte bytes n (sym c.in-Some.is ∙ place (goal.at.returns-in-Some-clause-back c).After-position) in
    let rest : take (length bytes - (n + 1)) (drop (n + 1) bytes) ≡ behind c.args.byte bytes =
    take_all (length bytes - (n + 1)) (drop (n + 1) bytes) (omega (arith, length-drop (n + 1) bytes)) ∙ ap (λ k. drop k bytes) (ap (λ k. k + 1) f.0 ∙ add-one _) ∙ sym (behind-drop c.args.byte bytes) in
    rw (rest, f.1) refl

pub returns-in-None-clause-front : goal.returns-in-None-clause-front
returns-in-None-clause-front c =
    before-all c.args.byte c.args.bytes.now (search-missing c.args.byte c.args.bytes.now (sym c.in-None.is ∙ place (goal.at.returns-in-None-clause-front c).After-position))

pub returns-in-None-clause-back : goal.returns-in-None-clause-back
returns-in-None-clause-back c =
    rw (search-missing c.args.byte c.args.bytes.now (sym c.in-None.is ∙ place (goal.at.returns-in-None-clause-back c).After-position)) refl
