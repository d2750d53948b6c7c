-- `text_writing::inner::RefSliceU32Text::put` meets its contract. Assumes nothing.
use Rattle.std.proofs.Common.{◌≡◌, ◌+◌, ◌≤◌, ◌++◌, ◌∷◌, [], length, get_or, take, ap, sym, ◌∙◌, arith, length-append, append_assoc}
use Rattle.base.specs.Lists.{placed}
use Rattle.base.proofs.Lists.{placed-none}
use Rattle.text_writing.specs.Text.{comma, decimal, numbers}
use Rattle.text_writing.proofs.Lists.{numbers-none, numbers-first, numbers-next, numbers-part, put-long, put-behind}
use Rattle.text_writing.proofs.inner.RefSliceU32Text.put.Goals.{In-loop-x, After-put_byte}
use Rattle.text_writing.proofs.inner.RefSliceU32Text.put.Goals as goal

-- there is room for what is put, and for a comma and a number behind it
part : (c : In-loop-x) → c.args.out.now.len + length (numbers (take (c.loop-x.x-index + 1) c.args.self.now)) ≤ length c.args.out.now.bytes.now
part c = omega (arith, numbers-part c.args.self.now (c.loop-x.x-index + 1))

room : (c : In-loop-x) → c.args.out.now.len + length (numbers (take (c.loop-x.x-index + 1) c.args.self.now)) + 1 + length (decimal (get_or c.in-Some.rest.now c.loop-x.x-index 0)) ≤ length c.args.out.now.bytes.now
room c =
    let xs = c.args.self.now in
    let k = c.loop-x.x-index in
    let next = numbers-next xs _ _ c.in-Some.ensures.cases.0 k c.loop-x-test.true in
    omega (arith, numbers-part xs (k + 1 + 1), ap length next, length-append (numbers (take (k + 1) xs)) (comma ∷ decimal (get_or c.in-Some.rest.now k 0)))

-- with the comma
commaed : (c : After-put_byte) → c.put_byte.new.out.bytes.now ≡ placed c.args.out.now.len (numbers (take (c.loop-x.x-index + 1) c.args.self.now) ++ (comma ∷ [])) c.args.out.now.bytes.now
commaed c = put-behind _ _ _ (omega (arith, numbers-part c.args.self.now (c.loop-x.x-index + 1))) _ c.loop-x.invariant.2 (comma ∷ []) _ _ c.loop-x.invariant.1 c.put_byte.ensures.bytes

wide : (c : In-loop-x) → c.args.out.now.len + length (numbers (take (c.loop-x.x-index + 1) c.args.self.now) ++ (comma ∷ [])) ≤ length c.args.out.now.bytes.now
wide c = omega (arith, room c, length-append (numbers (take (c.loop-x.x-index + 1) c.args.self.now)) (comma ∷ []))

pub returns-in_default-clause-len : goal.returns-in_default-clause-len
returns-in_default-clause-len c = rw (numbers-none _ c.in_default.ensures.cases) (omega arith)

pub returns-in_default-clause-bytes : goal.returns-in_default-clause-bytes
returns-in_default-clause-bytes c = rw (numbers-none _ c.in_default.ensures.cases) (sym (placed-none _ _))

pub put-requires : goal.put-requires
put-requires c = omega (arith, numbers-part c.args.self.now 1, ap length (numbers-first _ _ _ c.in-Some.ensures.cases.0))

pub loop-x-init : goal.loop-x-init
loop-x-init c = let first = numbers-first _ _ _ c.in-Some.ensures.cases.0 in (c.put.ensures.same_reference, cc, cc)

pub put_byte-requires : goal.put_byte-requires
put_byte-requires c =
    let i = (goal.at.put_byte-requires c).In-loop-x in
    omega (arith, room i, c.loop-x.invariant.1, put-long _ _ _ (part i) _ c.loop-x.invariant.2)

pub put-requires-in-loop-x : goal.put-requires-in-loop-x
put-requires-in-loop-x c =
    let i = (goal.at.put-requires-in-loop-x c).In-loop-x in
    omega (arith, room i, c.loop-x.invariant.1, c.put_byte.ensures.len, put-long _ _ _ (wide i) _ (commaed (goal.at.put-requires-in-loop-x c).After-put_byte))

pub loop-x-preserved : goal.loop-x-preserved
loop-x-preserved c =
    let i = (goal.at.loop-x-preserved c).In-loop-x in
    let l = c.loop-x in
    let xs = c.args.self.now in
    let text = numbers (take (l.x-index + 1) xs) in
    let more = decimal (get_or c.in-Some.rest.now l.x-index 0) in
    let next = numbers-next xs _ _ c.in-Some.ensures.cases.0 l.x-index c.loop-x-test.true in
    let len : c.put_byte.new.out.len ≡ c.args.out.now.len + length (text ++ (comma ∷ [])) = omega (arith, l.invariant.1, c.put_byte.ensures.len, length-append text (comma ∷ [])) in (
      c.put-in-loop-x.ensures.same_reference ∙ c.put_byte.ensures.same_reference ∙ l.invariant.0,
      omega (arith, ap length next, length-append text (comma ∷ more), l.invariant.1, c.put_byte.ensures.len, c.put-in-loop-x.ensures.len),
      put-behind _ _ _ (wide i) _ (commaed (goal.at.loop-x-preserved c).After-put_byte) more _ _ len c.put-in-loop-x.ensures.bytes
          ∙ ap (λ x. placed c.args.out.now.len x c.args.out.now.bytes.now) (append_assoc text (comma ∷ []) more ∙ sym next),
    )

pub returns-clause-same_reference : goal.returns-clause-same_reference
returns-clause-same_reference c = c.loop-x.invariant.0
