-- `text_writing::inner::put_line` meets its contract. Assumes nothing.
use Rattle.std.proofs.Common.{◌≡◌, ◌+◌, ◌≤◌, ◌++◌, ◌∷◌, [], length, ap, ◌∙◌, arith, length-append, append_assoc}
use Rattle.base.specs.Lists.{placed}
use Rattle.text_writing.specs.Text.{newline, line}
use Rattle.text_writing.proofs.Lists.{length-line, put-long, put-behind}
use Rattle.text_writing.proofs.inner.put_line.Given.{Over}
use Rattle.text_writing.proofs.inner.put_line.Goals.{After-put, After-put-2}
use Rattle.text_writing.proofs.inner.put_line.Goals as goal

-- how long the list is behind the key, and behind the value
key : (g : Over) (c : After-put g) → length c.put.new.out.bytes.now ≡ length c.args.out.now.bytes.now
key g c = put-long c.args.out.now.len c.args.key.now c.args.out.now.bytes.now (omega (arith, length-line c.args.key.now (g.T.Text.text c.args.value))) _ c.put.ensures.bytes

both : (g : Over) (c : After-put-2 g) → c.put-2.new.out.bytes.now ≡ placed c.args.out.now.len (c.args.key.now ++ g.T.Text.text c.args.value) c.args.out.now.bytes.now
both g c =
    put-behind c.args.out.now.len c.args.key.now c.args.out.now.bytes.now (omega (arith, length-line c.args.key.now (g.T.Text.text c.args.value))) _ c.put.ensures.bytes (g.T.Text.text c.args.value) _ _ c.put.ensures.len c.put-2.ensures.bytes

room : (g : Over) (c : After-put-2 g) → c.args.out.now.len + length (c.args.key.now ++ g.T.Text.text c.args.value) ≤ length c.args.out.now.bytes.now
room g c = omega (arith, length-line c.args.key.now (g.T.Text.text c.args.value), length-append c.args.key.now (g.T.Text.text c.args.value))

pub put-requires-2 : goal.put-requires-2
put-requires-2 g c = omega (arith, length-line c.args.key.now (g.T.Text.text c.args.value), c.put.ensures.len, key g (goal.at.put-requires-2 g c).After-put)

pub put_byte-requires : goal.put_byte-requires
put_byte-requires g c =
    let a = (goal.at.put_byte-requires g c).After-put-2 in
    omega (arith, length-line c.args.key.now (g.T.Text.text c.args.value), c.put.ensures.len, c.put-2.ensures.len, put-long _ _ _ (room g a) _ (both g a))

pub returns-clause-bytes : goal.returns-clause-bytes
unfolding line
returns-clause-bytes g c =
    let a = (goal.at.returns-clause-bytes g c).After-put-2 in
    let len : c.put-2.new.out.len ≡ c.args.out.now.len + length (c.args.key.now ++ g.T.Text.text c.args.value) = omega (arith, c.put.ensures.len, c.put-2.ensures.len, length-append c.args.key.now (g.T.Text.text c.args.value)) in
    put-behind _ _ _ (room g a) _ (both g a) (newline ∷ []) _ _ len c.put_byte.ensures.bytes ∙ ap (λ x. placed c.args.out.now.len x c.args.out.now.bytes.now) (append_assoc c.args.key.now (g.T.Text.text c.args.value) (newline ∷ []))

pub returns-clause-room : goal.returns-clause-room
returns-clause-room g c = put-long _ _ _ c.requires _ (returns-clause-bytes g c)
