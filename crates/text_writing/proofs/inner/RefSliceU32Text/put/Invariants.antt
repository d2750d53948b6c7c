-- `text_writing::inner::RefSliceU32Text::put` meets its contract. The invariant: the text of the first numbers is put. Assumes nothing.
use Rattle.std.proofs.Common.{◌≡◌, ◌+◌, length, take}
use Rattle.base.specs.Lists.{placed}
use Rattle.text_writing.specs.Text.{numbers}
use Rattle.text_writing.proofs.inner.RefSliceU32Text.put.Given as goal

abbrev pub invariant-loop-x : goal.invariant-loop-x
invariant-loop-x l =
    (l.out.bytes.ghost_name ≡ l.fn.out.bytes.ghost_name)
    × (l.out.len ≡ l.fn.out.len + length (numbers (take (l.x-index + 1) l.self)))
    × (l.out.bytes.now ≡ placed l.fn.out.len (numbers (take (l.x-index + 1) l.self)) l.fn.out.bytes.now)
