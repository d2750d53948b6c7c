-- `records::inner::put_list` meets its contract. The invariant: the bytes of the first k numbers are put. Assumes nothing.
use Rattle.std.proofs.Common.{◌≡◌, ◌*◌, map}
use Rattle.base.specs.Lists.{placed}
use Rattle.records.specs.Bytes.{bytes_of}
use Rattle.records.proofs.inner.put_list.Given as goal

abbrev pub invariant-loop-k : goal.invariant-loop-k
invariant-loop-k g l = l.out ≡ placed l.at (bytes_of (map g.T.Element.written l.list) (8 * l.k)) l.initial.out
