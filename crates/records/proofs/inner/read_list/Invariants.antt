-- `records::inner::read_list` meets its contract. The invariant: the first k numbers are written. Assumes nothing.
use Rattle.std.proofs.Common.{◌≡◌, take}
use Rattle.records.specs.Bytes.{list_found_at}
use Rattle.records.proofs.inner.read_list.Given as goal

abbrev pub invariant-loop-k : goal.invariant-loop-k
invariant-loop-k g l = take l.k l.list ≡ list_found_at g.T.Element.read l.k l.call l.at
