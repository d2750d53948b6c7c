-- `records::inner::put_list` meets its contract. Assumes nothing.
use Rattle.std.proofs.Common.{◌*◌, [], ◌∷◌, map, get_or, arith}
use Rattle.base.proofs.Lists.{placed-none, placed-more, get_or-mapped}
use Rattle.records.specs.Bytes.{bytes_of}
use Rattle.records.proofs.Bytes.{bytes-length, bytes-none, number-next}
use Rattle.records.proofs.inner.put_list.Goals as goal

pub loop-k-init : goal.loop-k-init
loop-k-init g c = cc (placed-none c.args.at c.args.out.now, bytes-none (map g.T.Element.written c.args.list.now))

pub loop-k-preserved : goal.loop-k-preserved
loop-k-preserved g c =
    let xs = map g.T.Element.written c.args.list.now in
    let k = c.loop-k.k in
    let X = bytes_of xs (8 * k) in
    let Y = bytes_of (get_or xs k 0 ∷ []) 8 in
    let n = bytes-length xs (8 * k) in
    let e = get_or-mapped g.T.Element.written c.args.list.now k c.index-list-k.result 0 c.loop-k-test.true in
    let more = placed-more c.args.at X Y c.args.out.now (omega (arith, n)) in
    cc (number-next xs k, more)
