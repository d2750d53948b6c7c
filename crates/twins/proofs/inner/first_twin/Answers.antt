-- `twins::inner::first_twin` meets its contract. Assumes nothing.
use Rattle.std.proofs.Common.{arith}
use Rattle.twins.proofs.Twins.{twin-first}
use Rattle.twins.proofs.inner.first_twin.Goals as goal

pub returns : goal.returns
returns c = twin-first c.args.keys.kinds.now c.args.keys.ids.now c.args.keys.fields.now c.last_class-last.result c.loop-number.number c.args.count c.loop-number.twin (omega arith) c.loop-number.invariant
