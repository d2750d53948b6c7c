-- `topology::inner::ratio` meets its contract. Assumes nothing.
use Prim.Native.Nat.{◌^◌}
use lib.Dec.{le→leb}
use lib.Ieee.{in_float}
use Rattle.topology.proofs.inner.ratio.Goals as goal

pub int_to_float-result : goal.int_to_float-result
unfolding in_float
int_to_float-result c = le→leb c.args.a (2 ^ 53) c.requires.0

pub int_to_float-result-else-b-eq0 : goal.int_to_float-result-else-b-eq0
unfolding in_float
int_to_float-result-else-b-eq0 c = le→leb c.args.b (2 ^ 53) c.requires.1
