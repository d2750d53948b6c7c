-- `topology::AbtmTopologyStats::word_fill_ratio` meets its contract. Assumes nothing.
use mathlib.Core.Path.{ap}
use Prim.Native.Nat.{◌^◌}
use native.Mathlib.Omega.{arith}
use lib.Dec.{le→leb}
use lib.Ieee.{Float, binary64, div, of_int, in_float}
use lib.IntN.{pos}
use Rattle.topology.proofs.AbtmTopologyStats.word_fill_ratio.Goals as goal

pub int_to_float-result : goal.int_to_float-result
unfolding in_float
int_to_float-result c = le→leb 64 (2 ^ 53) (omega arith)

pub returns : goal.returns
returns c = ap (λ (x : Float). div binary64 x (of_int binary64 (pos 64))) c.average_word_nnz.ensures
