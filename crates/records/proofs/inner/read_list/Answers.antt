-- `records::inner::read_list` meets its contract. Assumes nothing.
use Rattle.std.proofs.Common.{arith, refl}
use Rattle.std.proofs.lemmas.Grind.{common_steps}
use Rattle.base.specs.Lists.{list_from}
use Rattle.base.proofs.Placed.{list_from-snoc}
use Rattle.records.proofs.inner.read_list.Goals as goal

pub loop-k-init : goal.loop-k-init
unfolding list_from
loop-k-init g c = refl

pub loop-k-preserved : goal.loop-k-preserved
loop-k-preserved g c = grind (arith, common_steps, list_from-snoc)
