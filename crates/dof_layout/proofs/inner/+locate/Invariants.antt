-- `locate` ends: the span between the two ends falls. Assumes nothing.
use Rattle.std.proofs.Common.{◌-◌}
use Rattle.dof_layout.proofs.inner.+locate.Given as goal

abbrev pub decreases-locate : goal.decreases-locate
decreases-locate l = l.high - l.low
