-- `growth::inner::GraphHop::reach` meets its contract. Assumes nothing.
use Rattle.std.proofs.Common.{◌∙◌}
use Rattle.growth.proofs.Growing.{alone}
use Rattle.growth.proofs.inner.GraphHop.reach.Goals as goal

pub returns-clause-reached_after : goal.returns-clause-reached_after
returns-clause-reached_after c = c.expand.ensures.reached_after ∙ alone _ _
