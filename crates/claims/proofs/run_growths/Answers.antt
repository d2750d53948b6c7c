-- `claims::run_growths` meets its contract: nothing is checked besides. Assumes nothing.
use Rattle.base.specs.Checks.{◌then◌}
use Rattle.claims.specs.Run.{run_check, field_run_check}
use Rattle.claims.proofs.run_growths.Goals as goal

pub returns : goal.returns
unfolding run_check field_run_check ◌then◌
returns c = c.run.ensures
