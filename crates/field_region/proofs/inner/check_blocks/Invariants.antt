-- `field_region::inner::check_blocks` meets its contract. The invariant: the blocks before b are accepted. Assumes nothing.
use Rattle.std.proofs.Common.{◌≡◌}
use Rattle.std.specs.Prelude.{Ok}
use Rattle.base.specs.Checks.{checks_below}
use Rattle.field_region.specs.Owners.{owner_check}
use Rattle.field_region.proofs.inner.check_blocks.Given as goal

abbrev pub invariant-loop-b : goal.invariant-loop-b
invariant-loop-b l = checks_below l.b (owner_check l.layout.components.now l.dof_owners l.ranks) ≡ Ok tt
