-- `dof_layout::blocks::check_each` meets its contract. Both loops keep that the blocks before b pass; the inner one stops at a twin. Assumes nothing.
use Rattle.std.proofs.Common.{◌≡◌, false, List, ℕ, ◌≤◌, ◌<◌, ◌-◌, length}
use Rattle.std.specs.Prelude.{Ok}
use Rattle.base.specs.Checks.{side_limit, checks_below}
use Rattle.dof_layout.specs.Layout.{start_of, block_check}
use Rattle.twins.specs.declared.keys.Keys.{Keys}
use Rattle.twins.specs.Views.{repeats}
use Rattle.dof_layout.proofs.blocks.check_each.Given as goal

-- the blocks before b pass; `total` is their running total, and at least their number
pub record Passed (keys : Keys) (components : List ℕ) (total b : ℕ) : Type 0 where
  pub within : b ≤ length keys.kinds.now
  pub running : total ≡ start_of components b
  pub short : total ≤ side_limit
  pub filled : b ≤ total
  pub fresh : (a : ℕ) → a < b → repeats keys a ≡ false
  pub checks : checks_below b (block_check keys.kinds.now keys.ids.now keys.fields.now components) ≡ Ok tt

abbrev pub invariant-loop-from : goal.invariant-loop-from
invariant-loop-from l = Passed l.keys l.components l.total l.from

abbrev pub decreases-loop-from : goal.decreases-loop-from
decreases-loop-from l = length l.keys.kinds.now - l.from

abbrev pub invariant-loop-b : goal.invariant-loop-b
invariant-loop-b l = Passed l.keys l.components l.total l.b × (l.b ≤ l.twin)
