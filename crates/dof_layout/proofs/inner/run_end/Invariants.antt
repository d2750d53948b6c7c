-- `dof_layout::inner::run_end` meets its contract. The invariant: the blocks from a up to b have the field. Assumes nothing.
use Rattle.std.proofs.Common.{◌≡◌, ◌≤◌, ◌<◌, ℕ, get_or}
use Rattle.dof_layout.proofs.inner.run_end.Given as goal

abbrev pub invariant-loop-b : goal.invariant-loop-b
invariant-loop-b l = (c : ℕ) → l.a ≤ c → c < l.b → get_or l.fields c 0 ≡ l.field
