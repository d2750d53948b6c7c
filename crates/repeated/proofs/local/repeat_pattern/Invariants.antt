-- `repeated::local::repeat_pattern` meets its contract. The invariant: the lists are as they were. Assumes nothing.
use mathlib.Core.Path.{◌≡◌}
use Rattle.repeated.proofs.local.repeat_pattern.Given as goal

abbrev pub invariant-loop : goal.invariant-loop
invariant-loop l = (l.global_nodes ≡ l.initial.global_nodes) × (l.row_ptr ≡ l.initial.row_ptr) × (l.col_idx ≡ l.initial.col_idx)
