-- `repeated::repeat_closing` meets its contract. The invariant: the list is as it was. Assumes nothing.
use mathlib.Core.Path.{◌≡◌}
use Rattle.repeated.proofs.repeat_closing.Given as goal

abbrev pub invariant-loop : goal.invariant-loop
invariant-loop l = l.out ≡ l.initial.out
