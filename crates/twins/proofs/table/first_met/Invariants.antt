-- `twins::table::first_met` meets its contract. The invariant: no block before b that is of the class repeats a key. Assumes nothing.
use Rattle.std.proofs.Common.{◌≡◌, false, ℕ, ◌<◌}
use Rattle.twins.specs.Views.{class_of, repeats, TableOf}
use Rattle.twins.proofs.table.first_met.Given as goal

abbrev pub invariant-loop-b : goal.invariant-loop-b
invariant-loop-b l = TableOf l.fn.front.keys l.table l.class.last l.class.number l.last_slot l.b × ((a : ℕ) → a < l.b → class_of l.fn.front.keys l.class.last a ≡ l.class.number → repeats l.fn.front.keys a ≡ false)
