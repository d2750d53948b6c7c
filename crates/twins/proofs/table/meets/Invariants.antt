-- `twins::table::meets` meets its contract. The invariant: the slots from the block's home on are taken, by other keys. Assumes nothing.
use Rattle.twins.specs.Views.{TableOf}
use Rattle.twins.proofs.Tables.{Walked}
use Rattle.twins.proofs.table.meets.Given as goal

abbrev pub invariant-loop-s : goal.invariant-loop-s
invariant-loop-s l = TableOf l.keys l.table l.fn.class.last l.fn.class.number l.last_slot l.b × Walked l.keys.kinds.now l.keys.ids.now l.keys.fields.now l.table l.last_slot l.b l.s
