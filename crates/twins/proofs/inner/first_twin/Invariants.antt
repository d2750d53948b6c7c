-- `twins::inner::first_twin` meets its contract. The invariant: no block before `twin` that is of an earlier class repeats a key. Assumes nothing.
use Rattle.twins.specs.Views.{TwinOf}
use Rattle.twins.proofs.inner.first_twin.Given as goal

abbrev pub invariant-loop-number : goal.invariant-loop-number
invariant-loop-number l = TwinOf l.keys l.last 0 l.number l.count l.twin
