-- Each turn took a record and put its answer.
use Rattle.streams.specs.Records.{MayAnswer}
use Rattle.streams.proofs.Records.{Turned}
use Rattle.streams.proofs.inner.answer_records.Given as goal

abbrev pub invariant-loop : goal.invariant-loop
invariant-loop g l = Turned (MayAnswer (goal.F-post g) l.initial.answer g.row.M) g.row.N l.counter (g.R.Read.remaining l.initial.input) (g.R.Read.remaining l.input) (g.W.Write.contents l.initial.output) (g.W.Write.contents l.output)
