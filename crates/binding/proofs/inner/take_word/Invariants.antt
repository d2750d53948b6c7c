-- `binding::inner::take_word` meets its contract. The invariant: the run has come to e. Assumes nothing.
use Rattle.binding.specs.Steps.{RunOf}
use Rattle.binding.proofs.Runs.{up_to}
use Rattle.binding.proofs.inner.take_word.Given as goal

abbrev pub invariant-loop-e : goal.invariant-loop-e
invariant-loop-e l = RunOf l.col_idx l.from l.to l.word l.inside (up_to l.col_idx l.from l.to l.word l.inside l.bits l.e l.pairs l.sources)
