-- `binding::inner::take_word` meets its contract. The invariant: the run has come to e. Assumes nothing.
use mathlib.Core.Path.{ap, ◌∙◌}
use native.Mathlib.Omega.{arith}
use Rattle.base.specs.Sets.{one_if}
use Rattle.pattern.proofs.Counting.{bool-number, bool-small}
use Rattle.binding.proofs.Runs.{run-start, pairs-few, sources-few, run-turn}
use Rattle.binding.proofs.inner.take_word.Goals as goal

pub loop-e-init : goal.loop-e-init
loop-e-init c = run-start c.args.col_idx.now c.args.from c.args.to c.args.word c.args.inside c.requires.0

pub overflow_add-sources : goal.overflow_add-sources
overflow_add-sources c =
    let l = c.loop-e in
    omega (arith, c.from-sources.ensures, bool-small c.bit.result, sources-few c.args.col_idx.now c.args.from c.args.to c.args.word c.args.inside l.bits l.e l.pairs l.sources l.invariant)

pub overflow_add-pairs : goal.overflow_add-pairs
overflow_add-pairs c =
    let l = c.loop-e in
    omega (arith, c.from-pairs.ensures, bool-small c.bit-in-loop-e.result, pairs-few c.args.col_idx.now c.args.from c.args.to c.args.word c.args.inside l.bits l.e l.pairs l.sources l.invariant)

pub loop-e-preserved : goal.loop-e-preserved
loop-e-preserved c =
    let l = c.loop-e in
    run-turn c.args.col_idx.now c.args.from c.args.to c.args.word c.args.inside l.bits l.e l.pairs l.sources l.invariant c.requires.1 c.loop-e-test.true c.if-c-word.false _ _
    (c.from-pairs.ensures ∙ bool-number c.bit-in-loop-e.result ∙ ap one_if c.bit-in-loop-e.ensures)
    (c.from-sources.ensures ∙ bool-number c.bit.result ∙ ap one_if c.bit.ensures)
