-- `side::inner::first_bad` meets its contract. Assumes nothing.
use Rattle.std.proofs.Common.{sym, ◌∙◌, arith}
use borrow.Author.Tests.{leb-true, leb-false, ltb-true}
use Rattle.side.proofs.Accepted.{good-word}
use Rattle.side.proofs.Words.{bad-zero, bad-order, bad-inside, first-bad, all-good, good-next}
use Rattle.side.proofs.inner.first_bad.Goals.{then-mask-eq0-via-then-mask-eq0, then-mask-eq0-via-else-mask-eq0+then-word-word_indices, then-k-gt0, else-k-gt0, then-mask-eq0-via-else-mask-eq0+else-word-word_indices+then-not-word_inside}
use Rattle.side.proofs.inner.first_bad.Goals as goal

pub returns-then-mask-eq0 : goal.returns-then-mask-eq0
returns-then-mask-eq0 c =
    first-bad _ _ _ _ c.loop-k.invariant c.loop-k-test.true
    (elim c.then-mask-eq0.branch [
      | then-mask-eq0-via-then-mask-eq0 w ↦ bad-zero _ _ _ _ _ w.if-mask-eq0.true
      | then-mask-eq0-via-else-mask-eq0+then-word-word_indices w ↦
          let falls = w.if-word-word_indices.true in
          elim w.if-k-gt0.branch [
            | then-k-gt0 v ↦ bad-order _ _ _ _ _ v.if-k-gt0.true (leb-true _ _ (sym v.value-is ∙ falls))
            | else-k-gt0 v ↦ absurd (omega (arith, v.if-k-gt0.false, ltb-true 0 c.loop-k.k (sym v.value-is ∙ falls)))
          ]
      | then-mask-eq0-via-else-mask-eq0+else-word-word_indices+then-not-word_inside w ↦
          bad-inside _ _ _ _ _ (sym (rw w.new.ensures at w.word_inside.ensures) ∙ w.if-not-word_inside.true)
    ])

pub loop-k-preserved : goal.loop-k-preserved
loop-k-preserved c =
    good-next _ _ _ _ c.loop-k.invariant
    (good-word _ _ _ _ _ (omega (arith, c.if-mask-eq0.false)) (omega arith)
    (λ h. elim c.if-k-gt0.branch [ then-k-gt0 w ↦ leb-false _ _ (sym w.value-is ∙ c.if-word-word_indices.false) | else-k-gt0 w ↦ absurd (omega (arith, w.if-k-gt0.false)) ])
    (sym (rw c.new.ensures at c.word_inside.ensures) ∙ c.if-not-word_inside.false))

pub returns : goal.returns
returns c = all-good _ _ _ _ c.loop-k.invariant (omega arith)
