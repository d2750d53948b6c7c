use Rattle.std.proofs.Common.{rules, ◌≡◌, sym, Ok}
use Rattle.base.proofs.Checks.{length-refuses}
use Rattle.mask.specs.Mask.{shape_check}
use Rattle.mask.proofs.Masks.{accepted-shape}
use Rattle.mask.proofs.Shape.{shapes}
use Rattle.mask.proofs.inner.check_shape.Goals as goal

pub returns-in_err-must_be-clause-value : goal.returns-in_err-must_be-clause-value
unfolding shape_check
returns-in_err-must_be-clause-value c =
    length-refuses _ _ _ _ _ _ _ c.must_be.ensures.value c.words_for-need.ensures c.in_err-must_be.was c.from_residual.ensures.1

pub returns-then-spare-eq0-clause-accepted : goal.returns-then-spare-eq0-clause-accepted
unfolding shape_check
returns-then-spare-eq0-clause-accepted c =
    let value : Ok tt ≡ shape_check c.args.len c.args.words.now = search (rules, shapes) in
    accepted-shape _ _ c.requires (search rules) (sym value)

pub returns-clause-accepted : goal.returns-clause-accepted
unfolding shape_check
returns-clause-accepted c =
    let value : Ok tt ≡ shape_check c.args.len c.args.words.now = search (rules, shapes) in
    accepted-shape _ _ c.requires (search rules) (sym value)
