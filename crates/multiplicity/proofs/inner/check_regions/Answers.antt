-- `multiplicity::inner::check_regions` meets its contract. Assumes nothing.
use Rattle.std.proofs.Common.{refl, sym, ap, ◌∙◌, ◌*◌, arith, le-leb, eq-eqb}
use Rattle.base.proofs.Checks.{pass, length-pass, length-refuses, last-pass}
use Rattle.multiplicity.specs.Multiplicity.{regions_check}
use Rattle.multiplicity.proofs.Regions.{accepted-regions}
use Rattle.multiplicity.proofs.inner.check_regions.Goals as goal

pub returns-in_err-must_be-clause-value : goal.returns-in_err-must_be-clause-value
unfolding regions_check
returns-in_err-must_be-clause-value c =
    pass _ _ _ _ (le-leb _ _ c.if-node_count-gt-SIDE_LIMIT.false)
    (pass _ _ _ _ (le-leb _ _ c.if-region_count-gt-REGION_LIMIT.false)
    (length-refuses _ _ _ _ _ _ _ c.must_be.ensures.value (ap (λ w. c.args.region_count * w) c.words_for.ensures) c.in_err-must_be.was c.from_residual.ensures.1))

pub returns-clause-accepted : goal.returns-clause-accepted
unfolding regions_check
returns-clause-accepted c =
    let long = c.in_ok-must_be.ensures.accepted ∙ ap (λ w. c.args.region_count * w) c.words_for.ensures in
    accepted-regions _ _ _ (λ w. omega (arith, c.type_inv.words w))
    (sym
    (pass _ _ _ _ (le-leb _ _ c.if-node_count-gt-SIDE_LIMIT.false)
    (pass _ _ _ _ (le-leb _ _ c.if-region_count-gt-REGION_LIMIT.false) (length-pass _ _ _ _ (eq-eqb _ _ long) (last-pass _ _ _ (sym c.if-not-all_clean.ensures) refl)))))
