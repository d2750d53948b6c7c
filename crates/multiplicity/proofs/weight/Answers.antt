-- `multiplicity::weight` meets its contract. Assumes nothing.
use Rattle.std.proofs.Common.{◌≡◌, refl, sym, ap, ◌∙◌, subst, Bool, cond, ℕ, ◌/◌, ◌≤◌, ◌<◌, arith, lt-ltb, le-ltb}
use Rattle.std.specs.Prelude.{Ok, Err}
use Rattle.base.proofs.Checks.{handed, group-pass, group-stop, pass, stop, last-pass, last-stop, on-accepted, on-refused}
use Rattle.multiplicity.specs.Multiplicity.{multiplicity_of, weight_check, weight_of}
use Rattle.multiplicity.proofs.Counts.{as-lent, mult-pos}
use Rattle.multiplicity.proofs.weight.Goals.{In_ok-regions, then-region-regions-via-then-region-regions, then-region-regions-via-else-region-regions+then-node-regions}
use Rattle.multiplicity.proofs.weight.Goals as goal

pub returns-in_err-regions : goal.returns-in_err-regions
unfolding weight_check
returns-in_err-regions c = handed _ _ c.from_residual.ensures.1 ∙ on-refused _ _ _ Err (sym (group-stop _ _ _ c.in_err-regions.ensures.refused))

pub returns-then-region-regions : goal.returns-then-region-regions
unfolding weight_check
returns-then-region-regions c =
    let a = c.in_ok-regions.ensures.accepted in
    on-refused _ _ _ Err
    (sym (group-pass _ _ _ a.0
    (elim c.then-region-regions.branch [
      | then-region-regions-via-then-region-regions w ↦ stop _ _ _ _ (le-ltb _ _ (subst (λ n. n ≤ c.args.region) a.1.1 w.if-region-regions.true)) refl
      | then-region-regions-via-else-region-regions+then-node-regions w ↦
          pass _ _ _ _ (lt-ltb _ _ (subst (λ n. c.args.region < n) a.1.1 w.if-region-regions.false)) (last-stop _ _ _ (le-ltb _ _ (subst (λ n. n ≤ c.args.node) a.1.0 w.if-node-regions.true)) refl)
    ])))

-- region and node are named within their bounds
within : (c : In_ok-regions) → c.args.region < c.in_ok-regions.regions.region_count → c.args.node < c.in_ok-regions.regions.node_count
    → weight_check c.args.regions.node_count c.args.regions.region_count c.args.regions.words.now c.args.region c.args.node ≡ Ok tt
unfolding weight_check
within c q i =
    let a = c.in_ok-regions.ensures.accepted in
    sym
    (group-pass _ _ _ a.0
    (pass _ _ _ _ (lt-ltb _ _ (subst (λ n. c.args.region < n) a.1.1 q)) (last-pass _ _ _ (lt-ltb _ _ (subst (λ n. c.args.node < n) a.1.0 i)) refl)))

pub returns-then-not-holds : goal.returns-then-not-holds
returns-then-not-holds c =
    let r = c.in_ok-regions.regions in
    on-accepted _ _ _ _ (within (goal.at.returns-then-not-holds c).In_ok-regions c.if-region-regions.false c.if-node-regions.false)
    (ap Ok
    (ap (λ (b : Bool). cond b (65536 / multiplicity_of r.node_count r.region_count r.words.now c.args.node) 0) c.if-not-holds.ensures
    ∙ as-lent (λ n k w. weight_of n k w c.args.region c.args.node) _ r c.in_ok-regions.ensures.accepted.1))

pub nonzero_div-result : goal.nonzero_div-result
nonzero_div-result c =
    let r = c.in_ok-regions.regions in
    omega (arith, c.multiplicity.ensures, mult-pos r.node_count r.words.now c.args.node r.region_count c.args.region c.if-region-regions.false (sym c.if-not-holds.ensures))

pub returns : goal.returns
returns c =
    let r = c.in_ok-regions.regions in
    on-accepted _ _ _ _ (within (goal.at.returns c).In_ok-regions c.if-region-regions.false c.if-node-regions.false)
    (ap Ok
    (ap (λ (m : ℕ). 65536 / m) c.multiplicity.ensures
    ∙ ap (λ (b : Bool). cond b (65536 / multiplicity_of r.node_count r.region_count r.words.now c.args.node) 0) c.if-not-holds.ensures
    ∙ as-lent (λ n k w. weight_of n k w c.args.region c.args.node) _ r c.in_ok-regions.ensures.accepted.1))
