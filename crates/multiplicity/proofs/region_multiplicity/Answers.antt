-- `multiplicity::region_multiplicity` meets its contract. Assumes nothing.
use Rattle.std.proofs.Common.{◌≡◌, refl, sym, ap, ◌∙◌, subst, List, ◌++◌, ℕ, ◌≤◌, ◌<◌, arith, length, get_or, take, drop, le-leb, length-take-le, length-append}
use Rattle.std.proofs.lemmas.Bool.{lt-leb}
use Rattle.std.specs.Prelude.{Ok, Err}
use Rattle.base.specs.Lists.{list_from, over}
use Rattle.base.proofs.Checks.{handed, group-pass, group-stop, last-pass, last-stop, on-accepted, on-refused, kept}
use Rattle.base.proofs.Lists.{length-list_from, part_left}
use Rattle.multiplicity.specs.Multiplicity.{multiplicity_of, multiplicity_check, multiplicity_stats}
use Rattle.multiplicity.specs.Views.{multiplicity_at}
use Rattle.multiplicity.proofs.Counts.{as-lent, mults-le, mults-front, mults-stats}
use Rattle.multiplicity.proofs.region_multiplicity.Goals.{After-count}
use Rattle.multiplicity.proofs.region_multiplicity.Goals as goal

pub returns-in_err-regions : goal.returns-in_err-regions
unfolding multiplicity_check
returns-in_err-regions c =
    let e = sym (group-stop _ _ _ c.in_err-regions.ensures.refused) in record {
      value = handed _ _ c.from_residual.ensures.1 ∙ on-refused _ _ _ Err e;
      counts_after = kept _ _ _ _ e;
    }

pub returns-then-need-counts : goal.returns-then-need-counts
unfolding multiplicity_check
returns-then-need-counts c =
    let a = c.in_ok-regions.ensures.accepted in
    let r = last-stop _ _ _ (lt-leb _ _ (subst (λ (n : ℕ). length c.args.counts.now < n) a.1.0 c.if-need-counts.true)) refl in
    let e = sym (group-pass _ _ _ a.0 r) in record {
      value = on-refused _ _ _ Err e;
      counts_after = kept _ _ _ _ e;
    }

pub count-requires : goal.count-requires
count-requires c = length-take-le _ _ c.if-need-counts.false

-- what the tally is lent is the counts
front : (c : After-count) → take c.in_ok-regions.regions.node_count (c.count.new.counts ++ drop c.in_ok-regions.regions.node_count c.args.counts.now) ≡ list_from (multiplicity_at c.in_ok-regions.regions) c.in_ok-regions.regions.node_count 0
front c = mults-front c.in_ok-regions.regions.node_count c.in_ok-regions.regions.words.now c.in_ok-regions.regions.region_count _ c.args.counts.now c.count.ensures

pub slice_bounds-tally-end : goal.slice_bounds-tally-end
slice_bounds-tally-end c =
    let r = c.in_ok-regions.regions in
    omega (arith, length-append c.count.new.counts (drop r.node_count c.args.counts.now), ap length c.count.ensures, length-list_from (multiplicity_at r) r.node_count 0)

pub slice_bounds-tally-end-2 : goal.slice_bounds-tally-end-2
slice_bounds-tally-end-2 c =
    let r = c.in_ok-regions.regions in
    sym (ap length (front (goal.at.slice_bounds-tally-end-2 c).After-count) ∙ length-list_from (multiplicity_at r) r.node_count 0)

pub tally-requires : goal.tally-requires
tally-requires c =
    let r = c.in_ok-regions.regions in
    let f = front (goal.at.tally-requires c).After-count in (
      omega (arith, ap length f, length-list_from (multiplicity_at r) r.node_count 0, r.accepted.few_nodes),
      r.accepted.few_regions,
      λ i. omega (arith, ap (λ (l : List ℕ). get_or l i 0) f, mults-le r.node_count r.words.now r.region_count i, r.accepted.few_regions),
    )

pub returns : goal.returns
unfolding multiplicity_check
returns c =
    let a = c.in_ok-regions.ensures.accepted in
    let r = c.in_ok-regions.regions in
    let at = goal.at.returns c in
    let p = last-pass _ _ _ (le-leb _ _ (subst (λ (n : ℕ). n ≤ length c.args.counts.now) a.1.0 c.if-need-counts.false)) refl in
    let e = sym (group-pass _ _ _ a.0 p) in record {
      value = on-accepted _ _ _ _ e
          (ap Ok (c.tally.ensures ∙ mults-stats r.node_count r.words.now r.region_count _ (front at.After-count) ∙ as-lent (λ n k w. multiplicity_stats n k (multiplicity_of n k w)) _ r a.1));
      counts_after = on-accepted _ _ _ _ e
          (part_left _ _ _ _ c.count.ensures (sym (length-list_from (multiplicity_at r) r.node_count 0)) ∙ as-lent (λ n k w. over (list_from (multiplicity_of n k w) n 0) c.args.counts.now) _ r a.1);
    }
