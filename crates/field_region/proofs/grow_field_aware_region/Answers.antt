-- `field_region::grow_field_aware_region` meets its contract. Assumes nothing.
use Rattle.std.proofs.Common.{◌≡◌, sym, ap, ap₂, ◌∙◌, List, ℕ, length, replicate}
use Rattle.std.specs.Prelude.{Ok, Err}
use Rattle.base.specs.Lists.{over}
use Rattle.base.proofs.Checks.{handed, group-pass, group-stop, on-accepted, on-refused, kept}
use Rattle.mask.specs.Mask.{words_needed, length_check}
use Rattle.dof_layout.specs.Layout.{total_of}
use Rattle.dof_layout.specs.Views.{check_square, total}
use Rattle.graph.specs.Network.{Network, field_network, region_words, frontier_words}
use Rattle.growth.specs.Lent.{masks_room}
use Rattle.growth.proofs.Lent.{pairs-same}
use Rattle.field_region.specs.Growth.{field_grow_check, field_stats}
use Rattle.field_region.proofs.grow_field_aware_region.Goals.{In_ok-topology, In_ok-layout, In_ok-seeds}
use Rattle.field_region.proofs.grow_field_aware_region.Goals as goal

-- what the layout must fit is as the lent topology says
squared : (c : In_ok-topology) → check_square c.args.layout c.in_ok-topology.topology.rows.nrows c.in_ok-topology.topology.rows.ncols ≡ check_square c.args.layout c.args.topology.rows.nrows c.args.topology.rows.ncols
squared c = let a = c.in_ok-topology.ensures.accepted.2 in ap₂ (check_square c.args.layout) a.0.0 a.0.1

-- the layout's total, of its blocks as they are lent and as they are accepted
sized : (c : In_ok-layout) → c.in_ok-topology.topology.rows.nrows ≡ total c.args.layout
sized c = c.in_ok-layout.ensures.accepted.1

fits : (c : In_ok-layout) → c.in_ok-topology.topology.rows.nrows ≡ total_of c.in_ok-layout.layout.components.now
fits c = sized c ∙ sym (ap (λ x. total_of x.now) c.in_ok-layout.ensures.accepted.3.0)

pub returns-in_err-topology-clause-value : goal.returns-in_err-topology-clause-value
unfolding field_grow_check
returns-in_err-topology-clause-value c = handed _ _ c.from_residual.ensures.1 ∙ on-refused _ _ _ Err (sym (group-stop _ _ _ c.in_err-topology.ensures.refused))

pub returns-in_err-layout : goal.returns-in_err-layout
unfolding field_grow_check
returns-in_err-layout c =
    let s = sym (squared (goal.at.returns-in_err-layout c).In_ok-topology) ∙ c.in_err-layout.ensures.refused in
    let e = sym (group-pass _ _ _ c.in_ok-topology.ensures.accepted.0 (group-stop _ _ _ s)) in record {
      value = handed _ _ c.from_residual-in_err-layout.ensures.1 ∙ on-refused _ _ _ Err e;
      inside = kept _ _ _ _ e;
      edge = kept _ _ _ _ e;
      spent = kept _ _ _ _ e;
    }

-- the layout passes 18
square : (c : In_ok-layout) → check_square c.args.layout c.args.topology.rows.nrows c.args.topology.rows.ncols ≡ Ok tt
square c = sym (squared (goal.at.In_ok-layout c).In_ok-topology) ∙ c.in_ok-layout.ensures.accepted.0

pub accept_of-requires : goal.accept_of-requires
accept_of-requires c = rw (sym (fits (goal.at.accept_of-requires c).In_ok-layout)) at c.in_ok-layout.layout.few

pub returns-in_err-seeds : goal.returns-in_err-seeds
unfolding field_grow_check
returns-in_err-seeds c =
    let at = goal.at.returns-in_err-seeds c in
    let r = ap (λ n. length_check n c.args.mask.len c.args.mask.words.now) (sym (sized at.In_ok-layout)) ∙ c.in_err-seeds.ensures.refused in
    let e = sym (group-pass _ _ _ c.in_ok-topology.ensures.accepted.0 (group-pass _ _ _ (square at.In_ok-layout) (group-stop _ _ _ r))) in record {
      value = handed _ _ c.from_residual-in_err-seeds.ensures.1 ∙ on-refused _ _ _ Err e;
      inside = kept _ _ _ _ e;
      edge = kept _ _ _ _ e;
      spent = kept _ _ _ _ e;
    }

-- the mask is one of the layout's nodes
masked : (c : In_ok-seeds) → length_check (total c.args.layout) c.args.mask.len c.args.mask.words.now ≡ Ok tt
masked c = ap (λ n. length_check n c.args.mask.len c.args.mask.words.now) (sym (sized (goal.at.In_ok-seeds c).In_ok-layout)) ∙ c.in_ok-seeds.ensures.accepted.0

pub returns-in_err-check_room : goal.returns-in_err-check_room
unfolding field_grow_check
returns-in_err-check_room c =
    let at = goal.at.returns-in_err-check_room c in
    let r = ap (λ n. masks_room n (length c.args.region.now) (length c.args.frontier.now) (length c.args.scratch.now)) (sym (sized at.In_ok-layout)) ∙ sym c.check_room.ensures.value ∙ c.in_err-check_room.was in
    let e = sym (group-pass _ _ _ c.in_ok-topology.ensures.accepted.0 (group-pass _ _ _ (square at.In_ok-layout) (group-pass _ _ _ (masked at.In_ok-seeds) (sym r)))) in record {
      value = handed _ _ c.from_residual-in_err-check_room.ensures.1 ∙ on-refused _ _ _ Err e;
      inside = kept _ _ _ _ e;
      edge = kept _ _ _ _ e;
      spent = kept _ _ _ _ e;
    }

pub invariant_of-graph : goal.invariant_of-graph
invariant_of-graph c = record { square = rw (c.in_ok-layout.ensures.accepted.2 ∙ sym c.in_ok-layout.ensures.accepted.1) at c.in_ok-topology.topology.accepted }

pub invariant_of-grow : goal.invariant_of-grow
invariant_of-grow c = record { sized = fits (goal.at.invariant_of-grow c).In_ok-layout }

pub grow-requires : goal.grow-requires
grow-requires c =
    let a = c.in_ok-seeds.ensures.accepted in
    let room = c.in_ok-check_room.ensures.accepted in
    (a.2.0 ∙ a.1, room.0, room.1, room.2)

pub returns : goal.returns
unfolding field_grow_check
returns c =
    let at = goal.at.returns c in
    let h = c.args.hops in
    let l = ap (λ x. x.now) c.in_ok-layout.ensures.accepted.3.0 in
    let g = ap₂ field_network l (pairs-same c.args.topology c.in_ok-topology.topology c.in_ok-topology.ensures.accepted.2) in
    let w = ap (λ x. x.now) c.in_ok-seeds.ensures.accepted.2.1 in
    let r = ap (λ n. masks_room n (length c.args.region.now) (length c.args.frontier.now) (length c.args.scratch.now)) (sym (sized at.In_ok-layout)) ∙ sym c.check_room.ensures.value ∙ c.in_ok-check_room.was in
    let e = sym (group-pass _ _ _ c.in_ok-topology.ensures.accepted.0 (group-pass _ _ _ (square at.In_ok-layout) (group-pass _ _ _ (masked at.In_ok-seeds) (sym r)))) in record {
      value = on-accepted _ _ _ _ e (ap Ok (c.grow.ensures.value ∙ ap₂ (λ (x : Network) (y : List ℕ). field_stats x y h) g w));
      inside = on-accepted _ _ _ _ e (c.grow.ensures.inside ∙ ap₂ (λ (x : Network) (y : List ℕ). over (region_words x y h) c.args.region.now) g w);
      edge = on-accepted _ _ _ _ e (c.grow.ensures.edge ∙ ap₂ (λ (x : Network) (y : List ℕ). over (frontier_words x y h) c.args.frontier.now) g w);
      spent = on-accepted _ _ _ _ e (c.grow.ensures.spent ∙ ap (λ (x : List ℕ). over (replicate (words_needed (total_of x)) 0) c.args.scratch.now) l);
    }
