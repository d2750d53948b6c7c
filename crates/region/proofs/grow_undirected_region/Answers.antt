-- `region::grow_undirected_region` meets its contract. Assumes nothing.
use Rattle.std.proofs.Common.{◌≡◌, sym, ap, ap₂, ◌∙◌, List, ℕ, length, replicate}
use Rattle.std.specs.Prelude.{Ok, Err}
use Rattle.base.specs.Lists.{over}
use Rattle.base.proofs.Checks.{handed, group-pass, group-stop, on-accepted, on-refused, kept}
use Rattle.mask.specs.Mask.{words_needed, length_check}
use Rattle.side.specs.Views.{pairs}
use Rattle.graph.specs.Network.{Network, plain_network, region_words, frontier_words}
use Rattle.growth.specs.Lent.{masks_room}
use Rattle.growth.proofs.Lent.{pairs-same}
use Rattle.region.specs.Growth.{grow_check, stats_of_growth}
use Rattle.region.specs.Views.{plain}
use Rattle.region.proofs.grow_undirected_region.Goals.{In_ok-graph, In_ok-seeds}
use Rattle.region.proofs.grow_undirected_region.Goals as goal

-- the accepted graph has the nodes and links of the topology that is lent, and the seeds are the mask's nodes
links : (c : In_ok-graph) → plain_network c.in_ok-graph.graph.n (pairs c.in_ok-graph.graph.topology.rows) ≡ plain c.args.topology
links c = ap₂ plain_network c.in_ok-graph.ensures.accepted.1 (pairs-same c.args.topology c.in_ok-graph.graph.topology c.in_ok-graph.ensures.accepted.2)

pub returns-in_err-graph-clause-value : goal.returns-in_err-graph-clause-value
unfolding grow_check
returns-in_err-graph-clause-value c = handed _ _ c.from_residual.ensures.1 ∙ on-refused _ _ _ Err (sym (group-stop _ _ _ c.in_err-graph.ensures.refused))

pub accept_of-requires : goal.accept_of-requires
accept_of-requires c = c.in_ok-graph.graph.square.rows.few_cols

pub returns-in_err-seeds : goal.returns-in_err-seeds
unfolding grow_check
returns-in_err-seeds c =
    let a = c.in_ok-graph.ensures.accepted in
    let r = ap (λ n. length_check n c.args.mask.len c.args.mask.words.now) (sym a.1) ∙ c.in_err-seeds.ensures.refused in
    let e = sym (group-pass _ _ _ a.0 (group-stop _ _ _ r)) in record {
      value = handed _ _ c.from_residual-in_err-seeds.ensures.1 ∙ on-refused _ _ _ Err e;
      inside = kept _ _ _ _ e;
      edge = kept _ _ _ _ e;
      spent = kept _ _ _ _ e;
    }

-- the mask is one of the topology's nodes
masked : (c : In_ok-seeds) → length_check c.args.topology.rows.nrows c.args.mask.len c.args.mask.words.now ≡ Ok tt
masked c = ap (λ n. length_check n c.args.mask.len c.args.mask.words.now) (sym c.in_ok-graph.ensures.accepted.1) ∙ c.in_ok-seeds.ensures.accepted.0

pub returns-in_err-check_room : goal.returns-in_err-check_room
unfolding grow_check
returns-in_err-check_room c =
    let a = c.in_ok-graph.ensures.accepted in
    let r = ap (λ n. masks_room n (length c.args.region.now) (length c.args.frontier.now) (length c.args.scratch.now)) (sym a.1) ∙ sym c.check_room.ensures.value ∙ c.in_err-check_room.was in
    let e = sym (group-pass _ _ _ a.0 (group-pass _ _ _ (masked (goal.at.returns-in_err-check_room c).In_ok-seeds) (sym r))) in record {
      value = handed _ _ c.from_residual-in_err-check_room.ensures.1 ∙ on-refused _ _ _ Err e;
      inside = kept _ _ _ _ e;
      edge = kept _ _ _ _ e;
      spent = kept _ _ _ _ e;
    }

pub grow-requires : goal.grow-requires
grow-requires c =
    let a = c.in_ok-seeds.ensures.accepted in
    let room = c.in_ok-check_room.ensures.accepted in
    (a.2.0 ∙ a.1, room.0, room.1, room.2)

pub returns : goal.returns
unfolding grow_check
returns c =
    let a = c.in_ok-graph.ensures.accepted in
    let h = c.args.hops in
    let g = links (goal.at.returns c).In_ok-graph in
    let w = ap (λ x. x.now) c.in_ok-seeds.ensures.accepted.2.1 in
    let r = ap (λ n. masks_room n (length c.args.region.now) (length c.args.frontier.now) (length c.args.scratch.now)) (sym a.1) ∙ sym c.check_room.ensures.value ∙ c.in_ok-check_room.was in
    let e = sym (group-pass _ _ _ a.0 (group-pass _ _ _ (masked (goal.at.returns c).In_ok-seeds) (sym r))) in record {
      value = on-accepted _ _ _ _ e (ap Ok (c.grow.ensures.value ∙ ap₂ (λ (x : Network) (y : List ℕ). stats_of_growth x y h) g w));
      inside = on-accepted _ _ _ _ e (c.grow.ensures.inside ∙ ap₂ (λ (x : Network) (y : List ℕ). over (region_words x y h) c.args.region.now) g w);
      edge = on-accepted _ _ _ _ e (c.grow.ensures.edge ∙ ap₂ (λ (x : Network) (y : List ℕ). over (frontier_words x y h) c.args.frontier.now) g w);
      spent = on-accepted _ _ _ _ e (c.grow.ensures.spent ∙ ap (λ (n : ℕ). over (replicate (words_needed n) 0) c.args.scratch.now) a.1);
    }
