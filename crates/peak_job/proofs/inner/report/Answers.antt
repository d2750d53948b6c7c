-- `peak_job::inner::report` meets its contract. Assumes nothing.
use mathlib.Core.Path.{◌≡◌, sym, ap, ◌∙◌}
use mathlib.Core.List.{List}
use Prim.Native.Nat.{ℕ, ◌≤◌}
use native.Mathlib.Omega.{arith}
use lib.ListN.{take, length-replicate}
use lib.Seq.{length-take-le}
use Rattle.base.specs.Sets.{members_below}
use Rattle.base.proofs.Lists.{over-own}
use Rattle.base.proofs.Sets.{count-le, count-members}
use Rattle.mask.specs.Mask.{in_mask}
use Rattle.job_text.specs.Answer.{result_lines, text_answer, text_left}
use Rattle.peak_job.proofs.inner.report.Goals.{After-write_nodes-reached}
use Rattle.peak_job.proofs.inner.report.Goals as goal

pub write_nodes-reached-requires : goal.write_nodes-reached-requires
write_nodes-reached-requires c = omega (arith, c.requires.0, count-le c.args.frontier.len (in_mask c.args.frontier.words.now), length-replicate {A = ℕ} 256 0)

-- how many there are is at most the size
few : (c : After-write_nodes-reached) → c.write_nodes-reached.result ≤ 256
few c = omega (arith, c.write_nodes-reached.ensures.value, count-le c.args.frontier.len (in_mask c.args.frontier.words.now), c.requires.0)

pub slice_bounds-edge-end : goal.slice_bounds-edge-end
slice_bounds-edge-end c = omega (arith, few (goal.at.slice_bounds-edge-end c).After-write_nodes-reached, length-replicate {A = ℕ} 256 0, c.write_nodes-reached.auto.nodes)

pub slice_bounds-write-end : goal.slice_bounds-write-end
slice_bounds-write-end c =
    sym (length-take-le _ _ (omega (arith, few (goal.at.slice_bounds-write-end c).After-write_nodes-reached, length-replicate {A = ℕ} 256 0, c.write_nodes-reached.auto.nodes)))

-- the front of the array is the frontier's members
listed : (c : After-write_nodes-reached) → take c.write_nodes-reached.result c.write_nodes-reached.new.nodes ≡ members_below c.args.frontier.len (in_mask c.args.frontier.words.now)
listed c =
    let n = c.args.frontier.len in
    let p = in_mask c.args.frontier.words.now in
    let w = c.write_nodes-reached in
    ap (take w.result) w.ensures.nodes_after ∙ over-own (members_below n p) _ w.result (count-members n p ∙ sym w.ensures.value)

pub returns : goal.returns
returns c =
    let same = listed (goal.at.returns c).After-write_nodes-reached in
    let text : List ℕ → List ℕ = λ x. result_lines c.args.region.now x c.args.completed c.args.ptr.now c.args.cols.now in record {
      value = c.write.ensures.value ∙ ap (λ (x : List ℕ). text_answer (text x) c.args.out.now) same;
      out_after = c.write.ensures.out_after ∙ ap (λ (x : List ℕ). text_left (text x) c.args.out.now) same;
    }
