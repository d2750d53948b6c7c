-- `job_text::inner::JobResult::write_lines` meets its contract. Assumes nothing.
use Rattle.std.proofs.Common.{◌≡◌, ℕ, List, ◌++◌, length, ap, ◌∙◌, arith, rules, length-append}
use Rattle.base.specs.Lists.{over}
use Rattle.job_text.specs.Answer.{result_lines}
use Rattle.job_text.proofs.Lines as lines
use Rattle.job_text.proofs.inner.JobResult.write_lines.Goals as goal

pub returns : goal.returns
returns c =
    let r = c.args.self in
    let o = c.args.out.now in
    let L1 = lines.line1 r.region.now r.frontier.now r.completed r.ptr.now r.cols.now in
    let L2 = lines.line2 r.region.now r.frontier.now r.completed r.ptr.now r.cols.now in
    let L3 = lines.line3 r.region.now r.frontier.now r.completed r.ptr.now r.cols.now in
    let L4 = lines.line4 r.region.now r.frontier.now r.completed r.ptr.now r.cols.now in
    let L5 = lines.line5 r.region.now r.frontier.now r.completed r.ptr.now r.cols.now in
    let a = c.put_line in
    let b = c.put_line-2 in
    let d = c.put_line-3 in
    let e = c.put_line-4 in
    let f = c.put_line-5 in
    let m1 : a.new.out.bytes.now ≡ over L1 o = a.ensures.bytes ∙ lines.placed-front L1 o in
    let n1 : a.new.out.len ≡ length L1 = omega (arith, a.ensures.len) in
    let m2 : b.new.out.bytes.now ≡ over (L1 ++ L2) o = lines.placed-behind L1 L2 o _ _ _ m1 n1 b.ensures.bytes in
    let n2 : b.new.out.len ≡ length (L1 ++ L2) = omega (arith, n1, b.ensures.len, length-append L1 L2) in
    let m3 : d.new.out.bytes.now ≡ over (L1 ++ L2 ++ L3) o = lines.placed-behind (L1 ++ L2) L3 o _ _ _ m2 n2 d.ensures.bytes in
    let n3 : d.new.out.len ≡ length (L1 ++ L2 ++ L3) = omega (arith, n2, d.ensures.len, length-append (L1 ++ L2) L3) in
    let m4 : e.new.out.bytes.now ≡ over (L1 ++ L2 ++ L3 ++ L4) o = lines.placed-behind (L1 ++ L2 ++ L3) L4 o _ _ _ m3 n3 e.ensures.bytes in
    let n4 : e.new.out.len ≡ length (L1 ++ L2 ++ L3 ++ L4) = omega (arith, n3, e.ensures.len, length-append (L1 ++ L2 ++ L3) L4) in
    let same = f.ensures.same_reference ∙ e.ensures.same_reference ∙ d.ensures.same_reference ∙ b.ensures.same_reference ∙ a.ensures.same_reference in
    let all : f.new.out.bytes.now ≡ over (result_lines r.region.now r.frontier.now r.completed r.ptr.now r.cols.now) o =
    lines.placed-behind (L1 ++ L2 ++ L3 ++ L4) L5 o _ _ _ m4 n4 f.ensures.bytes ∙ ap (λ (x : List ℕ). over x o) (lines.lines_are r.region.now r.frontier.now r.completed r.ptr.now r.cols.now) in
    search (rules, same) ∙ all
