use Rattle.std.proofs.Common.{◌≡◌, ◌≤◌, ◌+◌, sym, ◌∙◌, arith, length, get_or}
use Rattle.side.proofs.Sides.{end-le, end-in}
use Rattle.side.proofs.Accepted.{words-sound, words-bad, row-some, row-none}
use Rattle.side.proofs.inner.check_words.Goals as goal

pub slice_bounds-first_bad-end : goal.slice_bounds-first_bad-end
slice_bounds-first_bad-end c = end-in _ _ _ _ c.requires.0 _ (omega (arith, c.loop-r-test.true))

pub slice_bounds-first_bad-end-in-loop-r : goal.slice_bounds-first_bad-end-in-loop-r
slice_bounds-first_bad-end-in-loop-r c = end-le _ _ _ _ c.requires.0 _ (omega (arith, c.loop-r-test.true))

pub overflow_add-result : goal.overflow_add-result
overflow_add-result c =
    let m = c.requires.0 in
    let l = c.loop-r-test.true in
    let u : get_or c.args.row_word_ptr.now (c.loop-r.r + 1) 0 ≤ length c.args.masks.now = end-le _ _ _ _ m _ (omega (arith, l)) in
    omega (arith, (row-some _ c.args.ncols _ _ _ m _ l c.loop-r.invariant u _ (sym c.first_bad.ensures ∙ c.in-Some.is)).0, u, m.few_words)

pub returns-in-Some : goal.returns-in-Some
returns-in-Some c =
    let m = c.requires.0 in
    let l = c.loop-r-test.true in
    let u : get_or c.args.row_word_ptr.now (c.loop-r.r + 1) 0 ≤ length c.args.masks.now = end-le _ _ _ _ m _ (omega (arith, l)) in
    let q = row-some _ _ _ _ _ m _ l c.loop-r.invariant u _ (sym c.first_bad.ensures ∙ c.in-Some.is) in
    words-bad _ _ _ _ _ m _ _ l (omega arith) (omega (arith, q.0)) u q.1 q.2

pub loop-r-preserved : goal.loop-r-preserved
loop-r-preserved c =
    let m = c.requires.0 in
    let l = c.loop-r-test.true in
    row-none _ _ _ _ _ m _ l c.loop-r.invariant (end-le _ _ _ _ m _ (omega (arith, l))) (sym c.first_bad.ensures ∙ c.in_default.is)

pub returns : goal.returns
returns c =
    let n : c.loop-r.r ≡ c.args.nrows = omega arith in
    words-sound _ _ _ _ _ c.requires.0 (rw (n, c.requires.0.ends) at c.loop-r.invariant)
