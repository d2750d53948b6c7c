-- What the calls on word k answer, of its mask.
use Rattle.std.proofs.Common.{◌≡◌, sym, ap, ◌∙◌, ◌+◌, ◌^◌, ◌<◌, ℕ, arith, get_or}
use Rattle.std.specs.Prelude.{Some}
use Rattle.base.specs.Sets.{count_below}
use Rattle.word.specs.Bits.{bit_at}
use Rattle.word.specs.Answers.{select_answer}
use Rattle.side.specs.Row.{Row}
use Rattle.side.specs.Side.{row_holds}
use Rattle.side.proofs.Holding.{own_row, row_inside}
use Rattle.side.proofs.Sides.{bits_none, bits-next}
use Rattle.side.proofs.Ranks.{off_small, select_in, select_has, select-past}
use Rattle.side.proofs.inner.select.Goals.{Start, Then-left-count, In_ok-offset}
use Rattle.side.proofs.inner.select.Goals as goal

row : (c : Start) → ((k : ℕ) → get_or c.args.masks.now k 0 < 2 ^ 64) → Row (row_holds c.args.word_indices.now c.args.masks.now c.args.from c.args.to) c.args.word_indices.now c.args.masks.now c.args.from c.args.to
row c fits = own_row _ _ _ _ c.requires.0 c.requires.1 c.requires.2 c.requires.3.rising c.requires.3.used (λ k a b. fits k)

few : (c : Then-left-count) → c.loop-k.left < count_below 64 (bit_at (get_or c.args.masks.now c.loop-k.k 0))
few c = omega (arith, rw c.new-word.ensures at c.popcount-count.ensures)

at : (c : In_ok-offset) → select_answer (get_or c.args.masks.now c.loop-k.k 0) c.loop-k.left ≡ Some c.in_ok-offset.offset
at c = sym (rw c.new-word.ensures at c.select.ensures) ∙ c.in_ok-offset.was

pub loop-k-init : goal.loop-k-init
loop-k-init c = omega (arith, bits_none c.args.masks.now c.args.from)

pub overflow_add-result : goal.overflow_add-result
overflow_add-result c =
    let w = goal.at.overflow_add-result c in
    omega (arith, off_small _ _ _ (few w.Then-left-count) (at w.In_ok-offset), rw c.new-word.ensures at c.base_col.ensures)

pub returns-then-left-count : goal.returns-then-left-count
returns-then-left-count c =
    let w = goal.at.returns-then-left-count c in
    let q = c.requires in
    ap (λ (n : ℕ). Some (n + c.in_ok-offset.offset)) (rw c.new-word.ensures at c.base_col.ensures)
    ∙ select_in _ _ _ _ _ (row w.Start (λ k. (c.type_inv.masks k).fits)) q.1 q.2 _ _ _ _ _ (row_inside _ _ _ _ q.0 q.1 q.2 q.3.rising _ q.4) (omega arith) c.loop-k-test.true c.loop-k.invariant (few w.Then-left-count) (at w.In_ok-offset)

pub returns-in_err-offset : goal.returns-in_err-offset
returns-in_err-offset c =
    absurd (select_has _ _ (few (goal.at.returns-in_err-offset c).Then-left-count) (sym (rw c.new-word.ensures at c.select.ensures) ∙ c.in_err-offset.was))

pub loop-k-preserved : goal.loop-k-preserved
loop-k-preserved c = omega (arith, c.if-left-count.false, c.loop-k.invariant, rw c.new-word.ensures at c.popcount-count.ensures, bits-next c.args.masks.now c.args.from c.loop-k.k (omega arith))

pub returns : goal.returns
returns c =
    let q = c.requires in
    let e : c.loop-k.k ≡ c.args.to = omega arith in
    select-past _ _ _ _ _ (row (goal.at.returns c).Start (λ k. (c.type_inv.masks k).fits)) q.1 q.2 _ _ _ q.0 (row_inside _ _ _ _ q.0 q.1 q.2 q.3.rising _ q.4) (rw e at c.loop-k.invariant)
