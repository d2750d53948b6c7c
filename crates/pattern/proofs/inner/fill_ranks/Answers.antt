-- `pattern::inner::fill_ranks` meets its contract. The invariant: the words before w are written, and their members counted. Assumes nothing.
use mathlib.Core.Path.{◌≡◌, refl, sym, ap, ◌∙◌}
use Prim.Native.Nat.{ℕ, ◌+◌, ◌*◌, ◌≤◌}
use native.Mathlib.Omega.{arith}
use native.Mathlib.Nat.{zero-add}
use lib.Count.{ones, ones-le}
use lib.ListN.{get_or}
use Rattle.base.specs.Sets.{count_below}
use Rattle.base.proofs.Lists.{put_next, put-end, length-list_from, get_or-list_from}
use Rattle.base.proofs.Sets.{sum-zero, count-le}
use Rattle.mask.specs.Mask.{in_mask, words_needed}
use Rattle.mask.proofs.Masks.{in-word, is-length, is-fits}
use Rattle.word.proofs.Turns.{count_turn}
use Rattle.pattern.specs.Steps.{ranks_of}
use Rattle.pattern.proofs.inner.fill_ranks.Goals.{else-bits-ne0, then-bits-ne0}
use Rattle.pattern.proofs.inner.fill_ranks.Goals as goal

pub loop-w-init : goal.loop-w-init
loop-w-init c = (sym (sum-zero _), refl)

pub bounds-ranks-w : goal.bounds-ranks-w
bounds-ranks-w c = omega (arith, is-length _ _ c.args.region.accepted)

pub overflow_add-before : goal.overflow_add-before
overflow_add-before c =
    omega (arith, ones-le 64 _ (is-fits _ _ c.args.region.accepted c.loop-w.w (omega arith)), count-le (64 * c.loop-w.w) (in_mask c.args.region.words.now), is-length _ _ c.args.region.accepted, c.args.region.accepted.short)

pub loop-w-preserved : goal.loop-w-preserved
loop-w-preserved c =
    let l = c.loop-w in
    let p = in_mask c.args.region.words.now in
    let word = get_or c.args.region.words.now l.w 0 in
    let n = c.args.region.len in
    let f : ℕ → ℕ = λ w. count_below (64 * w) p in
    let fits = is-fits _ _ c.args.region.accepted l.w (omega arith) in
    let none : word ≡ 0 → ones word ≡ 0 = λ z. let few : ones word ≤ 0 = ones-le 0 word (omega (arith, z)) in omega arith in
    let counted : c.if-bits-ne0.before ≡ l.before + ones word = elim c.if-bits-ne0.branch [ then-bits-ne0 w ↦ w.before-is | else-bits-ne0 w ↦ omega (arith, w.before-is, none w.if-bits-ne0.false) ] in (
      counted ∙ ap (λ (t : ℕ). t + ones word) l.invariant.0 ∙ count_turn p l.w word (λ j m. in-word c.args.region.words.now l.w j m) fits,
      put_next (ranks_of n p) c.args.ranks.now l.ranks l.w l.before 0 (omega (arith, length-list_from f (words_needed n) 0, is-length _ _ c.args.region.accepted)) (omega (arith, is-length _ _ c.args.region.accepted)) l.invariant.1
          (l.invariant.0 ∙ ap f (sym (zero-add l.w)) ∙ sym (get_or-list_from f (words_needed n) 0 l.w 0 (omega (arith, is-length _ _ c.args.region.accepted)))),
    )

pub returns : goal.returns
returns c =
    put-end (ranks_of c.args.region.len (in_mask c.args.region.words.now)) c.args.ranks.now c.loop-w.ranks c.loop-w.w
    (omega (arith, length-list_from (λ w. count_below (64 * w) (in_mask c.args.region.words.now)) (words_needed c.args.region.len) 0, is-length _ _ c.args.region.accepted)) c.loop-w.invariant.1
