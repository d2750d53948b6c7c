-- `binding::inner::System::take_row` meets its contract. The invariant: the words of the row before k have taken their columns. Assumes nothing.
use mathlib.Core.Path.{◌≡◌, subst}
use Prim.Native.Nat.{ℕ, ◌+◌, ◌<◌}
use native.Mathlib.Omega.{arith}
use lib.ListN.{length, get_or}
use Rattle.mask.specs.Mask.{words_needed}
use Rattle.mask.proofs.Masks.{is-length}
use Rattle.side.proofs.AtRow.{at_up, at_words, at-masks}
use Rattle.side.proofs.Words.{inside-word}
use Rattle.binding.proofs.Seen.{Taking, take_start, take_turn}
use Rattle.binding.proofs.inner.System.take_row.Goals.{After-loop-k, In-loop-k}
use Rattle.binding.proofs.inner.System.take_row.Goals as goal

-- word k is stored, and stands at a word of the mask
in-masks : (c : In-loop-k) → c.loop-k.k < length c.args.self.local.rows.masks.now
in-masks c = omega (arith, at-masks _ _ _ _ _ c.args.self.local.square c.args.r c.requires.0)

in-mask : (c : In-loop-k) → get_or c.args.self.local.rows.word_indices.now c.loop-k.k 0 < words_needed c.args.self.local.region.len
in-mask c =
    let k = c.loop-k.k in
    let h = in-masks c in
    inside-word _ _ _ (c.args.self.local.square.fits k h) (c.args.self.local.square.inside k h) (c.args.self.local.square.used k h)

pub loop-k-init : goal.loop-k-init
loop-k-init c =
    let r = c.args.r in
    let up = at_up _ _ _ _ _ c.args.self.local.square r c.requires.0 in
    take_start c.args.self.local.region.len c.args.self.local.rows.word_indices.now c.args.self.local.rows.masks.now c.args.self.local.region.words.now c.args.seen.now _ c.requires.1
    (omega (arith, up, at_words _ _ _ _ _ c.args.self.local.square r c.requires.0)) (omega (arith, up, at-masks _ _ _ _ _ c.args.self.local.square r c.requires.0))

pub bounds-self-k : goal.bounds-self-k
bounds-self-k c = omega (arith, at_words _ _ _ _ _ c.args.self.local.square c.args.r c.requires.0)

pub bounds-self-k-in-loop-k : goal.bounds-self-k-in-loop-k
bounds-self-k-in-loop-k c = in-masks (goal.at.bounds-self-k-in-loop-k c).In-loop-k

pub bounds-seen-w : goal.bounds-seen-w
bounds-seen-w c = omega (arith, in-mask (goal.at.bounds-seen-w c).In-loop-k, is-length _ _ c.requires.1)

pub bounds-self-w : goal.bounds-self-w
bounds-self-w c = omega (arith, in-mask (goal.at.bounds-self-w c).In-loop-k, is-length _ _ c.args.self.local.region.accepted)

pub bounds-seen-w-in-loop-k : goal.bounds-seen-w-in-loop-k
bounds-seen-w-in-loop-k c = omega (arith, in-mask (goal.at.bounds-seen-w-in-loop-k c).In-loop-k, is-length _ _ c.requires.1)

pub loop-k-preserved : goal.loop-k-preserved
loop-k-preserved c =
    let l = c.loop-k in
    let h = in-masks (goal.at.loop-k-preserved c).In-loop-k in
    take_turn c.args.self.local.region.len c.args.self.local.rows.word_indices.now c.args.self.local.rows.masks.now c.args.self.local.region.words.now c.args.seen.now _ l.k l.auto.k (omega (arith, h, c.args.self.local.square.shape.as_many)) h
    (λ i j a b d. c.args.self.local.square.rising c.args.r c.requires.0 i j a b (omega (arith, c.loop-k-test.true))) (c.args.self.local.square.fits l.k h) (in-mask (goal.at.loop-k-preserved c).In-loop-k) c.args.self.local.region.accepted l.seen l.missing l.invariant

-- all words have taken their columns
whole : (c : After-loop-k) → Taking c.args.self.local.region.len c.args.self.local.rows.word_indices.now c.args.self.local.rows.masks.now c.args.self.local.region.words.now c.args.seen.now (get_or c.args.self.local.rows.row_word_ptr.now c.args.r 0) (get_or c.args.self.local.rows.row_word_ptr.now (c.args.r + 1) 0) c.loop-k.seen c.loop-k.missing
whole c =
    let up = at_up _ _ _ _ _ c.args.self.local.square c.args.r c.requires.0 in
    let end : c.loop-k.k ≡ get_or c.args.self.local.rows.row_word_ptr.now (c.args.r + 1) 0 = grind (arith, up) in
    subst (λ (k : ℕ). Taking c.args.self.local.region.len c.args.self.local.rows.word_indices.now c.args.self.local.rows.masks.now c.args.self.local.region.words.now c.args.seen.now (get_or c.args.self.local.rows.row_word_ptr.now c.args.r 0) k c.loop-k.seen c.loop-k.missing) end c.loop-k.invariant

pub returns : goal.returns
returns c = let w = whole (goal.at.returns c).After-loop-k in record { value = w.found; seen_after = w.left }
