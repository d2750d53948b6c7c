-- `pattern::inner::Local::count_row` meets its contract. The invariant: the bits of the words before k are counted. Assumes nothing.
use mathlib.Core.Path.{◌≡◌, sym}
use Prim.Native.Nat.{ℕ, ◌+◌, ◌^◌, ◌≤◌, ◌<◌}
use native.Mathlib.Omega.{arith}
use native.Mathlib.Nat.{lt_of_le_of_lt}
use lib.Bits.{and_le_l}
use lib.ListN.{length, get_or}
use Rattle.std.proofs.Common.{rules}
use Rattle.base.specs.Checks.{entry_limit}
use Rattle.word.proofs.Bits.{ones-count}
use Rattle.side.proofs.Sides.{bits_none, bits-next, bits-le}
use Rattle.side.proofs.AtRow.{at_up, at_length, at_count}
use Rattle.pattern.proofs.Rows.{kept_word, kept-none, kept_next, kept-le, row_place, row_kept}
use Rattle.pattern.proofs.inner.Local.count_row.Goals.{In-loop-k}
use Rattle.pattern.proofs.inner.Local.count_row.Goals as goal

module _ (c : In-loop-k) where
  abbrev lo : ℕ
  lo = get_or c.args.self.rows.row_word_ptr.now c.args.r 0

  -- word k is stored, and stands at a word of the region
  place : (c.loop-k.k < length c.args.self.rows.masks.now) × (c.loop-k.k < length c.args.self.rows.word_indices.now) × (get_or c.args.self.rows.word_indices.now c.loop-k.k 0 < length c.args.self.region.words.now)
  place = row_place _ _ _ _ _ c.args.self.square c.args.self.region.accepted c.args.r c.requires c.loop-k.k (omega arith)

  fits : get_or c.args.self.rows.masks.now c.loop-k.k 0 < 2 ^ 64
  fits = c.args.self.square.fits c.loop-k.k place.0

  kept-fits : kept_word c.args.self.rows.word_indices.now c.args.self.rows.masks.now c.args.self.region.words.now c.loop-k.k < 2 ^ 64
  kept-fits = lt_of_le_of_lt (and_le_l (get_or c.args.self.rows.masks.now c.loop-k.k 0) _) fits

  few : c.loop-k.k ≤ entry_limit
  few = omega (arith, place.0, c.args.self.square.shape.few_words)

pub loop-k-init : goal.loop-k-init
loop-k-init c = (sym (bits_none c.args.self.rows.masks.now _), sym (kept-none c.args.self.rows.word_indices.now c.args.self.rows.masks.now c.args.self.region.words.now _))

pub bounds-self-k : goal.bounds-self-k
bounds-self-k c = (place (goal.at.bounds-self-k c).In-loop-k).0

pub bounds-self-k-in-loop-k : goal.bounds-self-k-in-loop-k
bounds-self-k-in-loop-k c = (place (goal.at.bounds-self-k-in-loop-k c).In-loop-k).1

pub bounds-self-self : goal.bounds-self-self
bounds-self-self c = (place (goal.at.bounds-self-self c).In-loop-k).2

pub overflow_add-candidates : goal.overflow_add-candidates
overflow_add-candidates c =
    let s = (goal.at.overflow_add-candidates c).In-loop-k in
    let k = few s in
    let most = bits-le c.args.self.rows.masks.now (lo s) c.loop-k.k in
    search rules

pub overflow_add-kept : goal.overflow_add-kept
overflow_add-kept c =
    let s = (goal.at.overflow_add-kept c).In-loop-k in
    let k = few s in
    let most = kept-le c.args.self.rows.word_indices.now c.args.self.rows.masks.now c.args.self.region.words.now (lo s) c.loop-k.k in
    search rules

pub loop-k-preserved : goal.loop-k-preserved
loop-k-preserved c =
    let s = (goal.at.loop-k-preserved c).In-loop-k in
    let k = c.loop-k.k in
    let word = ones-count 64 (get_or c.args.self.rows.masks.now k 0) (fits s) in
    let kept = ones-count 64 (kept_word c.args.self.rows.word_indices.now c.args.self.rows.masks.now c.args.self.region.words.now k) (kept-fits s) in
    (cc (word, bits-next c.args.self.rows.masks.now (lo s) k (omega arith)), cc (kept, kept_next c.args.self.rows.word_indices.now c.args.self.rows.masks.now c.args.self.region.words.now (lo s) k (omega arith)))

pub returns : goal.returns
returns c =
    let k = c.loop-k.k in
    let up : get_or c.args.self.rows.row_word_ptr.now c.args.r 0 ≤ get_or c.args.self.rows.row_word_ptr.now (c.args.r + 1) 0 = at_up _ _ _ _ _ c.args.self.square c.args.r c.requires in
    let end : k ≡ get_or c.args.self.rows.row_word_ptr.now (c.args.r + 1) 0 = grind (arith, up) in
    cc (
      at_length _ _ _ _ _ c.args.self.square c.args.r c.requires,
      at_count _ _ _ _ _ c.args.self.square c.args.r c.requires,
      row_kept _ _ _ _ _ c.args.self.square c.args.self.region.accepted c.args.r c.requires,
    )
