-- `pattern::inner::Ranked::write_row` meets its contract. The invariant: the columns of the words from k on are still to come. Assumes nothing.
use mathlib.Core.Path.{◌≡◌, sym, ap, ◌∙◌}
use mathlib.Core.List.{List, map, ◌++◌}
use Prim.Native.Nat.{ℕ, ◌+◌, ◌-◌, ◌*◌, ◌≤◌, ◌<◌}
use native.Mathlib.Omega.{arith}
use lib.ListN.{length, get_or, length-map}
use Rattle.base.specs.Lists.{join_below, placed}
use Rattle.base.specs.Sets.{count_below}
use Rattle.base.proofs.Joins.{join-none}
use Rattle.base.proofs.Sets.{count-le, count-members}
use Rattle.word.specs.Bits.{bit_at, set_bits}
use Rattle.mask.specs.Mask.{in_mask}
use Rattle.mask.proofs.Masks.{is-length}
use Rattle.side.specs.Side.{side_holds}
use Rattle.pattern.specs.Pattern.{columns_of, inside}
use Rattle.pattern.proofs.Coming.{coming_none, coming_room, coming_part}
use Rattle.pattern.proofs.Rows.{kept_word, numbers_of, numbers_at, numbers_turn, row_place, row-numbers}
use Rattle.pattern.proofs.inner.Ranked.write_row.Goals.{In-loop-k}
use Rattle.pattern.proofs.inner.Ranked.write_row.Goals as goal

module _ (c : In-loop-k) where
  abbrev ptr : List ℕ
  ptr = c.args.self.local.rows.row_word_ptr.now

  abbrev idx : List ℕ
  idx = c.args.self.local.rows.word_indices.now

  abbrev masks : List ℕ
  masks = c.args.self.local.rows.masks.now

  abbrev region : List ℕ
  region = c.args.self.local.region.words.now

  abbrev k : ℕ
  k = c.loop-k.k

  -- word k is stored, and stands at a word of the region
  place : (k < length masks) × (k < length idx) × (get_or idx k 0 < length region)
  place = row_place _ _ _ _ _ c.args.self.local.square c.args.self.local.region.accepted c.args.r c.requires.0 k (omega arith)

  -- the table says how many members come before it
  before : get_or c.args.self.ranks.now (get_or idx k 0) 0 ≡ count_below (64 * get_or idx k 0) (in_mask region)
  before = c.args.self.counted _ (omega (arith, place.2, is-length _ _ c.args.self.local.region.accepted))

  -- the columns that it gives, and how many
  turn : join_below (get_or ptr (c.args.r + 1) 0 - k) (numbers_at idx masks region k)
      ≡ numbers_of idx masks region k ++ join_below (get_or ptr (c.args.r + 1) 0 - (k + 1)) (numbers_at idx masks region (k + 1))
  turn = numbers_turn idx masks region k (get_or ptr (c.args.r + 1) 0) (omega arith)

  many : length (numbers_of idx masks region k) ≡ count_below 64 (bit_at (kept_word idx masks region k))
  many = length-map (set_bits (kept_word idx masks region k)) _ ∙ count-members 64 (bit_at (kept_word idx masks region k))

  -- for which the list has room
  room : c.loop-k.next + length (numbers_of idx masks region k) ≤ length c.loop-k.cols
  room = coming_room c.loop-k.invariant _ _ turn (omega arith)

pub loop-k-init : goal.loop-k-init
loop-k-init c =
    let e = row-numbers _ _ _ _ _ c.args.self.local.square c.args.self.local.region.accepted c.args.r c.requires.0 in
    record {
      ends = ap (λ (k : ℕ). c.args.at + k) (ap length (sym e) ∙ length-map (columns_of c.args.self.local.region.len (in_mask c.args.self.local.region.words.now) (side_holds c.args.self.local.rows.row_word_ptr.now c.args.self.local.rows.word_indices.now c.args.self.local.rows.masks.now) c.args.r) _ ∙ count-members c.args.self.local.region.len (inside (in_mask c.args.self.local.region.words.now) (side_holds c.args.self.local.rows.row_word_ptr.now c.args.self.local.rows.word_indices.now c.args.self.local.rows.masks.now) c.args.r));
      makes = ap (λ (X : List ℕ). placed c.args.at X c.args.cols.now) (sym e);
    }

pub bounds-rows-k : goal.bounds-rows-k
bounds-rows-k c = (place (goal.at.bounds-rows-k c).In-loop-k).1

pub bounds-self-w : goal.bounds-self-w
bounds-self-w c = (place (goal.at.bounds-self-w c).In-loop-k).2

pub bounds-self-w-in-loop-k : goal.bounds-self-w-in-loop-k
bounds-self-w-in-loop-k c = omega (arith, (place (goal.at.bounds-self-w-in-loop-k c).In-loop-k).2, is-length _ _ c.args.self.local.region.accepted)

pub bounds-rows-k-in-loop-k : goal.bounds-rows-k-in-loop-k
bounds-rows-k-in-loop-k c = (place (goal.at.bounds-rows-k-in-loop-k c).In-loop-k).0

pub write_word-next-requires : goal.write_word-next-requires
write_word-next-requires c =
    let s = (goal.at.write_word-next-requires c).In-loop-k in (
      omega (arith, room s, many s),
      omega (arith, before s, count-le (64 * get_or (idx s) (k s) 0) (in_mask (region s)), (place s).2, is-length _ _ c.args.self.local.region.accepted, c.args.self.local.region.accepted.short),
    )

pub loop-k-preserved : goal.loop-k-preserved
loop-k-preserved c =
    let s = (goal.at.loop-k-preserved c).In-loop-k in
    let inside : ℕ = get_or (region s) (get_or (idx s) (k s) 0) 0 in
    coming_part c.loop-k.invariant _ _ (turn s) (omega arith) _ _
    (c.write_word-next.ensures.value ∙ ap (λ (n : ℕ). c.loop-k.next + n) (sym (many s)))
    (c.write_word-next.ensures.cols_after ∙ ap (λ (x : ℕ). placed c.loop-k.next (map (λ (b : ℕ). x + count_below b (bit_at inside)) (set_bits (kept_word (idx s) (masks s) (region s) (k s)))) c.loop-k.cols) (before s))

pub returns : goal.returns
returns c =
    let k = c.loop-k.k in
    let none : get_or c.args.self.local.rows.row_word_ptr.now (c.args.r + 1) 0 - k ≡ 0 = omega arith in
    let done = coming_none c.loop-k.invariant (ap (λ (m : ℕ). join_below m (numbers_at c.args.self.local.rows.word_indices.now c.args.self.local.rows.masks.now c.args.self.local.region.words.now k)) none ∙ join-none _) in record {
      value = done.0;
      cols_after = done.1;
    }
