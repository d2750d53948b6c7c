-- The side of the pairs s, written row by row over the front of three lists. Assumes nothing.
use Rattle.std.proofs.Common.{◌≡◌, sym, ap, ap₂, ◌∙◌, refl, Bool, List, ◌++◌, ℕ, ◌+◌, ◌-◌, ◌*◌, ◌≤◌, ◌<◌, zero-add, arith, length, get_or, set, take, drop, replicate, get_or-take, length-take-le}
use Rattle.std.proofs.Math.Dec.{T}
use Rattle.std.proofs.Math.ListN.{take-append-drop}
use Rattle.std.proofs.lemmas.Grind.{common_steps}
use Rattle.std.proofs.lemmas.List.{ext_get_or}
use borrow.Rule.Slice.PartMut.{put_mid}
use lib.Seq.{slice}
use Rattle.base.specs.Lists.{over, over_with_zeros, zeroed}
use Rattle.base.specs.Sets.{count_below}
use Rattle.base.proofs.Joins.{join-none, join-next}
use Rattle.base.proofs.Lists.{take_on, take_same, drop-same, length-list_from, get_or-list_from, zero-over}
use Rattle.base.proofs.Sets.{sum-zero, sum-suc}
use Rattle.side.specs.Side.{words_of_row, masks_of_row, side_words, side_masks, side_ptr, side_counts, pair_count}
use Rattle.side.specs.Check.{bits_in}
use Rattle.side.specs.Row.{Kept, NewRow}
use Rattle.side.specs.declared.SideCounts.{SideCounts}
use Rattle.side.proofs.Rows.{row_words, row_masks, row_count}
use Rattle.side.proofs.Sides.{bits-le}

-- ---- what is kept

pub kept-none : (l : List ℕ) (from to : ℕ) → Kept l l from to
kept-none l from to = record { long = refl; under = λ k h. refl; past = λ k h. refl }

pub kept_set : (l : List ℕ) (from to at x : ℕ) → from ≤ at → at < to → Kept l (set l at x) from to
kept_set l from to at x h u = record { long = grind (arith, common_steps); under = λ k m. grind (arith, common_steps); past = λ k m. grind (arith, common_steps) }

pub kept_next : {l l' l'' : List ℕ} {from from' to to' : ℕ} → from ≤ from' → to ≤ to' → Kept l l' from to → Kept l' l'' from' to' → Kept l l'' from to'
kept_next h u a b = record {
  long = b.long ∙ a.long;
  under = λ k m. b.under k (omega arith) ∙ a.under k m;
  past = λ k m. b.past k m ∙ a.past k (omega arith);
}

-- a part that is written behind what was there
take-kept : (l l' : List ℕ) (from to : ℕ) → from ≤ to → to ≤ length l → Kept l l' from to → take to l' ≡ take from l ++ slice from to l'
take-kept l l' from to h u k =
    take_on l' from to h ∙ ap (λ (x : List ℕ). x ++ slice from to l') (take_same l l' from (omega arith) (omega (arith, k.long)) k.under)

-- ---- after r rows

-- the words, masks, pointers and pairs of the first r rows, not past limit r; what is past them is as it was
pub record Sofar (ncols : ℕ) (s : ℕ → ℕ → Bool) (limit : ℕ → ℕ) (r to pairs : ℕ) (ptr₀ idx₀ masks₀ ptr idx masks : List ℕ) : Type 0 where
  pub words : take to idx ≡ side_words r ncols s
  pub masked : take to masks ≡ side_masks r ncols s
  pub ptrs : (k : ℕ) → k ≤ r → get_or ptr k 0 ≡ length (side_words k ncols s)
  pub count : pairs ≡ pair_count r ncols s
  pub few : pairs ≤ 64 * to
  pub high : to ≤ limit r
  pub idx_kept : Kept idx₀ idx 0 to
  pub masks_kept : Kept masks₀ masks 0 to
  pub ptr_kept : Kept ptr₀ ptr 0 (r + 1)

pub sofar-none : (ncols : ℕ) (s : ℕ → ℕ → Bool) (limit : ℕ → ℕ) (ptr idx masks : List ℕ) → 0 < length ptr → Sofar ncols s limit 0 0 0 (set ptr 0 0) idx masks (set ptr 0 0) idx masks
sofar-none ncols s limit ptr idx masks h = record {
  words = sym (join-none (λ r. words_of_row ncols (s r)));
  masked = sym (join-none (λ r. masks_of_row ncols (s r)));
  ptrs = λ k a. let e : k ≡ 0 = omega arith in rw (e, join-none (λ r. words_of_row ncols (s r))) (grind (arith, common_steps));
  count = sym (sum-zero (λ r. count_below ncols (s r)));
  few = omega arith;
  high = omega arith;
  idx_kept = kept-none idx 0 0;
  masks_kept = kept-none masks 0 0;
  ptr_kept = kept-none (set ptr 0 0) 0 (0 + 1);
}

module _ {ncols : ℕ} {s : ℕ → ℕ → Bool} {limit : ℕ → ℕ} {ptr₀ idx₀ masks₀ ptr idx masks : List ℕ} where
  -- one row more: s r, up to to'
  module _ {r to pairs to' : ℕ} {idx' masks' : List ℕ} (w : Sofar ncols s limit r to pairs ptr₀ idx₀ masks₀ ptr idx masks) (b : NewRow (s r) idx masks idx' masks' to to' (limit (r + 1))) where
    pub pairs-few : (n : ℕ) → n ≡ bits_in masks' to to' → pairs + n ≤ 64 * to'
    pairs-few n e = omega (arith, w.few, bits-le masks' to to', b.low)

    pub sofar-next : ((c : ℕ) → T (s r c) → c < ncols) → limit (r + 1) ≤ length idx₀ → limit (r + 1) ≤ length masks₀ → r + 1 < length ptr₀ → (n : ℕ) → n ≡ bits_in masks' to to'
        → Sofar ncols s limit (r + 1) to' (pairs + n) ptr₀ idx₀ masks₀ (set ptr (r + 1) to') idx' masks'
    sofar-next small hi hm hp n e = record {
      words = words';
      masked =
          take-kept masks masks' to to' b.low (omega (arith, fit-m, b.masks_kept.long)) b.masks_kept
          ∙ ap₂ (λ (x y : List ℕ). x ++ y) w.masked (row_masks (s r) ncols idx' masks' to to' b.row b.low fit-i fit-m small)
          ∙ sym (join-next r (λ r. masks_of_row ncols (s r)));
      ptrs = λ k a. grind (arith, common_steps, w.ptrs k, w.ptr_kept.long, sym (length-take-le to' idx' fit-i) ∙ ap length words');
      count = ap₂ ◌+◌ w.count (e ∙ row_count (s r) ncols idx' masks' to to' b.row b.low fit-i fit-m small) ∙ sym (sum-suc r (λ r. count_below ncols (s r)));
      few = pairs-few n e;
      high = b.high;
      idx_kept = kept_next (omega arith) b.low w.idx_kept b.idx_kept;
      masks_kept = kept_next (omega arith) b.low w.masks_kept b.masks_kept;
      ptr_kept = kept_next (omega arith) (omega arith) w.ptr_kept (kept_set ptr 0 (r + 1 + 1) (r + 1) to' (omega arith) (omega arith));
    }
      where
        fit-i : to' ≤ length idx'
        fit-i = omega (arith, b.high, b.idx_kept.long, w.idx_kept.long)

        fit-m : to' ≤ length masks'
        fit-m = omega (arith, b.high, b.masks_kept.long, w.masks_kept.long)

        words' : take to' idx' ≡ side_words (r + 1) ncols s
        words' =
            take-kept idx idx' to to' b.low (omega (arith, fit-i, b.idx_kept.long)) b.idx_kept
            ∙ ap₂ (λ (x y : List ℕ). x ++ y) w.words (row_words (s r) ncols idx' masks' to to' b.row b.low fit-i fit-m small)
            ∙ sym (join-next r (λ r. words_of_row ncols (s r)))

  -- ---- after all rows, with zeros up to `needed`

  module _ {nrows needed to pairs : ℕ} (high : limit nrows ≤ needed) (hi : needed ≤ length idx₀) (hm : needed ≤ length masks₀) (w : Sofar ncols s limit nrows to pairs ptr₀ idx₀ masks₀ ptr idx masks) where
    end : to ≡ length (side_words nrows ncols s)
    end = sym (length-take-le to idx (omega (arith, w.high, w.idx_kept.long))) ∙ ap length w.words

    pub end-counts : ◌≡◌ {A = SideCounts} (record { words = to; pairs = pairs }) (side_counts nrows ncols s)
    end-counts = ap₂ (λ (a b : ℕ). record { words = a; pairs = b }) end w.count

    -- `l[lo..hi].fill(0)`
    filled : (l part : List ℕ) → needed ≤ length l → part ≡ replicate (length (take (needed - to) (drop to l))) 0 → put_mid to (needed - to) l part ≡ zeroed to needed l
    filled l part h e = grind (arith, common_steps, w.high)

    pub end-words : (part : List ℕ) → part ≡ replicate (length (take (needed - to) (drop to idx))) 0 → put_mid to (needed - to) idx part ≡ over_with_zeros (side_words nrows ncols s) needed idx₀
    end-words part e =
        filled idx part (omega (arith, w.idx_kept.long)) e
        ∙ zero-over (side_words nrows ncols s) idx₀ idx to needed w.words end (omega (arith, w.high))
        (drop-same idx₀ idx needed w.idx_kept.long (λ k a. w.idx_kept.past k (omega (arith, w.high))))

    pub end-masks : (part : List ℕ) → part ≡ replicate (length (take (needed - to) (drop to masks))) 0 → put_mid to (needed - to) masks part ≡ over_with_zeros (side_masks nrows ncols s) needed masks₀
    end-masks part e =
        filled masks part (omega (arith, w.masks_kept.long)) e
        ∙ zero-over (side_masks nrows ncols s) masks₀ masks to needed w.masked
        (sym (length-take-le to masks (omega (arith, w.high, w.masks_kept.long))) ∙ ap length w.masked) (omega (arith, w.high))
        (drop-same masks₀ masks needed w.masks_kept.long (λ k a. w.masks_kept.past k (omega (arith, w.high))))

-- the pointers, over the list as it was before its first element was set
pub end-pointers : {ncols : ℕ} {s : ℕ → ℕ → Bool} {limit : ℕ → ℕ} {nrows to pairs : ℕ} {idx₀ masks₀ ptr idx masks : List ℕ} (lent : List ℕ) → nrows < length lent
    → Sofar ncols s limit nrows to pairs (set lent 0 0) idx₀ masks₀ ptr idx masks → ptr ≡ over (side_ptr nrows ncols s) lent
end-pointers {ncols} {s} {nrows = nrows} {ptr = ptr} lent h w =
    sym (take-append-drop (nrows + 1) ptr)
    ∙ ap₂ (λ (x y : List ℕ). x ++ y) front (drop-same lent ptr (nrows + 1) kept.long kept.past)
    ∙ ap (λ (n : ℕ). side_ptr nrows ncols s ++ drop n lent) (sym many)
  where
    kept : Kept lent ptr 0 (nrows + 1)
    kept = kept_next (omega arith) (omega arith) (kept_set lent 0 (0 + 1) 0 0 (omega arith) (omega arith)) w.ptr_kept

    ends : ℕ → ℕ
    ends = λ r. length (side_words r ncols s)

    many : length (side_ptr nrows ncols s) ≡ nrows + 1
    many = length-list_from ends (nrows + 1) 0

    long : length (take (nrows + 1) ptr) ≡ nrows + 1
    long = length-take-le (nrows + 1) ptr (omega (arith, kept.long))

    front : take (nrows + 1) ptr ≡ side_ptr nrows ncols s
    front =
        ext_get_or 0 (take (nrows + 1) ptr) (side_ptr nrows ncols s) (long ∙ sym many)
        (λ i a. get_or-take (nrows + 1) ptr i 0 (omega (arith, long)) ∙ w.ptrs i (omega (arith, long)) ∙ ap ends (sym (zero-add i)) ∙ sym (get_or-list_from ends (nrows + 1) 0 i 0 (omega (arith, long))))
