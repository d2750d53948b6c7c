-- One row of the result: the merge of the two sides' rows is a row of the pairs under the operation. Assumes nothing.
use Rattle.std.proofs.Common.{◌≡◌, ap, ◌∙◌, sym, ◌⊎◌, inl, inr, Bool, false, List, ℕ, ◌+◌, ◌-◌, ◌≤◌, ◌<◌, arith, length, get_or, le_refl}
use Rattle.std.proofs.Math.Dec.{T}
use lib.Seq.{length-slice}
use Rattle.base.specs.Checks.{entry_limit}
use Rattle.side.specs.Side.{side_holds}
use Rattle.side.specs.Check.{IsSide}
use Rattle.side.specs.Row.{IsWords, NewRow}
use Rattle.side.proofs.AtRow.{long, words-row}
use Rattle.side.proofs.Rows.{words-few, row_words}
use Rattle.side.proofs.Sides.{end-le, end-in, own, held-col}
use Rattle.side_sets.specs.Sets.{pairwise_pairs}
use Rattle.side_sets.specs.Merge.{OwnRow}
use Rattle.side_sets.proofs.Merging.{either-of}

-- as many words as both sides have in the rows before r
abbrev pub both : List ℕ → List ℕ → ℕ → ℕ
both left-ptr right-ptr r = get_or left-ptr r 0 + get_or right-ptr r 0

pub own_at : {nrows ncols : ℕ} {ptr idx masks : List ℕ} (m : IsSide nrows ncols ptr idx masks) (r : ℕ) → r < nrows → OwnRow idx masks (get_or ptr r 0) (get_or ptr (r + 1) 0)
own_at {nrows} {ncols} {ptr} {idx} {masks} m r h = record {
  order = m.shape.rises r h;
  words_long = end-in nrows ptr idx masks m.shape (r + 1) (omega arith);
  masks_long = end-le nrows ptr idx masks m.shape (r + 1) (omega arith);
  row = own nrows ncols ptr idx masks m r h;
}

pub own_words : {ncols : ℕ} {idx masks : List ℕ} → IsWords ncols idx masks → OwnRow idx masks 0 (length masks)
own_words m = record { order = omega arith; words_long = long _ _ _ m; masks_long = le_refl _; row = words-row _ _ _ m }

module _ (f : Bool → Bool → Bool) (none : f false false ≡ false) {nrows ncols : ℕ} {left-ptr left left-masks right-ptr right right-masks : List ℕ}
    (u : IsSide nrows ncols left-ptr left left-masks) (v : IsSide nrows ncols right-ptr right right-masks) (r : ℕ) (h : r < nrows) where
  abbrev S : ℕ → ℕ → Bool
  S = pairwise_pairs f (side_holds left-ptr left left-masks) (side_holds right-ptr right right-masks)

  abbrev limit : ℕ → ℕ
  limit = both left-ptr right-ptr

  pub limit-in : limit (r + 1) ≤ length left-masks + length right-masks
  limit-in = omega (arith, (own_at u r h).masks_long, (own_at v r h).masks_long)

  pub small : (c : ℕ) → T (S r c) → c < ncols
  small c t = go (either-of f none (side_holds left-ptr left left-masks r c) (side_holds right-ptr right right-masks r c) t)
    where
      go : T (side_holds left-ptr left left-masks r c) ⊎ T (side_holds right-ptr right right-masks r c) → c < ncols
      go (inl q) = held-col nrows ncols left-ptr left left-masks u r c h q
      go (inr q) = held-col nrows ncols right-ptr right right-masks v r c h q

  module _ {idx masks idx' masks' : List ℕ} {to to' : ℕ} (low : to ≤ limit r)
      (g : NewRow (λ c. f (side_holds left-ptr left left-masks r c) (side_holds right-ptr right right-masks r c)) idx masks idx' masks' to to' (to + (get_or left-ptr (r + 1) 0 - get_or left-ptr r 0) + (get_or right-ptr (r + 1) 0 - get_or right-ptr r 0))) where
    pub new_row : NewRow (S r) idx masks idx' masks' to to' (limit (r + 1))
    new_row = record {
      low = g.low;
      high = omega (arith, low, g.high, u.shape.rises r h, v.shape.rises r h);
      idx_kept = g.idx_kept;
      masks_kept = g.masks_kept;
      row = g.row;
    }

  -- few enough to count
  pub row-few : {idx masks idx' masks' : List ℕ} {to to' most : ℕ} → NewRow (S r) idx masks idx' masks' to to' most → to' ≤ length idx' → to' ≤ length masks' → to' - to ≤ entry_limit
  row-few {idx' = idx'} {masks' = masks'} {to = to} {to' = to'} g hi hm =
      omega (arith, sym (length-slice to to' idx' hi) ∙ ap length (row_words (S r) ncols idx' masks' to to' g.row g.low hi hm small), words-few ncols (S r), u.few_cols)
