-- The merge of two rows, a word a turn. Assumes nothing.
use mathlib.Core.Path.{◌≡◌, ap₂, ◌∙◌}
use mathlib.Core.Logic.{◌⊎◌, inl, inr, ◌≢◌}
use mathlib.Core.Bool.{Bool, true, false}
use mathlib.Core.List.{List}
use Prim.Native.Nat.{ℕ, ◌+◌, ◌-◌, ◌*◌, ◌≤◌, ◌<◌}
use native.Mathlib.Omega.{arith}
use native.Mathlib.Nat.{le_refl}
use lib.Dec.{T}
use lib.ListN.{length, get_or, set}
use Rattle.base.proofs.Bools.{not-T-of}
use Rattle.word.specs.Bits.{bit_at, word_from, word_of}
use Rattle.word.proofs.Words.{on-words}
use Rattle.side.specs.Side.{row_holds}
use Rattle.side.specs.Row.{Lower, Row, Kept, NewRow}
use Rattle.side.proofs.Writing.{kept-none, kept_set, kept_next}
use Rattle.side_sets.specs.declared.inner.Taken.{Taken}
use Rattle.side_sets.specs.Merge.{OwnRow, Next, taken_at}
use Rattle.side_sets.proofs.Growing.{up_to, row-none, row-whole, row-skip, row_put}
use Rattle.side_sets.proofs.Taking.{Took, none_left, no-between, took}

-- ---- the columns of two sets under f

pub either-of : (f : Bool → Bool → Bool) → f false false ≡ false → (s t : Bool) → T (f s t) → T s ⊎ T t
either-of f off true t h = inl tt
either-of f off false true h = inr tt
either-of f off false false h = absurd (not-T-of (f false false) off h)

-- what is known where the two rows are merged as far as a and b, and the result to `to`: the words below the bound are done
pub record Merging (f : Bool → Bool → Bool) (left left-masks : List ℕ) (a₀ a₁ : ℕ) (right right-masks : List ℕ) (b₀ b₁ from : ℕ) (idx₀ masks₀ idx masks : List ℕ) (a b to : ℕ) : Type 0 where
  pub bound : ℕ
  pub in_left : Lower left a₀ a₁ bound a
  pub in_right : Lower right b₀ b₁ bound b
  pub row : Row (up_to (λ c. f (row_holds left left-masks a₀ a₁ c) (row_holds right right-masks b₀ b₁ c)) bound) idx masks from to
  pub low : from ≤ to
  pub room : to ≤ from + (a - a₀) + (b - b₀)
  pub words_kept : Kept idx₀ idx from to
  pub masks_kept : Kept masks₀ masks from to

-- where a merge starts
lower-start : (l : List ℕ) (from to : ℕ) → from ≤ to → Lower l from to 0 from
lower-start l from to h = record { low = le_refl from; high = h; below = λ k a b. absurd (omega arith); above = λ k a b. omega arith }

module _ (f : Bool → Bool → Bool) {left left-masks : List ℕ} {a₀ a₁ : ℕ} {right right-masks : List ℕ} {b₀ b₁ : ℕ} (rl : OwnRow left left-masks a₀ a₁) (rr : OwnRow right right-masks b₀ b₁) where
  pub merge-start : (from : ℕ) (idx masks : List ℕ) → Merging f left left-masks a₀ a₁ right right-masks b₀ b₁ from idx masks idx masks a₀ b₀ from
  merge-start from idx masks = record {
    bound = 0;
    in_left = lower-start left a₀ a₁ rl.order;
    in_right = lower-start right b₀ b₁ rr.order;
    row = row-none (λ c. f (row_holds left left-masks a₀ a₁ c) (row_holds right right-masks b₀ b₁ c)) idx masks from;
    low = le_refl from;
    room = omega arith;
    words_kept = kept-none idx from from;
    masks_kept = kept-none masks from from;
  }

  -- no word is left in either
  pub merge-end : f false false ≡ false → {from : ℕ} {idx₀ masks₀ idx masks : List ℕ} {a b to : ℕ}
      → Merging f left left-masks a₀ a₁ right right-masks b₀ b₁ from idx₀ masks₀ idx masks a b to → a₁ + b₁ ≤ a + b
      → NewRow (λ c. f (row_holds left left-masks a₀ a₁ c) (row_holds right right-masks b₀ b₁ c)) idx₀ masks₀ idx masks from to (from + (a₁ - a₀) + (b₁ - b₀))
  merge-end off {from} {idx₀} {masks₀} {idx} {masks} {a} {b} {to} m h = record {
    low = m.low;
    high = omega (arith, m.room, m.in_left.high, m.in_right.high);
    row = row-whole (λ c. f (row_holds left left-masks a₀ a₁ c) (row_holds right right-masks b₀ b₁ c)) m.bound m.row done;
    idx_kept = m.words_kept;
    masks_kept = m.masks_kept;
  }
    where
      done : (c : ℕ) → T (f (row_holds left left-masks a₀ a₁ c) (row_holds right right-masks b₀ b₁ c)) → c < 64 * m.bound
      done c t = go (either-of f off (row_holds left left-masks a₀ a₁ c) (row_holds right right-masks b₀ b₁ c) t)
        where
          go : T (row_holds left left-masks a₀ a₁ c) ⊎ T (row_holds right right-masks b₀ b₁ c) → c < 64 * m.bound
          go (inl s) = none_left rl.row m.in_left (omega (arith, m.in_right.high)) c s
          go (inr s) = none_left rr.row m.in_right (omega (arith, m.in_left.high)) c s

-- a turn: word v is the next, s and t are what the two rows have for it, x is what the result has
pub record Turn (f : Bool → Bool → Bool) (left left-masks : List ℕ) (a₀ a₁ : ℕ) (right right-masks : List ℕ) (b₀ b₁ from : ℕ) (idx₀ masks₀ idx masks : List ℕ) (a b to : ℕ) (v : ℕ) (s t : Taken) (x : ℕ) : Type 0 where
  pub none : f false false ≡ false
  pub row_left : OwnRow left left-masks a₀ a₁
  pub row_right : OwnRow right right-masks b₀ b₁
  pub merging : Merging f left left-masks a₀ a₁ right right-masks b₀ b₁ from idx₀ masks₀ idx masks a b to
  pub next : Next left a a₁ right b b₁ v
  pub from_left : s ≡ taken_at left left-masks a a₁ v
  pub from_right : t ≡ taken_at right right-masks b b₁ v
  pub result : x ≡ word_from (λ i. f (bit_at s.mask i) (bit_at t.mask i)) 64 0

module _ {f : Bool → Bool → Bool} {left left-masks : List ℕ} {a₀ a₁ : ℕ} {right right-masks : List ℕ} {b₀ b₁ from : ℕ} {idx₀ masks₀ idx masks : List ℕ} {a b to v : ℕ} {s t : Taken} {x : ℕ}
    (turn : Turn f left left-masks a₀ a₁ right right-masks b₀ b₁ from idx₀ masks₀ idx masks a b to v s t x) where
  m : Merging f left left-masks a₀ a₁ right right-masks b₀ b₁ from idx₀ masks₀ idx masks a b to
  m = turn.merging

  abbrev A : ℕ → Bool
  A = row_holds left left-masks a₀ a₁

  abbrev B : ℕ → Bool
  B = row_holds right right-masks b₀ b₁

  abbrev limit : ℕ
  limit = from + (a₁ - a₀) + (b₁ - b₀)

  -- the word is at or past the bound
  from-bound : m.bound ≤ v
  from-bound = go turn.next.own
    where
      go : ((a < a₁) × (get_or left a 0 ≡ v)) ⊎ ((b < b₁) × (get_or right b 0 ≡ v)) → m.bound ≤ v
      go (inl h) = omega (arith, h.1, m.in_left.above a (le_refl a) h.0)
      go (inr h) = omega (arith, h.1, m.in_right.above b (le_refl b) h.0)

  took-left : Took A left a₀ a₁ a v s
  took-left = took turn.row_left.row m.in_left v from-bound turn.next.low_left s turn.from_left

  took-right : Took B right b₀ b₁ b v t
  took-right = took turn.row_right.row m.in_right v from-bound turn.next.low_right t turn.from_right

  -- one of the two rows goes on
  pub goes_on : a + b < s.next + t.next
  goes_on = go turn.next.own
    where
      go : ((a < a₁) × (get_or left a 0 ≡ v)) ⊎ ((b < b₁) × (get_or right b 0 ≡ v)) → a + b < s.next + t.next
      go (inl h) = omega (arith, took-left.moved h.0 h.1, took-right.least)
      go (inr h) = omega (arith, took-right.moved h.0 h.1, took-left.least)

  pub within : s.next + t.next ≤ a₁ + b₁
  within = omega (arith, took-left.lower.high, took-right.lower.high)

  pub in-room : to < limit
  in-room = omega (arith, m.room, goes_on, within, m.in_left.low, m.in_right.low, m.in_left.high, m.in_right.high)

  result-is : x ≡ word_of (λ c. f (A c) (B c)) v
  result-is =
      turn.result ∙ ap₂ (λ (j k : ℕ). word_from (λ i. f (bit_at j i) (bit_at k i)) 64 0) took-left.mask_is took-right.mask_is
      ∙ on-words 64 f A B (64 * v)

  gap : (c : ℕ) → T (f (A c) (B c)) → 64 * m.bound ≤ c → 64 * v ≤ c
  gap c h l = go (either-of f turn.none (A c) (B c) h)
    where
      go : T (A c) ⊎ T (B c) → 64 * v ≤ c
      go (inl q) = no-between turn.row_left.row m.in_left v from-bound turn.next.low_left c q l
      go (inr q) = no-between turn.row_right.row m.in_right v from-bound turn.next.low_right c q l

  pub merge-skip : x ≡ 0 → Merging f left left-masks a₀ a₁ right right-masks b₀ b₁ from idx₀ masks₀ idx masks s.next t.next to
  merge-skip z = record {
    bound = v + 1;
    in_left = took-left.lower;
    in_right = took-right.lower;
    row = row-skip (λ c. f (A c) (B c)) m.bound m.row v x from-bound gap result-is z;
    low = m.low;
    room = omega (arith, m.room, took-left.least, took-right.least);
    words_kept = m.words_kept;
    masks_kept = m.masks_kept;
  }

  pub merge-put : limit ≤ length idx₀ → limit ≤ length masks₀ → x ≢ 0
      → Merging f left left-masks a₀ a₁ right right-masks b₀ b₁ from idx₀ masks₀ (set idx to v) (set masks to x) s.next t.next (to + 1)
  merge-put hi hm n = record {
    bound = v + 1;
    in_left = took-left.lower;
    in_right = took-right.lower;
    row = row_put (λ c. f (A c) (B c)) m.bound m.row v x from-bound gap result-is m.low (omega (arith, in-room, m.words_kept.long)) (omega (arith, in-room, m.masks_kept.long)) n;
    low = omega (arith, m.low);
    room = omega (arith, m.room, goes_on, m.in_left.low, m.in_right.low, took-left.least, took-right.least);
    words_kept = kept_next (omega arith) (omega arith) m.words_kept (kept_set idx from (to + 1) to v m.low (omega arith));
    masks_kept = kept_next (omega arith) (omega arith) m.masks_kept (kept_set masks from (to + 1) to x m.low (omega arith));
  }
