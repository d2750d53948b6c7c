-- One side of a topology is a set of pairs (row, column). For each row it stores the words that hold at least one of its columns, in rising
-- order, each with its mask. The columns side is the same of the pairs flipped.
use Rattle.std.specs.Prelude.{Bool, not, cond, List, [], ◌∷◌, map, ℕ, ◌+◌, ◌/◌, ◌%◌, eqb, ltb, length, get_or}
use Rattle.std.specs.Prelude.{Option, Some, None}
use Rattle.std.proofs.Math.Seq.{slice}
use Rattle.base.specs.Lists.{join_below, list_from}
use Rattle.base.specs.Sets.{sum_below, count_below, members_below}
use Rattle.word.specs.Bits.{bit_at, word_of}
use Rattle.mask.specs.Mask.{words_needed}
use Rattle.side.specs.declared.SideCounts.{SideCounts}
use Rattle.word.specs.declared.AbtmTopologyWord.{AbtmTopologyWord}

-- the pairs turned round
abbrev pub flip : (ℕ → ℕ → Bool) → ℕ → ℕ → Bool
flip s c r = s r c

-- ---- the side of a set of pairs

-- the words of a row with the columns p: those that hold at least one, in rising order
unfoldable pub words_of_row : ℕ → (ℕ → Bool) → List ℕ
words_of_row ncols p = members_below (words_needed ncols) (λ w. not (eqb (word_of p w) 0))

-- each word's mask
unfoldable pub masks_of_row : ℕ → (ℕ → Bool) → List ℕ
masks_of_row ncols p = map (word_of p) (words_of_row ncols p)

-- the rows one after the other
abbrev pub side_words : ℕ → ℕ → (ℕ → ℕ → Bool) → List ℕ
side_words nrows ncols s = join_below nrows (λ r. words_of_row ncols (s r))

abbrev pub side_masks : ℕ → ℕ → (ℕ → ℕ → Bool) → List ℕ
side_masks nrows ncols s = join_below nrows (λ r. masks_of_row ncols (s r))

-- where each row's words start, and where the last row's end
abbrev pub side_ptr : ℕ → ℕ → (ℕ → ℕ → Bool) → List ℕ
side_ptr nrows ncols s = list_from (λ r. length (side_words r ncols s)) (nrows + 1) 0

-- how many pairs there are
abbrev pub pair_count : ℕ → ℕ → (ℕ → ℕ → Bool) → ℕ
pair_count nrows ncols s = sum_below nrows (λ r. count_below ncols (s r))

-- how many words and pairs the side has
abbrev pub side_counts : ℕ → ℕ → (ℕ → ℕ → Bool) → SideCounts
side_counts nrows ncols s = record { words = length (side_words nrows ncols s); pairs = pair_count nrows ncols s }

-- ---- the set of pairs of a side

-- the mask that stands beside word w, or 0
unfoldable pub mask_for : ℕ → List ℕ → List ℕ → ℕ
mask_for w [] ms = 0
mask_for w (x ∷ xs) [] = 0
mask_for w (x ∷ xs) (m ∷ ms) = cond (eqb x w) m (mask_for w xs ms)

-- the row whose words stand at from..to holds column c
unfoldable pub row_holds : List ℕ → List ℕ → ℕ → ℕ → ℕ → Bool
row_holds idx masks from to c = bit_at (mask_for (c / 64) (slice from to idx) (slice from to masks)) (c % 64)

-- the side holds the pair (r, c)
abbrev pub side_holds : List ℕ → List ℕ → List ℕ → ℕ → ℕ → Bool
side_holds ptr idx masks r c = row_holds idx masks (get_or ptr r 0) (get_or ptr (r + 1) 0) c

-- word k of a row with the columns p, or none
unfoldable pub word_at : ℕ → (ℕ → Bool) → ℕ → Option AbtmTopologyWord
word_at ncols p k =
    cond (ltb k (length (words_of_row ncols p))) (Some (record { word_index = get_or (words_of_row ncols p) k 0; mask = get_or (masks_of_row ncols p) k 0 })) None
