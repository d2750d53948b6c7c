-- The check of one side: refusal 1, then what `AbtmTopology::validate` asks for, refusal 9. The faults are told apart, in the order lengths,
-- pointers and pair count, then words; `fault_refusal` gives the number of each.
use Rattle.std.specs.Prelude.{◌≡◌, Bool, true, not, cond, ◌&&◌, ◌||◌, List, ℕ, ◌+◌, ◌-◌, ◌*◌, ◌^◌, ◌≤◌, ◌<◌, eqb, leb, ltb, length, get_or}
use Rattle.std.specs.Prelude.{Result, Ok, Err, Option, Some, None}
use Rattle.base.specs.Checks.{Check}
use Rattle.base.specs.declared.Refusal.{Refusal}
use Rattle.base.specs.declared.Refusal.TheVariants.{OverLimit, BadTopology, ListTooShort}
use Rattle.base.specs.Checks.{must, ◌then◌, side_limit, entry_limit}
use Rattle.base.specs.Lists.{rising}
use Rattle.base.specs.Sets.{first_below, every_below, sum_below, count_below}
use Rattle.word.specs.Bits.{bit_at}
use Rattle.side.specs.declared.Fault.{Fault}

-- the limits of refusal 1
unfoldable pub limit_check : ℕ → ℕ → List ℕ → List ℕ → ℕ → Check
limit_check nrows ncols idx masks pairs =
    must (leb nrows side_limit) OverLimit
    then must (leb ncols side_limit) OverLimit
    then must (leb (length idx) entry_limit) OverLimit
    then must (leb (length masks) entry_limit) OverLimit
    then must (leb pairs entry_limit) OverLimit

-- the refusal of each fault
abbrev pub fault_refusal : Fault → Refusal
fault_refusal Fault.Lists = BadTopology
fault_refusal (Fault.Word w) = BadTopology
fault_refusal Fault.Disagree = BadTopology

-- and of a search for one, which finds none or the first
unfoldable pub fault_check : Result Unit Fault → Check
fault_check (Ok _) = Ok tt
fault_check (Err f) = Err (fault_refusal f)

-- the set bits of the masks from..to
unfoldable pub bits_in : List ℕ → ℕ → ℕ → ℕ
bits_in masks from to = sum_below (to - from) (λ j. count_below 64 (bit_at (get_or masks (from + j) 0)))

-- the lengths, the pointers, the stored pair count
unfoldable pub lists_agree : ℕ → List ℕ → List ℕ → List ℕ → ℕ → Bool
lists_agree nrows ptr idx masks pairs =
    eqb (length ptr) (nrows + 1)
    && eqb (length idx) (length masks)
    && eqb (get_or ptr 0 0) 0
    && eqb (get_or ptr nrows 0) (length masks)
    && rising ptr
    && eqb (bits_in masks 0 (length masks)) pairs

-- no bit of word w is at or past ncols
unfoldable pub is_word_inside : ℕ → ℕ → ℕ → Bool
is_word_inside ncols w m = every_below 64 (λ b. ltb (64 * w + b) ncols || not (bit_at m b))

-- word k, in a row whose words start at `from`: not 0, above the word before it, inside the columns
unfoldable pub good_word : ℕ → List ℕ → List ℕ → ℕ → ℕ → Bool
good_word ncols idx masks from k =
    not (eqb (get_or masks k 0) 0)
    && (eqb k from || ltb (get_or idx (k - 1) 0) (get_or idx k 0))
    && is_word_inside ncols (get_or idx k 0) (get_or masks k 0)

-- the place of the first bad word of a row that has the lists to itself, or none
unfoldable pub bad_word : ℕ → List ℕ → List ℕ → Option ℕ
bad_word ncols idx masks = let k = first_below (length masks) (λ j. not (good_word ncols idx masks 0 j)) in cond (ltb k (length masks)) (Some k) None

-- the row of word k: the first that ends past it
abbrev pub row_at : ℕ → List ℕ → ℕ → ℕ
row_at nrows ptr k = first_below nrows (λ r. ltb k (get_or ptr (r + 1) 0))

abbrev pub bad_at : ℕ → ℕ → List ℕ → List ℕ → List ℕ → ℕ → Bool
bad_at nrows ncols ptr idx masks k = not (good_word ncols idx masks (get_or ptr (row_at nrows ptr k) 0) k)

-- the first bad word, if there is one
unfoldable pub words_fault : ℕ → ℕ → List ℕ → List ℕ → List ℕ → Result Unit Fault
words_fault nrows ncols ptr idx masks =
    let k = first_below (length masks) (bad_at nrows ncols ptr idx masks) in
    cond (ltb k (length masks)) (Err (Fault.Word (record { row = row_at nrows ptr k; position = k }))) (Ok tt)

unfoldable pub side_fault : ℕ → ℕ → List ℕ → List ℕ → List ℕ → ℕ → Result Unit Fault
side_fault nrows ncols ptr idx masks pairs = cond (lists_agree nrows ptr idx masks pairs) (words_fault nrows ncols ptr idx masks) (Err Fault.Lists)

-- a side: 1, 9
unfoldable pub side_check : ℕ → ℕ → List ℕ → List ℕ → List ℕ → ℕ → Check
side_check nrows ncols ptr idx masks pairs = limit_check nrows ncols idx masks pairs then fault_check (side_fault nrows ncols ptr idx masks pairs)

-- 25: what the lists of a side of `rows` rows and at most `words` words need, against the lengths that they have
unfoldable pub side_room : ℕ → ℕ → ℕ → ℕ → ℕ → Check
side_room rows words pointers indices masks = must (ltb rows pointers) ListTooShort then must (leb words indices) ListTooShort then must (leb words masks) ListTooShort

-- ---- what an accepted side is

-- strictly rising at from..to
abbrev pub Rising : List ℕ → ℕ → ℕ → Type 0
Rising l from to = (j k : ℕ) → from ≤ j → j < k → k < to → get_or l j 0 < get_or l k 0

-- lengths and pointers
pub record IsRows (nrows : ℕ) (ptr idx masks : List ℕ) : Type 0 where
  pub few_rows : nrows ≤ side_limit
  pub few_words : length masks ≤ entry_limit
  pub rows : length ptr ≡ nrows + 1
  pub as_many : length idx ≡ length masks
  pub starts : get_or ptr 0 0 ≡ 0
  pub ends : get_or ptr nrows 0 ≡ length masks
  pub rises : (r : ℕ) → r < nrows → get_or ptr r 0 ≤ get_or ptr (r + 1) 0

-- and words
pub record IsSide (nrows ncols : ℕ) (ptr idx masks : List ℕ) : Type 0 where
  pub shape : IsRows nrows ptr idx masks
  pub few_cols : ncols ≤ side_limit
  pub few_pairs : bits_in masks 0 (length masks) ≤ entry_limit
  pub rising : (r : ℕ) → r < nrows → Rising idx (get_or ptr r 0) (get_or ptr (r + 1) 0)
  pub used : (k : ℕ) → k < length masks → 0 < get_or masks k 0
  pub fits : (k : ℕ) → k < length masks → get_or masks k 0 < 2 ^ 64
  pub inside : (k : ℕ) → k < length masks → is_word_inside ncols (get_or idx k 0) (get_or masks k 0) ≡ true
