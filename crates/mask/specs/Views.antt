-- What is said of a mask, of one that is lent and of one that was accepted.
-- `x_check` says what is refused, of numbers and lists; `check_x` says the same of the struct that they are lent in. So do `answer_x` and `list_x`.
use Rattle.std.specs.Prelude.{◌≡◌, Bool, List, Result, ℕ}
use Rattle.base.specs.Checks.{Check}
use Rattle.base.specs.declared.Refusal.{Refusal}
use Rattle.mask.specs.declared.DofMask.{DofMask}
use Rattle.mask.specs.declared.inner.Mask.{Mask}
use Rattle.mask.specs.Mask.{in_mask, mask_check, length_check}
use Rattle.mask.specs.Answers.{pair_check, empty_answer, count_answer, contains_answer, intersects_answer, indices_answer, indices_list}

-- 1, 11 for its word count, 12
abbrev pub check_mask : DofMask → Check
check_mask m = mask_check m.len m.words.now

-- 11 for a length that is not the expected one, 11 for its word count, 12
abbrev pub check_length : ℕ → DofMask → Check
check_length expected m = length_check expected m.len m.words.now

-- the first on its own, then the second with its length against the first's
abbrev pub check_pair : DofMask → DofMask → Check
check_pair m other = pair_check m.len m.words.now other.len other.words.now

abbrev pub answer_empty : DofMask → Result Bool Refusal
answer_empty m = empty_answer m.len m.words.now

abbrev pub answer_count : DofMask → Result ℕ Refusal
answer_count m = count_answer m.len m.words.now

abbrev pub answer_contains : DofMask → ℕ → Result Bool Refusal
answer_contains m = contains_answer m.len m.words.now

abbrev pub answer_intersects : DofMask → DofMask → Result Bool Refusal
answer_intersects m other = intersects_answer m.len m.words.now other.len other.words.now

abbrev pub answer_indices : DofMask → List ℕ → Result ℕ Refusal
answer_indices m = indices_answer m.len m.words.now

-- and what it leaves in the list that it writes
abbrev pub list_indices : DofMask → List ℕ → List ℕ
list_indices m = indices_list m.len m.words.now

-- the nodes that it holds
abbrev pub nodes : Mask → ℕ → Bool
nodes m = in_mask m.words.now

-- the lent mask as it was accepted
abbrev pub AcceptedFrom : DofMask → Mask → Type 0
AcceptedFrom d m = (m.len ≡ d.len) × (m.words ≡ d.words)
