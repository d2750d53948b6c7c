-- Each call's answer as the flat record that crosses the C boundary.
use Rattle.std.specs.Prelude.{Bool, true, false, ℕ}
use Rattle.std.specs.Prelude.{Result, Ok, Err, Option, Some, None}
use Rattle.base.specs.Checks.{Check}
use Rattle.base.specs.Sets.{one_if}
use Rattle.base.specs.declared.Refusal.{Refusal}
use Rattle.dof_layout.specs.Answers.{code_of}
use Rattle.hybit_matrix.specs.declared.Answer.{Answer}
use Rattle.hybit_matrix.specs.declared.PairAnswer.{PairAnswer}
use Rattle.dof_layout.specs.declared.DofEntityKind.{DofEntityKind}
use Rattle.dof_layout.specs.declared.DofAddress.{DofAddress}
use Rattle.dof_layout.specs.declared.Range.{Range}
use Rattle.base.specs.Checks.{refusal_number, refusal_expected, refusal_actual}

-- a refusal has its number and figures, an answer the number 0
abbrev pub answer_refused : Refusal → Answer
answer_refused r = record { number = refusal_number r; present = false; expected = refusal_expected r; actual = refusal_actual r; value = 0 }

abbrev pub answer_of_number : ℕ → Answer
answer_of_number n = record { number = 0; present = true; expected = 0; actual = 0; value = n }

abbrev pub answered_none : Answer
answered_none = record { number = 0; present = false; expected = 0; actual = 0; value = 0 }

-- the record of an answer, from the record of a value and that of a refusal
unfoldable pub flat_of : {A R : Type 0} → (A → R) → (Refusal → R) → Result A Refusal → R
flat_of value refused (Ok x) = value x
flat_of value refused (Err r) = refused r

-- the record of a value or none
unfoldable pub flat_of_some : {A R : Type 0} → (A → R) → R → Option A → R
flat_of_some value none (Some x) = value x
flat_of_some value none None = none

abbrev pub flat_of_checked : Check → Answer
flat_of_checked = flat_of (λ _. answer_of_number 0) answer_refused

abbrev pub flat_of_truth : Result Bool Refusal → Answer
flat_of_truth = flat_of (λ b. answer_of_number (one_if b)) answer_refused

abbrev pub flat_of_counted : Result ℕ Refusal → Answer
flat_of_counted = flat_of answer_of_number answer_refused

abbrev pub flat_of_selected : Option ℕ → Answer
flat_of_selected = flat_of_some answer_of_number answered_none

-- a kind crosses as its number
abbrev pub flat_of_kinded : Result DofEntityKind Refusal → Answer
flat_of_kinded = flat_of (λ k. answer_of_number (code_of k)) answer_refused

-- ---- answers of two numbers

abbrev pub pair_answer_refused : Refusal → PairAnswer
pair_answer_refused r = record { number = refusal_number r; present = false; expected = refusal_expected r; actual = refusal_actual r; first = 0; second = 0 }

abbrev pub pair_answer_of : ℕ → ℕ → PairAnswer
pair_answer_of a b = record { number = 0; present = true; expected = 0; actual = 0; first = a; second = b }

abbrev pub pair_answer_none : PairAnswer
pair_answer_none = record { number = 0; present = false; expected = 0; actual = 0; first = 0; second = 0 }

abbrev pub flat_of_ranged : Result (Option Range) Refusal → PairAnswer
flat_of_ranged = flat_of (flat_of_some (λ n. pair_answer_of n.start n.end) pair_answer_none) pair_answer_refused

abbrev pub flat_of_located : Result (Option DofAddress) Refusal → PairAnswer
flat_of_located = flat_of (flat_of_some (λ x. pair_answer_of x.block_index x.component) pair_answer_none) pair_answer_refused
