-- Document 01's own job and its text. Assumes nothing.
use mathlib.Core.Path.{◌≡◌, refl, sym, subst}
use mathlib.Core.Bool.{true}
use mathlib.Core.List.{List, [], ◌∷◌}
use Prim.Native.Nat.{ℕ, ◌≤◌}
use native.Mathlib.Omega.{arith}
use lib.ListN.{length}
use Rattle.text_writing.specs.Text.{digits_of, further, numbers, line}
use Rattle.job_text.specs.Job.{Job, text_limit, text_of_job, fits, is_job, job_of}
use Rattle.job_text.proofs.Inverse.{written-reads}

-- the text of document 01
abbrev pub example_text : List ℕ
example_text =
    115 ∷ 105 ∷ 122 ∷ 101 ∷ 61 ∷ 51 ∷ 10 ∷ 98 ∷ 108 ∷ 111 ∷ 99 ∷ 107 ∷ 115 ∷ 61 ∷ 49 ∷ 44 ∷ 49 ∷ 44 ∷ 49 ∷ 10 ∷ 112 ∷ 116 ∷ 114 ∷ 61 ∷ 48 ∷ 44 ∷ 49 ∷ 44 ∷ 50 ∷ 44 ∷ 50 ∷ 10 ∷ 99 ∷ 111 ∷ 108 ∷ 115 ∷ 61 ∷ 49 ∷ 44 ∷ 50 ∷ 10 ∷ 115 ∷ 101 ∷ 101 ∷ 100 ∷ 115 ∷ 61 ∷ 48 ∷ 10 ∷ 104 ∷ 111 ∷ 112 ∷ 115 ∷ 61 ∷ 49 ∷ 10 ∷ []

abbrev pub example : Job
example = record { size = 3; blocks = 1 ∷ (1 ∷ (1 ∷ [])); ptr = 0 ∷ (1 ∷ (2 ∷ (2 ∷ []))); cols = 1 ∷ (2 ∷ []); seeds = 0 ∷ []; hops = 1 }

pub example-written : text_of_job example ≡ example_text
unfolding text_of_job line numbers further digits_of
example-written = refl

example-fits : fits example ≡ true
unfolding fits
example-fits = refl

short : length example_text ≤ text_limit
short = omega arith

-- it reads as that job
pub example-read : (is_job example_text ≡ true) × (job_of example_text ≡ example)
example-read = subst (λ (t : List ℕ). (is_job t ≡ true) × (job_of t ≡ example)) example-written (written-reads example example-fits (subst (λ (t : List ℕ). length t ≤ text_limit) (sym example-written) short))
