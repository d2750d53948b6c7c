-- The text that answers a job, and what a call that writes a text answers and leaves.
use Rattle.std.specs.Prelude.{List, [], ◌∷◌, ◌++◌, ℕ, leb, length}
use Rattle.std.specs.Prelude.{Result}
use Rattle.base.specs.Checks.{refusal_number, Check, answer}
use Rattle.base.specs.declared.Refusal.TheVariants.{ListTooShort}
use Rattle.base.specs.Checks.{must, leaves}
use Rattle.base.specs.Lists.{over}
use Rattle.base.specs.declared.Refusal.{Refusal}
use Rattle.text_writing.specs.Text.{decimal, numbers, line}

-- ---- the keys, '=' included

-- refused=
abbrev pub refused_key : List ℕ
refused_key = 114 ∷ 101 ∷ 102 ∷ 117 ∷ 115 ∷ 101 ∷ 100 ∷ 61 ∷ []

-- region=
abbrev pub region_key : List ℕ
region_key = 114 ∷ 101 ∷ 103 ∷ 105 ∷ 111 ∷ 110 ∷ 61 ∷ []

-- frontier=
abbrev pub frontier_key : List ℕ
frontier_key = 102 ∷ 114 ∷ 111 ∷ 110 ∷ 116 ∷ 105 ∷ 101 ∷ 114 ∷ 61 ∷ []

-- completed=
abbrev pub completed_key : List ℕ
completed_key = 99 ∷ 111 ∷ 109 ∷ 112 ∷ 108 ∷ 101 ∷ 116 ∷ 101 ∷ 100 ∷ 61 ∷ []

-- local_ptr=
abbrev pub local_ptr_key : List ℕ
local_ptr_key = 108 ∷ 111 ∷ 99 ∷ 97 ∷ 108 ∷ 95 ∷ 112 ∷ 116 ∷ 114 ∷ 61 ∷ []

-- local_cols=
abbrev pub local_cols_key : List ℕ
local_cols_key = 108 ∷ 111 ∷ 99 ∷ 97 ∷ 108 ∷ 95 ∷ 99 ∷ 111 ∷ 108 ∷ 115 ∷ 61 ∷ []

-- ---- the texts

-- members, frontier, hops completed, pattern pointers, pattern columns: the whole output
unfoldable pub result_lines : List ℕ → List ℕ → ℕ → List ℕ → List ℕ → List ℕ
result_lines region frontier completed ptr cols =
    line region_key (numbers region)
    ++ (line frontier_key (numbers frontier)
    ++ (line completed_key (decimal completed)
    ++ (line local_ptr_key (numbers ptr)
    ++ line local_cols_key (numbers cols))))

-- only the line refused= and the number
abbrev pub refused_text : Refusal → List ℕ
refused_text r = line refused_key (decimal (refusal_number r))

-- ---- writing one: the text over the front of the lent list, and how long it is; 25 where the list is shorter

unfoldable pub text_check : List ℕ → List ℕ → Check
text_check text out = must (leb (length text) (length out)) ListTooShort

abbrev pub text_answer : List ℕ → List ℕ → Result ℕ Refusal
text_answer text out = answer (text_check text out) (length text)

abbrev pub text_left : List ℕ → List ℕ → List ℕ
text_left text out = leaves (text_check text out) (over text out) out
