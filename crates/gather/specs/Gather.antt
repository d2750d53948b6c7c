-- gather_values: 1, 26, 11, 8, 25. A plan's pointers and sources say which entries each pair of the pattern has; a gather gives each pair one
-- value: copied where every pair has one source, otherwise summed from 0.0.
use Rattle.std.specs.Prelude.{Bool, false, cond, List, [], ◌∷◌, map, ℕ, ◌+◌, ◌-◌, leb, ltb, eqb, Float, pos, length, get_or}
use Rattle.std.specs.Prelude.{Result}
use Rattle.base.specs.Checks.{Check, answer}
use Rattle.base.specs.declared.Refusal.{Refusal}
use Rattle.base.specs.declared.Refusal.TheVariants.{OverLimit, NotFinite, ListTooShort, BadPointers}
use Rattle.std.specs.Float.{nan, fin, binary64}
use Rattle.std.specs.Float.Ieee.{add}
use Rattle.std.proofs.Math.Seq.{slice}
use Rattle.base.specs.Checks.{must, must_be, ◌then◌, leaves, entry_limit}
use Rattle.base.specs.Lists.{every, pairwise, rising, below, list_from, over}
use Rattle.csr32.specs.Matrix.{finite}

-- ---- sums

-- 0.0, the zero without a minus
abbrev pub plus_zero : Float
plus_zero = fin false 0 (pos 0)

-- the values added to a first number one after the other, each sum rounded: IEEE 754 addition
abbrev pub total : Float → List Float → Float
total sum [] = sum
total sum (x ∷ xs) = total (add binary64 sum x) xs

-- the values of a list of entries
abbrev pub values_of : List Float → List ℕ → List Float
values_of values = map (λ (e : ℕ). get_or values e nan)

-- the sum from 0.0 in stored order
abbrev pub sum_of : List Float → List ℕ → Float
sum_of values entries = total plus_zero (values_of values entries)

-- ---- a plan

-- the sources of pair j
abbrev pub sources_at : List ℕ → List ℕ → ℕ → List ℕ
sources_at ptr src j = slice (get_or ptr j 0) (get_or ptr (j + 1) 0) src

-- every pair has one source, found from the pointers
abbrev pub is_one_each : List ℕ → Bool
is_one_each = pairwise (λ (from to : ℕ). eqb to (from + 1))

abbrev pub summed : List ℕ → List ℕ → List Float → List Float
summed ptr src values = list_from (λ j. sum_of values (sources_at ptr src j)) (length ptr - 1) 0

-- a direct plan copies; otherwise every pair sums, single ones too
unfoldable pub gathered : List ℕ → List ℕ → List Float → List Float
gathered ptr src values = cond (is_one_each ptr) (values_of values src) (summed ptr src values)

-- ---- the call

-- 1; the plan, 26; the values' length, 11; the values, 8; 25
unfoldable pub gather_check : List ℕ → List ℕ → ℕ → List Float → List Float → Check
gather_check ptr src value_len values out =
    must (leb (length src) entry_limit) OverLimit
    then must (leb (length values) entry_limit) OverLimit
    then must (ltb 0 (length ptr)) BadPointers
    then must (eqb (get_or ptr 0 0) 0) BadPointers
    then must (rising ptr) BadPointers
    then must (eqb (get_or ptr (length ptr - 1) 0) (length src)) BadPointers
    then must (every (below value_len) src) BadPointers
    then must_be value_len (length values)
    then must (every finite values) NotFinite
    then must (leb (length ptr - 1) (length out)) ListTooShort

abbrev pub gather_answer : Check → List ℕ → Result ℕ Refusal
gather_answer check ptr = answer check (length ptr - 1)

abbrev pub gather_left : Check → List ℕ → List ℕ → List Float → List Float → List Float
gather_left check ptr src values out = leaves check (over (gathered ptr src values) out) out
