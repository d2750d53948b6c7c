-- What the word's methods answer.
use Rattle.std.specs.Prelude.{Bool, not, cond, ◌&&◌, ◌||◌, List, [], ◌∷◌, ℕ, zero, suc, ltb, leb}
use Rattle.std.specs.Prelude.{Result, Option, Some, None}
use Rattle.base.specs.Checks.{answer}
use Rattle.base.specs.declared.Refusal.{Refusal}
use Rattle.base.specs.declared.Refusal.TheVariants.{OutOfRange}
use Rattle.base.specs.Checks.{must}
use Rattle.base.specs.Sets.{count_below}
use Rattle.word.specs.Bits.{bit_at, set_bits}
use Rattle.word.specs.declared.Operation.{Operation}
use Rattle.word.specs.declared.Operation.TheVariants.{Union, Intersection, AndNot, Xor}

-- past the word no bit is set
abbrev pub contains_answer : ℕ → ℕ → Bool
contains_answer m k = ltb k 64 && bit_at m k

-- `rank(k)` counts set bits below k, for k from 0 to 64
abbrev pub rank_answer : ℕ → ℕ → Result ℕ Refusal
rank_answer m k = answer (must (leb k 64) OutOfRange) (count_below k (bit_at m))

-- element j of a list, from 0, or none
abbrev pub entry : List ℕ → ℕ → Option ℕ
entry [] j = None
entry (x ∷ l) zero = Some x
entry (x ∷ l) (suc j) = entry l j

-- `select(j)` is the j-th set bit from 0, or none
abbrev pub select_answer : ℕ → ℕ → Option ℕ
select_answer m j = entry (set_bits m) j

-- what an operation does to one bit
abbrev pub on : Operation → Bool → Bool → Bool
on Union s t = s || t
on Intersection s t = s && t
on AndNot s t = s && not t
on Xor s t = cond s (not t) t
