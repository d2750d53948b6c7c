-- The bits of a word as a set, and the word of a set.
use Rattle.std.specs.Prelude.{Bool, List, ℕ, zero, suc, ◌+◌, ◌*◌, ◌/◌, ◌%◌, ◌^◌, eqb}
use Rattle.base.specs.Sets.{one_if, members_below}

-- bit i of m is set, the lowest being bit 0
unfoldable pub bit_at : ℕ → ℕ → Bool
bit_at m i = eqb (m / 2 ^ i % 2) 1

-- the set bits of a word, in rising order
abbrev pub set_bits : ℕ → List ℕ
set_bits m = members_below 64 (bit_at m)

-- the number whose k lowest bits are p at, p (at + 1), …
unfoldable pub word_from : (ℕ → Bool) → ℕ → ℕ → ℕ
word_from p zero at = 0
word_from p (suc k) at = one_if (p at) + 2 * word_from p k (suc at)

-- word w of a set: bit j is number 64 w + j
abbrev pub word_of : (ℕ → Bool) → ℕ → ℕ
word_of p w = word_from p 64 (64 * w)
