-- Ratios of whole numbers as f64: what the two arms of a division answer, and that the conversions of 32-bit numbers are exact. Assumes nothing.
use mathlib.Core.Path.{◌≡◌, sym, ap}
use mathlib.Core.Bool.{Bool, cond}
use Prim.Native.Nat.{ℕ, ◌^◌, ◌<◌}
use native.Mathlib.Omega.{arith}
use borrow.Author.Tests.{eq-eqb, ne_eqb}
use lib.Dec.{le→leb}
use lib.Ieee.{binary64, div, of_int, of_bits, in_float, to_unsigned}
use lib.Ieee.Back.{unsigned_back}
use lib.IntN.{pos}
use Rattle.topology.specs.Statistics.{ratio}

pub ratio-none : (a b : ℕ) → b ≡ 0 → of_bits binary64 0 ≡ ratio a b
unfolding ratio
ratio-none a b e = sym (ap (λ (t : Bool). cond t (of_bits binary64 0) (div binary64 (of_int binary64 (pos a)) (of_int binary64 (pos b)))) (eq-eqb b 0 e))

pub ratio-some : (a b : ℕ) → (b ≡ 0 → ⊥) → div binary64 (of_int binary64 (pos a)) (of_int binary64 (pos b)) ≡ ratio a b
unfolding ratio
ratio-some a b n = sym (ap (λ (t : Bool). cond t (of_bits binary64 0) (div binary64 (of_int binary64 (pos a)) (of_int binary64 (pos b)))) (ne_eqb b 0 n))

-- a 32-bit number as an f64 is that number: read back it is the same
pub exact : (n : ℕ) → n < 2 ^ 32 → to_unsigned 32 (of_int binary64 (pos n)) ≡ n
unfolding in_float
exact n h = (unsigned_back binary64 32 n (le→leb n (2 ^ 53) (omega arith)) h).1

pub ruleset ratios = (ratio-none, ratio-some)
