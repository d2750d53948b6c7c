-- x - x is 0 exactly for a finite x. Assumes nothing.
use mathlib.Core.Path.{◌≡◌, refl, ap, ◌∙◌}
use mathlib.Core.Bool.{Bool, true, false, not, cond}
use Prim.Native.Nat.compare
use Prim.Native.Nat.{ℕ, zero, suc, ◌-◌, ◌*◌, ◌%◌, ◌<◌, compare, Ordering}
use native.Mathlib.Nat.{zero-div, zero-mod, sub_self, mul-pos, mul-one, lt_irrefl, le_refl}
use borrow.Author.Tests.{le-ltb}
use lib.IntN.{pos}
use lib.Ieee.{Float, nan, inf, fin, binary64, add, sub, sum, eq, of_bits, up, down, round, size, nearest, units}
use lib.Ieee.Fits.{core, round_is, down_pos}
use Rattle.csr32.specs.Matrix.{finite}

above_zero : (u : ℕ) → 0 < u → compare 0 u ≡ Ordering.lt
above_zero zero h = absurd (lt_irrefl 0 h)
above_zero (suc u) h = compare.zero-suc u

-- nothing, rounded, is a zero of the sign asked for
pub round-zero : (s : Bool) (c : ℕ) → 0 < c → round binary64 s 0 c ≡ fin s 0 (pos 0)
unfolding size units
round-zero s c h =
    round_is binary64 s 0 c
    ∙ ap (λ (x : ℕ). core binary64 s 0 c (size x - 53)) (zero-div c)
    ∙ ap (λ (x : ℕ). units binary64 s (nearest x (compare (0 % (c * 1) * 2) (c * 1))) 0) (zero-div (c * 1))
    ∙ ap (λ (x : ℕ). units binary64 s (nearest 0 (compare (x * 2) (c * 1))) 0) (zero-mod (c * 1))
    ∙ ap (λ (x : ℕ). units binary64 s (nearest 0 (compare 0 x)) 0) (mul-one c)
    ∙ ap (λ (o : Ordering). units binary64 s (nearest 0 o) 0) (above_zero c h)

-- a number less itself
pub sum_self : (s : Bool) (a c : ℕ) → 0 < c → sum binary64 s a (not s) a c ≡ fin false 0 (pos 0)
unfolding sum
sum_self true a c h =
    ap (λ (b : Bool). cond b (round binary64 false (a - a) c) (round binary64 b (a - a) c)) (le-ltb a a (le_refl a))
    ∙ ap (λ (x : ℕ). round binary64 false x c) (sub_self a) ∙ round-zero false c h
sum_self false a c h =
    ap (λ (b : Bool). cond b (round binary64 true (a - a) c) (round binary64 false (a - a) c)) (le-ltb a a (le_refl a))
    ∙ ap (λ (x : ℕ). round binary64 false x c) (sub_self a) ∙ round-zero false c h

pub finite-test : (x : Float) → eq (sub binary64 x x) (of_bits binary64 0) ≡ finite x
unfolding sub add eq of_bits
finite-test nan = refl
finite-test (inf true) = refl
finite-test (inf false) = refl
finite-test (fin s m e) = ap (λ (y : Float). eq y (of_bits binary64 0)) (sum_self s (m * up e * down e) (down e * down e) (mul-pos (down_pos e) (down_pos e)))
