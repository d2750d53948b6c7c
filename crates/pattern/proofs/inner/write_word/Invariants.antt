-- `pattern::inner::write_word` meets its contract. The invariant: the numbers of the bits that are left are still to come. Assumes nothing.
use mathlib.Core.List.{List, map}
use Prim.Native.Nat.{ℕ, ◌+◌}
use Rattle.base.specs.Lists.{placed}
use Rattle.base.specs.Sets.{count_below}
use Rattle.word.specs.Bits.{bit_at, set_bits}
use Rattle.pattern.proofs.Coming.{Coming}
use Rattle.pattern.proofs.inner.write_word.Given as goal

-- the numbers of a word's set bits
abbrev pub numbers : ℕ → ℕ → ℕ → List ℕ
numbers first inside m = map (λ (b : ℕ). first + count_below b (bit_at inside)) (set_bits m)

abbrev pub invariant-loop-left : goal.invariant-loop-left
invariant-loop-left l =
    Coming (l.at + count_below 64 (bit_at l.bits)) (placed l.at (numbers l.first l.inside l.bits) l.initial.cols) l.next (numbers l.first l.inside l.left) l.cols

abbrev pub decreases-loop-left : goal.decreases-loop-left
decreases-loop-left l = l.left
