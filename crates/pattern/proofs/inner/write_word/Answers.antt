-- `pattern::inner::write_word` meets its contract. The invariant: the numbers of the bits that are left are still to come. Assumes nothing.
use mathlib.Core.Path.{◌≡◌, refl, ap, ◌∙◌}
use mathlib.Core.List.{◌∷◌, map}
use Prim.Native.Nat.{ℕ, ◌+◌, ◌-◌, ◌≤◌}
use native.Mathlib.Omega.{arith}
use lib.Bits.{bit_and}
use lib.Count.{count_trailing_zeros}
use lib.ListN.{length-map}
use Rattle.base.specs.Sets.{count_below}
use Rattle.base.proofs.Sets.{count-members, count-le}
use Rattle.word.specs.Bits.{bit_at, set_bits}
use Rattle.word.proofs.Answers.{rank-in}
use Rattle.word.proofs.Bits.{first_bit, lowest, no_bits}
use Rattle.pattern.proofs.Coming.{coming_none, coming_in, coming_next}
use Rattle.pattern.proofs.inner.write_word.Invariants.{numbers}
use Rattle.pattern.proofs.inner.write_word.Goals.{In-loop-left, Start}
use Rattle.pattern.proofs.inner.write_word.Goals as goal

module _ (c : In-loop-left) where
  -- the lowest bit that is left
  abbrev bit : ℕ
  bit = count_trailing_zeros 64 c.loop-left.left

  turn : numbers c.args.first c.args.inside c.loop-left.left
      ≡ (c.args.first + count_below bit (bit_at c.args.inside)) ∷ numbers c.args.first c.args.inside (bit_and c.loop-left.left (c.loop-left.left - 1))
  turn =
      ap (map (λ (b : ℕ). c.args.first + count_below b (bit_at c.args.inside))) (lowest 64 c.loop-left.left (omega arith) (omega arith))

pub loop-left-init : goal.loop-left-init
loop-left-init c = record { ends = ap (λ (k : ℕ). c.args.at + k) (length-map (set_bits c.args.bits) _ ∙ count-members 64 (bit_at c.args.bits)); makes = refl }

pub overflow_add-cols : goal.overflow_add-cols
overflow_add-cols c =
    let low = (first_bit 64 c.loop-left.left (omega arith) (omega arith)).0 in
    let few : count_below (count_trailing_zeros 64 c.loop-left.left) (bit_at c.args.inside) ≤ count_trailing_zeros 64 c.loop-left.left = count-le _ _ in
    omega (arith, rank-in c.args.inside (count_trailing_zeros 64 c.loop-left.left) low, few, low, c.requires.1)

pub bounds-cols-next : goal.bounds-cols-next
bounds-cols-next c = coming_in c.loop-left.invariant _ _ (turn (goal.at.bounds-cols-next c).In-loop-left) (omega arith)

pub loop-left-preserved : goal.loop-left-preserved
loop-left-preserved c =
    rw (rank-in c.args.inside (count_trailing_zeros 64 c.loop-left.left) (first_bit 64 c.loop-left.left (omega arith) (omega arith)).0)
    (coming_next c.loop-left.invariant _ _ (turn (goal.at.loop-left-preserved c).In-loop-left) (omega arith))

pub returns : goal.returns
returns c =
    let f : ℕ → ℕ = λ b. c.args.first + count_below b (bit_at c.args.inside) in
    let done = coming_none c.loop-left.invariant (ap (λ (m : ℕ). map f (set_bits m)) c.loop-left-test.false ∙ ap (map f) (no_bits 64)) in record {
      value = done.0;
      cols_after = done.1;
    }
