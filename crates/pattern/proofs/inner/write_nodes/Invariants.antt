-- `pattern::inner::write_nodes` meets its contract. The invariants: still to come are the members of the word's bits that are left, then those of later
-- words. Assumes nothing.
use mathlib.Core.List.{List, map, ◌++◌}
use Prim.Native.Nat.{ℕ, ◌+◌, ◌*◌}
use Rattle.base.specs.Lists.{over}
use Rattle.base.specs.Sets.{count_below, members_below}
use Rattle.word.specs.Bits.{set_bits}
use Rattle.mask.specs.Mask.{in_mask}
use Rattle.mask.proofs.Passes.{ahead}
use Rattle.pattern.proofs.Coming.{Coming}
use Rattle.pattern.proofs.inner.write_nodes.Given as goal

-- the list that is written
abbrev pub members : ℕ → List ℕ → List ℕ
members n region = members_below n (in_mask region)

-- the members of a word of which these bits are left, then those of later words
abbrev pub left : List ℕ → ℕ → List ℕ → List ℕ
left region w bits = map (λ (i : ℕ). 64 * w + i) bits ++ ahead region (w + 1)

abbrev pub invariant-loop-bit : goal.invariant-loop-bit
invariant-loop-bit l = Coming (count_below l.region.len (in_mask l.region.words.now)) (over (members l.region.len l.region.words.now) l.fn.nodes) l.k (left l.region.words.now l.w (set_bits l.bit-iterator.left)) l.nodes

abbrev pub invariant-loop-w : goal.invariant-loop-w
invariant-loop-w l = Coming (count_below l.region.len (in_mask l.region.words.now)) (over (members l.region.len l.region.words.now) l.fn.nodes) l.k (ahead l.region.words.now l.w) l.nodes
