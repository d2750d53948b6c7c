-- `mask::inner::Mask::write_members`: n members are written, and those still to come are the bits that are left of the word, then later words'.
use Rattle.std.proofs.Common.{◌*◌, ◌+◌, ℕ, ◌++◌, map}
use Rattle.base.specs.Sets.{members_below}
use Rattle.word.specs.Bits.{set_bits}
use Rattle.mask.specs.Mask.{in_mask}
use Rattle.mask.proofs.Passes.{ahead, Written}
use Rattle.mask.proofs.inner.Mask.write_members.Given as goal

abbrev pub invariant-loop-w : goal.invariant-loop-w
invariant-loop-w l = Written (members_below l.self.len (in_mask l.self.words.now)) (ahead l.self.words.now l.w) l.fn.out l.out l.n

abbrev pub invariant-loop-bit : goal.invariant-loop-bit
invariant-loop-bit l =
    Written (members_below l.self.len (in_mask l.self.words.now)) (map (λ (i : ℕ). 64 * l.w + i) (set_bits l.bit-iterator.left) ++ ahead l.self.words.now (l.w + 1)) l.fn.out l.out l.n
