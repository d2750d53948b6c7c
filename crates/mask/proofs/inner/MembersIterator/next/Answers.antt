-- `mask::inner::Members::next` meets its contract. Assumes nothing.
use native.Mathlib.Omega.{arith}
use Rattle.mask.proofs.Nexts.{next_within}
use Rattle.mask.proofs.inner.MembersIterator.next.Goals as goal

pub overflow_add-self : goal.overflow_add-self
overflow_add-self c = omega (arith, next_within c.args.self.now.mask.len c.args.self.now.mask.words.now c.args.self.now.at c.args.self.now.within, c.next_member-member.ensures, c.if-member-self.false, c.args.self.now.mask.accepted.short)

pub invariant_of-self : goal.invariant_of-self
invariant_of-self c = record { within = omega (arith, next_within c.args.self.now.mask.len c.args.self.now.mask.words.now c.args.self.now.at c.args.self.now.within, c.next_member-member.ensures, c.if-member-self.false) }
