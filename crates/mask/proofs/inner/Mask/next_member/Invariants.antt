-- `mask::inner::Mask::next_member`: no member from `from` up to word w.
use Rattle.std.proofs.Common.{◌*◌}
use Rattle.mask.proofs.Nexts.{NoMember}
use Rattle.mask.proofs.inner.Mask.next_member.Given as goal

abbrev pub invariant-loop-w : goal.invariant-loop-w
invariant-loop-w l = NoMember l.self.words.now l.from (64 * l.w)
