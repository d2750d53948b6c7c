-- `mask::inner::Mask::next_member` meets its contract. Assumes nothing.
use Rattle.std.proofs.Common.{arith}
use Rattle.base.proofs.Sets.{none_from}
use Rattle.mask.specs.Mask.{in_mask}
use Rattle.mask.proofs.Masks.{is-length}
use Rattle.mask.proofs.Nexts.{next_split, next_later, next_none}
use Rattle.mask.proofs.inner.Mask.next_member.Goals as goal

pub returns-then-from-self : goal.returns-then-from-self
returns-then-from-self c = none_from (in_mask c.args.self.words.now) _ _ c.requires (λ i a b t. absurd (omega arith))

pub returns-then-ahead-ne0 : goal.returns-then-ahead-ne0
returns-then-ahead-ne0 c = next_split _ _ c.args.self.accepted _ (omega (arith, is-length _ _ c.args.self.accepted)) c.if-ahead-ne0.true

pub returns-then-bits-ne0 : goal.returns-then-bits-ne0
returns-then-bits-ne0 c = next_later _ _ c.args.self.accepted _ _ (omega arith) (omega arith) c.loop-w.invariant c.if-bits-ne0.true

pub returns : goal.returns
returns c = next_none _ _ c.args.self.accepted _ c.loop-w.w c.requires (omega arith) c.loop-w.invariant
