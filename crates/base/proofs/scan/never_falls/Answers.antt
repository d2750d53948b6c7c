use Rattle.std.proofs.Common.{◌-◌, ◌∙◌, sym, drop, leb, arith, length-drop}
use Rattle.base.proofs.Lists.{pairwise-short}
use Rattle.base.proofs.scan.never_falls.Goals as goal

pub returns : goal.returns
returns c = sym (c.loop-i.invariant ∙ pairwise-short leb (drop (c.loop-i.i - 1) c.args.s.now) (simp length-drop (omega arith)))
