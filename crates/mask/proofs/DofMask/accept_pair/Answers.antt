use Rattle.std.proofs.Common.{sym, subst, IfErr, ◌≡◌, Err}
use Rattle.base.proofs.Checks.{handed, group-stop}
use Rattle.mask.specs.Answers.{pair_check}
use Rattle.mask.proofs.DofMask.accept_pair.Goals as goal

pub returns-in_err-mask-clause-refused : goal.returns-in_err-mask-clause-refused
unfolding pair_check
returns-in_err-mask-clause-refused c =
    subst (λ r. IfErr r (λ e. pair_check c.args.self.len c.args.self.words.now c.args.other.len c.args.other.words.now ≡ Err e))
    (sym (handed _ _ c.from_residual.ensures.1)) (sym (group-stop _ _ _ c.in_err-mask.ensures.refused))
