-- `peak_job::inner::judge` meets its contract. Assumes nothing.
use Rattle.std.proofs.Common.{ℕ, List, Option, sym, ap, ◌∙◌}
use Rattle.job_text.specs.Answer.{text_answer, text_left}
use Rattle.job_text.specs.declared.JobRead.{JobRead}
use Rattle.peak_job.specs.Steps.{judged_text}
use Rattle.peak_job.proofs.Jobs.{judged-stop, judged-on}
use Rattle.peak_job.proofs.inner.judge.Goals as goal

pub returns-then-not-fits : goal.returns-then-not-fits
returns-then-not-fits c =
    let text = λ (o : Option JobRead). judged_text o c.args.blocks.now c.args.ptr.now c.args.cols.now c.args.seeds.now in
    let same = sym (ap text c.in-Some.is ∙ judged-stop c.in-Some.job c.args.blocks.now c.args.ptr.now c.args.cols.now c.args.seeds.now (sym c.fits.ensures ∙ c.if-not-fits.true)) in record {
      value = c.refuse-then-not-fits.ensures.value ∙ ap (λ (x : List ℕ). text_answer x c.args.out.now) same;
      out_after = c.refuse-then-not-fits.ensures.out_after ∙ ap (λ (x : List ℕ). text_left x c.args.out.now) same;
    }

pub returns : goal.returns
returns c =
    let text = λ (o : Option JobRead). judged_text o c.args.blocks.now c.args.ptr.now c.args.cols.now c.args.seeds.now in
    let same = sym (ap text c.in-Some.is ∙ judged-on c.in-Some.job c.args.blocks.now c.args.ptr.now c.args.cols.now c.args.seeds.now (sym c.fits.ensures ∙ c.if-not-fits.false)) in record {
      value = c.answer.ensures.value ∙ ap (λ (x : List ℕ). text_answer x c.args.out.now) same;
      out_after = c.answer.ensures.out_after ∙ ap (λ (x : List ℕ). text_left x c.args.out.now) same;
    }
