-- `peak_job::run` meets its contract. Assumes nothing.
use Rattle.std.proofs.Common.{◌≡◌, ℕ, List, Option, length, replicate, ap, ◌∙◌}
use Rattle.std.specs.Result.{result_ok}
use lib.ListN.{length-replicate}
use Rattle.job_text.specs.Answer.{text_answer, text_left}
use Rattle.job_text.proofs.Texts.{job-told}
use Rattle.job_text.specs.declared.JobRead.{JobRead}
use Rattle.peak_job.specs.Steps.{judged_text}
use Rattle.peak_job.proofs.Jobs.{judged-is}
use Rattle.peak_job.proofs.run.Goals as goal

pub returns : goal.returns
returns c =
    let z : List ℕ = replicate {A = ℕ} 1024 0 in
    let long : length z ≡ 1024 = length-replicate {A = ℕ} 1024 0 in
    let j = c.read_job-job in
    let e = j.ensures in
    let same = ap (λ (o : Option JobRead). judged_text o j.new.blocks j.new.ptr j.new.cols j.new.seeds) (c.ok.ensures.value ∙ ap result_ok e.value ∙ job-told c.args.input.now) ∙ judged-is c.args.input.now _ _ _ _ z z z z long long long long e.components e.pointers e.columns e.selected in record {
      value = c.judge.ensures.value ∙ ap (λ (x : List ℕ). text_answer x c.args.out.now) same;
      out_after = c.judge.ensures.out_after ∙ ap (λ (x : List ℕ). text_left x c.args.out.now) same;
    }
