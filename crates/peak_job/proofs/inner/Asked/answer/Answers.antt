-- `peak_job::inner::Asked::answer` meets its contract. Assumes nothing.
use mathlib.Core.Path.{◌≡◌, sym, ap, ap₂, ◌∙◌}
use Rattle.std.specs.Prelude.{Ok, Err}
use Rattle.base.specs.Checks.{Check}
use Rattle.base.specs.declared.Refusal.TheVariants.{OutOfRange}
use mathlib.Core.List.{List}
use Prim.Native.Nat.{ℕ}
use native.Mathlib.Omega.{arith}
use lib.ListN.{take, replicate, length-replicate}
use Rattle.base.specs.Checks.{must}
use Rattle.base.specs.Lists.{every, below, is_in}
use Rattle.base.proofs.Lists.{over-own}
use Rattle.mask.specs.Mask.{words_needed, mask_words, mask_check}
use Rattle.mask.specs.Answers.{from_check}
use Rattle.mask.proofs.Masks.{mask-length, mask-accepted}
use Rattle.job_text.specs.Job.{Job}
use Rattle.job_text.specs.Answer.{text_answer, text_left}
use Rattle.peak_job.specs.Answer.{ask_check, seed_words, region_text, result_text, text_of}
use Rattle.peak_job.specs.Steps.{laid_check}
use Rattle.peak_job.specs.Asked.{asked}
use Rattle.peak_job.proofs.Regions.{left_is}
use Rattle.peak_job.proofs.Jobs.{from_is, ask-stop, ask-on}
use Rattle.peak_job.proofs.inner.Asked.answer.Goals.{Start, After-words_for-need}
use Rattle.peak_job.proofs.inner.Asked.answer.Goals as goal

-- the array that the mask is written to
abbrev zeros : List ℕ
zeros = replicate 4 0

-- the mask's check, there, is that of the seeds
only : (s : Start) → let j = asked s.args.self in from_check j.size j.seeds zeros ≡ must (every (below j.size) j.seeds) OutOfRange
only s = let j = asked s.args.self in from_is j.size j.seeds zeros s.args.self.few.0 (omega (arith, length-replicate {A = ℕ} 4 0))

-- a mask that was written
module _ (c : After-words_for-need) where
  abbrev j : Job
  j = asked c.args.self

  ok : from_check j.size j.seeds zeros ≡ Ok tt
  ok = sym c.from_indices.ensures.value ∙ c.in-Ok.is

  part : take c.words_for-need.result c.from_indices.new.out ≡ seed_words j
  unfolding seed_words
  part =
      ap₂ (λ (m : ℕ) (l : List ℕ). take m l) c.words_for-need.ensures (left_is _ _ _ _ c.from_indices.ensures.out_after ok)
      ∙ over-own (mask_words j.size (λ i. is_in i j.seeds)) zeros (words_needed j.size) (mask-length j.size (λ i. is_in i j.seeds))

pub lay_out-requires : goal.lay_out-requires
unfolding seed_words
lay_out-requires c =
    let n = c.args.self.size in
    ap (mask_check n) (part (goal.at.lay_out-requires c).After-words_for-need) ∙ mask-accepted n (λ i. is_in i c.args.self.seeds.now) (omega (arith, c.args.self.few.0))

pub returns-in-Err : goal.returns-in-Err
returns-in-Err c =
    let s = (goal.at.returns-in-Err c).Start in
    let j : Job = asked c.args.self in
    let e : ask_check j ≡ Err _ = ask-stop j _ (sym (only s) ∙ sym c.from_indices.ensures.value ∙ c.in-Err.is) in
    let same = sym (ap (λ (x : Check). text_of x (result_text j)) e) in record {
      value = c.refuse.ensures.value ∙ ap (λ (x : List ℕ). text_answer x c.args.out.now) same;
      out_after = c.refuse.ensures.out_after ∙ ap (λ (x : List ℕ). text_left x c.args.out.now) same;
    }

pub returns-in-Ok : goal.returns-in-Ok
unfolding result_text
returns-in-Ok c =
    let p = goal.at.returns-in-Ok c in
    let j : Job = asked c.args.self in
    let check : ask_check j ≡ laid_check j.size j.blocks j.ptr j.cols = ask-on j (sym (only p.Start) ∙ ok p.After-words_for-need) in
    let same : text_of (laid_check j.size j.blocks j.ptr j.cols) (region_text j.size j.ptr j.cols j.blocks (take c.words_for-need.result c.from_indices.new.out) j.hops) ≡ text_of (ask_check j) (result_text j) =
    λ i. text_of (sym check i) (region_text j.size j.ptr j.cols j.blocks (part p.After-words_for-need i) j.hops) in record {
      value = c.lay_out.ensures.value ∙ ap (λ (x : List ℕ). text_answer x c.args.out.now) same;
      out_after = c.lay_out.ensures.out_after ∙ ap (λ (x : List ℕ). text_left x c.args.out.now) same;
    }
