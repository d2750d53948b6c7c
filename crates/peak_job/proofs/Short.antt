-- How long an answer can be: the program's list takes every one. Assumes nothing.
use mathlib.Core.Path.{◌≡◌, refl}
use Rattle.std.specs.Prelude.{Ok, Err}
use Rattle.base.specs.Checks.{Check}
use mathlib.Core.Bool.{Bool, true}
use mathlib.Core.List.{List}
use Prim.Native.Nat.{ℕ, ◌≤◌}
use native.Mathlib.Omega.{arith}
use borrow.Author.Tests.{leb-true}
use lib.Dec.{leb}
use lib.ListN.{length}
use Rattle.base.specs.Sets.{members_below}
use Rattle.base.specs.declared.Refusal.{Refusal}
use Rattle.base.proofs.Checks.{passed, both-passed}
use Rattle.base.proofs.Sets.{count-le, count-members}
use Rattle.csr32.specs.Matrix.{stored}
use Rattle.csr32.proofs.Matrix.{accepted}
use Rattle.mask.specs.Mask.{in_mask}
use Rattle.graph.specs.Network.{frontier_words, hops_made}
use Rattle.pattern.specs.Pattern.{pattern_ptr, pattern_columns}
use Rattle.pattern.proofs.Writing.{ptr-length}
use Rattle.numeric_plan.proofs.Pairs.{pattern-pairs}
use Rattle.cutting.specs.Cut.{network_of, region_of}
use Rattle.cutting.proofs.Local.{few_pairs}
use Rattle.text_writing.specs.Text.{decimal}
use Rattle.text_writing.proofs.Digits.{decimal-most}
use Rattle.text_writing.proofs.Lists.{numbers-most, length-line}
use Rattle.job_text.specs.Job.{Job, job_of}
use Rattle.job_text.specs.Answer.{refused_key, refused_text}
use Rattle.job_text.proofs.Lines.{lines-length}
use Rattle.peak_job.specs.Answer.{in_arrays, values_of, ask_check, job_check, seed_words, region_text, result_text, text_of, answer_text}
use Rattle.peak_job.proofs.Jobs.{of-five}
use Rattle.base.specs.Checks.{refusal_number}

-- the region of a small matrix in five lines
region-short : (j : Job) → in_arrays j ≡ true → ask_check j ≡ Ok tt → length (result_text j) ≤ 40960
unfolding in_arrays ask_check result_text region_text
region-short j f e =
    let n = j.size in
    let w = of-five (leb n 256) (leb (length j.blocks) 1023) (leb (length j.ptr) 1024) (leb (length j.cols) 1023) (leb (length j.seeds) 1024) f in
    let m = (accepted n n j.ptr j.cols (values_of j.cols) (both-passed _ _ (both-passed _ _ e).1).0).matrix in
    let p : ℕ → Bool = region_of j.ptr j.cols j.blocks (seed_words j) j.hops in
    let q : ℕ → Bool = in_mask (frontier_words (network_of j.ptr j.cols j.blocks) (seed_words j) j.hops) in
    let s : ℕ → ℕ → Bool = stored j.ptr j.cols in
    let h : ℕ = hops_made (network_of j.ptr j.cols j.blocks) (in_mask (seed_words j)) j.hops in
    omega (
      arith,
      lines-length (members_below n p) (members_below n q) h (pattern_ptr n p s) (pattern_columns n p s),
      leb-true n 256 w.0,
      leb-true (length j.cols) 1023 w.3,
      numbers-most (members_below n p),
      count-members n p,
      count-le n p,
      numbers-most (members_below n q),
      count-members n q,
      count-le n q,
      decimal-most h,
      numbers-most (pattern_ptr n p s),
      ptr-length n s p,
      numbers-most (pattern_columns n p s),
      pattern-pairs n p s,
      few_pairs n p s j.ptr j.cols m refl,
    )

refusal-short : (r : Refusal) → length (refused_text r) ≤ 40960
refusal-short r = omega (arith, length-line refused_key (decimal (refusal_number r)), decimal-most (refusal_number r))

either : (check : Check) (x : List ℕ) → (check ≡ Ok tt → length x ≤ 40960) → length (text_of check x) ≤ 40960
either (Ok tt) x h = h refl
either (Err r) x h = refusal-short r

pub answer-short : (t : List ℕ) → length (answer_text t) ≤ 40960
unfolding answer_text job_check
answer-short t =
    either (job_check t) (result_text (job_of t))
    (λ e.
    let b = both-passed _ _ (both-passed _ _ e).1 in
    region-short (job_of t) (passed _ _ b.0) b.1)
