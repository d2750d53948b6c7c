-- A job's parts of fixed arrays, and its checks step by step. Assumes nothing.
use mathlib.Core.Path.{◌≡◌, refl, sym, ap, ◌∙◌}
use Rattle.std.specs.Prelude.{Ok, Err, Some}
use Rattle.std.specs.Bool.{then_some}
use Rattle.base.specs.Checks.{Check}
use Rattle.base.specs.declared.Refusal.TheVariants.{OverLimit, MalformedJob, OutOfRange, ListTooShort}
use mathlib.Core.Bool.{Bool, true, false, ◌&&◌}
use mathlib.Core.List.{List}
use Prim.Native.Nat.{ℕ, ◌≤◌, ◌<◌}
use native.Mathlib.Omega.{arith}
use borrow.Author.Tests.{le-leb, leb-true}
use lib.Dec.{leb}
use lib.ListN.{length, get_or, take}
use lib.Seq.{take_all}
use Rattle.base.specs.Checks.{must, ◌then◌, side_limit}
use Rattle.base.specs.Lists.{every, below, over}
use Rattle.base.specs.declared.Refusal.{Refusal}
use Rattle.base.proofs.Checks.{last-pass, group-stop, then_next, then-none}
use Rattle.base.proofs.Bools.{and_left, and_right}
use Rattle.base.proofs.Lists.{over-own}
use Rattle.base.proofs.Sets.{sum-most}
use Rattle.mask.specs.Mask.{words_needed}
use Rattle.mask.specs.Answers.{from_check}
use Rattle.dof_layout.specs.Layout.{start_of, total_of}
use Rattle.job_text.specs.Job.{Job, is_job, job_of, figures_of, job_found}
use Rattle.job_text.specs.Answer.{refused_text}
use Rattle.job_text.specs.declared.JobRead.{JobRead}
use Rattle.peak_job.specs.Answer.{in_arrays, ask_check, job_check, result_text, text_of, answer_text}
use Rattle.peak_job.specs.Steps.{read_fits, laid_check, asked_text, job_read, judged_text}
use Rattle.peak_job.proofs.Regions.{le-25}

-- the blocks of a job have far fewer components than 64 bits hold
pub total-fits : (blocks : List ℕ) → ((k : ℕ) → get_or blocks k 0 < 4294967296) → length blocks ≤ 1023 → total_of blocks < 18446744073709551616
unfolding start_of
total-fits blocks f h = omega (arith, sum-most (length blocks) 4294967296 (λ k. get_or blocks k 0) (λ k l. omega (arith, f k)))

-- ---- the checks

-- of a mask's own checks only 13 can refuse
pub from_is : (n : ℕ) (seeds out : List ℕ) → n ≤ 256 → 4 ≤ length out → from_check n seeds out ≡ must (every (below n) seeds) OutOfRange
unfolding from_check
from_is n seeds out few room =
    let side : must (leb n side_limit) OverLimit ≡ (Ok tt) = sym (last-pass _ _ _ (le-leb n side_limit (omega (arith, few))) refl) in
    let words : words_needed n ≤ length out = omega (arith, few, room) in
    then_next (must (leb n side_limit) OverLimit) (must (every (below n) seeds) OutOfRange then must (leb (words_needed n) (length out)) ListTooShort) side
    ∙ ap (λ (x : Check). must (every (below n) seeds) OutOfRange then x) (le-25 (words_needed n) (length out) words)
    ∙ then-none (must (every (below n) seeds) OutOfRange)

pub ask-stop : (j : Job) (q : Refusal) → must (every (below j.size) j.seeds) OutOfRange ≡ Err q → ask_check j ≡ Err q
unfolding ask_check
ask-stop j q e = sym (group-stop (must (every (below j.size) j.seeds) OutOfRange) (laid_check j.size j.blocks j.ptr j.cols) q e)

pub ask-on : (j : Job) → must (every (below j.size) j.seeds) OutOfRange ≡ Ok tt → ask_check j ≡ laid_check j.size j.blocks j.ptr j.cols
unfolding ask_check
ask-on j e = then_next (must (every (below j.size) j.seeds) OutOfRange) (laid_check j.size j.blocks j.ptr j.cols) e

-- 1, and what it lets pass
module _ (r : JobRead) (blocks ptr cols seeds : List ℕ) where
  pub judged-stop : read_fits r ≡ false → judged_text (Some r) blocks ptr cols seeds ≡ refused_text OverLimit
  unfolding must ◌then◌
  judged-stop e = ap (λ (b : Bool). text_of (must b OverLimit then ask_check (job_read r blocks ptr cols seeds)) (result_text (job_read r blocks ptr cols seeds))) e

  pub judged-on : read_fits r ≡ true → judged_text (Some r) blocks ptr cols seeds ≡ asked_text (job_read r blocks ptr cols seeds)
  unfolding must ◌then◌
  judged-on e = ap (λ (b : Bool). text_of (must b OverLimit then ask_check (job_read r blocks ptr cols seeds)) (result_text (job_read r blocks ptr cols seeds))) e

pub of-five : (a b c d e : Bool) → (a && b && c && d && e) ≡ true → (a ≡ true) × (b ≡ true) × (c ≡ true) × (d ≡ true) × (e ≡ true)
of-five a b c d e h =
    let h4 = and_left (a && b && c && d) e h in
    let h3 = and_left (a && b && c) d h4 in
    let h2 = and_left (a && b) c h3 in
    (and_left a b h2, and_right a b h2, and_right (a && b) c h3, and_right (a && b && c) d h4, and_right (a && b && c && d) e h)

-- ---- a job that was read

-- a list's front in an array that has room for it
own-list : (B z l : List ℕ) (k : ℕ) → k ≡ length B → k ≤ 1024 → length z ≡ 1024 → l ≡ over (take (length z) B) z → take k l ≡ B
own-list B z l k e few long o =
    let all : take (length z) B ≡ B = take_all (length z) B (omega arith) in
    ap (take k) (o ∙ ap (λ (x : List ℕ). over x z) all) ∙ over-own B z k (sym e)

-- past 1 it makes no difference which job it let pass
same-job : (fit : Bool) (i j : Job) → (fit ≡ true → i ≡ j) → text_of (must fit OverLimit then ask_check i) (result_text i) ≡ text_of (must fit OverLimit then ask_check j) (result_text j)
unfolding must ◌then◌
same-job false i j h = refl
same-job true i j h = ap asked_text (h refl)

module _ (t blocks ptr cols seeds zb zp zc zs : List ℕ) (lb : length zb ≡ 1024) (lp : length zp ≡ 1024) (lc : length zc ≡ 1024) (ls : length zs ≡ 1024)
    (ob : blocks ≡ over (take (length zb) (job_of t).blocks) zb) (op : ptr ≡ over (take (length zp) (job_of t).ptr) zp) (oc : cols ≡ over (take (length zc) (job_of t).cols) zc) (os : seeds ≡ over (take (length zs) (job_of t).seeds) zs) where
  job_is : in_arrays (job_of t) ≡ true → job_read (figures_of (job_of t)) blocks ptr cols seeds ≡ job_of t
  unfolding in_arrays
  job_is f i =
      let j : Job = job_of t in
      let w = of-five (leb j.size 256) (leb (length j.blocks) 1023) (leb (length j.ptr) 1024) (leb (length j.cols) 1023) (leb (length j.seeds) 1024) f in
      record {
        size = j.size;
        blocks = own-list j.blocks zb blocks (length j.blocks) refl (omega (arith, leb-true (length j.blocks) 1023 w.1)) lb ob i;
        ptr = own-list j.ptr zp ptr (length j.ptr) refl (leb-true (length j.ptr) 1024 w.2) lp op i;
        cols = own-list j.cols zc cols (length j.cols) refl (omega (arith, leb-true (length j.cols) 1023 w.3)) lc oc i;
        seeds = own-list j.seeds zs seeds (length j.seeds) refl (leb-true (length j.seeds) 1024 w.4) ls os i;
        hops = j.hops;
      }

  pub judged-is : judged_text (job_found t) blocks ptr cols seeds ≡ answer_text t
  unfolding answer_text job_check must ◌then◌ in_arrays
  judged-is = go (is_job t)
    where
      go : (good : Bool) → judged_text (then_some good (figures_of (job_of t))) blocks ptr cols seeds ≡ text_of (must good MalformedJob then must (in_arrays (job_of t)) OverLimit then ask_check (job_of t)) (result_text (job_of t))
      go true = same-job (in_arrays (job_of t)) (job_read (figures_of (job_of t)) blocks ptr cols seeds) (job_of t) job_is
      go false = refl
