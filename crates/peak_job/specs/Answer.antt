-- The job program: the checks of a job, and the text that answers it.
use Rattle.std.specs.Prelude.{Bool, ◌&&◌, List, ℕ, leb, Float, length, replicate}
use Rattle.base.specs.Checks.{Check}
use Rattle.base.specs.declared.Refusal.TheVariants.{OverLimit, OutOfRange, MalformedJob}
use Rattle.base.specs.Checks.{must, ◌then◌, after}
use Rattle.base.specs.Lists.{every, below, is_in, list_from}
use Rattle.base.specs.Sets.{members_below}
use Rattle.mask.specs.Mask.{in_mask, mask_words}
use Rattle.csr32.specs.Matrix.{matrix_check, stored}
use Rattle.dof_layout.specs.Layout.{offsets_of}
use Rattle.dof_layout.specs.Answers.{square_check}
use Rattle.graph.specs.Network.{hops_made, frontier_words}
use Rattle.pattern.specs.Pattern.{one, pattern_ptr, pattern_columns}
use Rattle.cutting.specs.Cut.{network_of, region_of}
use Rattle.job_text.specs.Job.{Job, is_job, job_of}
use Rattle.job_text.specs.Answer.{result_lines, refused_text}

-- ---- the checks

-- 1: size over 256, or a list longer than its array; blocks and cols have one place less, for offsets and source pointers
unfoldable pub in_arrays : Job → Bool
in_arrays j =
    leb j.size 256
    && leb (length j.blocks) 1023
    && leb (length j.ptr) 1024
    && leb (length j.cols) 1023
    && leb (length j.seeds) 1024

-- a block has kind 1, its id by position, field 0
abbrev pub kinds_of : List ℕ → List ℕ
kinds_of blocks = replicate (length blocks) 1

abbrev pub ids_of : List ℕ → List ℕ
ids_of blocks = list_from (λ b. b) (length blocks) 0

abbrev pub fields_of : List ℕ → List ℕ
fields_of blocks = replicate (length blocks) 0

-- every value is 1.0
abbrev pub values_of : List ℕ → List Float
values_of cols = replicate (length cols) one

-- a seed not below size is 13; then the prepared region's order. Its mask and its lists the program makes itself: they are not refused
unfoldable pub ask_check : Job → Check
ask_check j =
    must (every (below j.size) j.seeds) OutOfRange
    then matrix_check j.size j.size j.ptr j.cols (values_of j.cols)
    then square_check (kinds_of j.blocks) (ids_of j.blocks) (fields_of j.blocks) j.blocks (offsets_of j.blocks) j.size j.size

-- 27 over the whole text, then 1, then the rest
unfoldable pub job_check : List ℕ → Check
job_check t = must (is_job t) MalformedJob then must (in_arrays (job_of t)) OverLimit then ask_check (job_of t)

-- ---- the answer

-- the seeds' mask
unfoldable pub seed_words : Job → List ℕ
seed_words j = mask_words j.size (λ i. is_in i j.seeds)

-- what a prepared region holds, as the five lines: side, matrix, blocks, seeds' mask, hops
unfoldable pub region_text : ℕ → List ℕ → List ℕ → List ℕ → List ℕ → ℕ → List ℕ
region_text n ptr cols blocks seeds h =
    let g = network_of ptr cols blocks in
    let p = region_of ptr cols blocks seeds h in
    result_lines
    (members_below n p)
    (members_below n (in_mask (frontier_words g seeds h)))
    (hops_made g (in_mask seeds) h)
    (pattern_ptr n p (stored ptr cols))
    (pattern_columns n p (stored ptr cols))

-- members, frontier, hops completed, pattern pointers, pattern columns
unfoldable pub result_text : Job → List ℕ
result_text j = region_text j.size j.ptr j.cols j.blocks (seed_words j) j.hops

-- on refusal only the line refused= and the number
abbrev pub text_of : Check → List ℕ → List ℕ
text_of check text = after check text refused_text

unfoldable pub answer_text : List ℕ → List ℕ
answer_text t = text_of (job_check t) (result_text (job_of t))
