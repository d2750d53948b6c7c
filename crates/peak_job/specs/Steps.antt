-- What the steps of a job hand on to one another; no caller of the API needs it.
use Rattle.std.specs.Prelude.{Bool, ◌&&◌, List, ℕ, ◌≤◌, leb, length, take}
use Rattle.std.specs.Prelude.{Option, Some, None}
use Rattle.base.specs.Checks.{Check}
use Rattle.base.specs.declared.Refusal.TheVariants.{OverLimit, MalformedJob}
use Rattle.base.specs.Checks.{must, ◌then◌}
use Rattle.csr32.specs.Matrix.{matrix_check}
use Rattle.dof_layout.specs.Layout.{offsets_of}
use Rattle.dof_layout.specs.Answers.{square_check}
use Rattle.job_text.specs.Job.{Job}
use Rattle.job_text.specs.Answer.{refused_text}
use Rattle.job_text.specs.declared.JobRead.{JobRead}
use Rattle.peak_job.specs.Answer.{kinds_of, ids_of, fields_of, values_of, ask_check, result_text, text_of}

-- its figures have room in the arrays
abbrev pub read_fits : JobRead → Bool
read_fits r = leb r.size 256 && leb r.blocks 1023 && leb r.pointers 1024 && leb r.columns 1023 && leb r.seeds 1024

-- lists with room for 1,024 numbers, masks with room for 256 nodes
pub record Arrays (rptr ridx rmasks cptr cidx cmasks starts order region frontier scratch nodes pointers columns source_ptr sources : List ℕ) : Type 0 where
  pub row_pointers : 1024 ≤ length rptr
  pub row_words : 1024 ≤ length ridx
  pub row_masks : 1024 ≤ length rmasks
  pub column_pointers : 1024 ≤ length cptr
  pub column_words : 1024 ≤ length cidx
  pub column_masks : 1024 ≤ length cmasks
  pub begins : 1024 ≤ length starts
  pub ordered : 1024 ≤ length order
  pub inside : 4 ≤ length region
  pub reached : 4 ≤ length frontier
  pub spent : 4 ≤ length scratch
  pub members : 1024 ≤ length nodes
  pub local_pointers : 1024 ≤ length pointers
  pub local_columns : 1024 ≤ length columns
  pub source_pointers : 1024 ≤ length source_ptr
  pub entry_sources : 1024 ≤ length sources

-- the prepared region's order
abbrev pub laid_check : ℕ → List ℕ → List ℕ → List ℕ → Check
laid_check n blocks ptr cols = matrix_check n n ptr cols (values_of cols) then square_check (kinds_of blocks) (ids_of blocks) (fields_of blocks) blocks (offsets_of blocks) n n

-- the answer of a job that 27 and 1 let pass
abbrev pub asked_text : Job → List ℕ
asked_text j = text_of (ask_check j) (result_text j)

-- a job by its figures and the fronts of four lists
abbrev pub job_read : JobRead → List ℕ → List ℕ → List ℕ → List ℕ → Job
job_read r blocks ptr cols seeds =
    record { size = r.size; blocks = take r.blocks blocks; ptr = take r.pointers ptr; cols = take r.columns cols; seeds = take r.seeds seeds; hops = r.hops }

-- 27 where the text is no job, then 1, then the rest
abbrev pub judged_text : Option JobRead → List ℕ → List ℕ → List ℕ → List ℕ → List ℕ
judged_text None blocks ptr cols seeds = refused_text MalformedJob
judged_text (Some r) blocks ptr cols seeds =
    let j = job_read r blocks ptr cols seeds in
    text_of (must (read_fits r) OverLimit then ask_check j) (result_text j)
