-- The five lines of what is told of an accepted job.
use Rattle.std.specs.Prelude.{List, ℕ}
use Rattle.job_text.specs.declared.inner.JobResult.{JobResult}
use Rattle.job_text.specs.Answer.{result_lines}

abbrev pub lines_of : JobResult → List ℕ
lines_of r = result_lines r.region.now r.frontier.now r.completed r.ptr.now r.cols.now
