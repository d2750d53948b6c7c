-- What a job that has room in the arrays asks, by its lists as they are lent.
use Rattle.job_text.specs.Job.{Job}
use Rattle.peak_job.specs.declared.inner.Asked.{Asked}

abbrev pub asked : Asked → Job
asked a = record { size = a.size; blocks = a.blocks.now; ptr = a.ptr.now; cols = a.cols.now; seeds = a.seeds.now; hops = a.hops }
