use Rattle.peak_job.proofs.Jobs.{total-fits}
use Rattle.peak_job.proofs.inner.write_offsets.Goals as goal

pub write_offsets-requires : goal.write_offsets-requires
write_offsets-requires c = (total-fits c.args.blocks.now (λ k. (c.type_inv.blocks k).fits) c.requires.0, c.requires.1)
