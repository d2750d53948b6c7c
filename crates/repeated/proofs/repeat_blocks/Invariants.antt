-- `repeated::repeat_blocks` meets its contract. The invariant: the answer and the lists are those of one growth. Assumes nothing.
use Rattle.field_region.specs.Growth.{blocks_grown_by}
use Rattle.field_region.specs.Views.{fields}
use Rattle.repeated.proofs.Repeating.{Once}
use Rattle.repeated.proofs.repeat_blocks.Given as goal

abbrev pub invariant-loop : goal.invariant-loop
invariant-loop l = Once (fields l.graph) l.seeds.words.now l.hops (blocks_grown_by (fields l.graph) l.seeds.words.now l.hops) l.grown l.region l.frontier l.scratch
