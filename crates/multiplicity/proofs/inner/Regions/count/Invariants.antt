-- `multiplicity::inner::Regions::count` meets its contract. The invariant: the counts are those of the regions below q. Assumes nothing.
use Rattle.std.proofs.Common.{◌≡◌}
use Rattle.base.specs.Lists.{list_from}
use Rattle.multiplicity.specs.Multiplicity.{multiplicity_of}
use Rattle.multiplicity.proofs.inner.Regions.count.Given as goal

abbrev pub invariant-loop-q : goal.invariant-loop-q
invariant-loop-q l = l.counts ≡ list_from (multiplicity_of l.self.node_count l.q l.self.words.now) l.self.node_count 0
