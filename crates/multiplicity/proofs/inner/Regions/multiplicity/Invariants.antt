-- `multiplicity::inner::Regions::multiplicity` meets its contract. The invariant: the regions below q are counted. Assumes nothing.
use Rattle.std.proofs.Common.{◌≡◌}
use Rattle.multiplicity.specs.Multiplicity.{multiplicity_of}
use Rattle.multiplicity.proofs.inner.Regions.multiplicity.Given as goal

abbrev pub invariant-loop-q : goal.invariant-loop-q
invariant-loop-q l = l.m ≡ multiplicity_of l.self.node_count l.q l.self.words.now l.node
