-- `growth::inner::grow_by_hops` meets its contract. The invariant: the masks and sums after k hops, none of them on an empty frontier. Assumes nothing.
use Rattle.growth.proofs.Growing.{Growing}
use Rattle.growth.proofs.inner.grow_by_hops.Given as goal

abbrev pub invariant-loop-k : goal.invariant-loop-k
invariant-loop-k g l = Growing (g.H.Hop.network l.graph) l.seeds.words.now l.hops l.k l.region l.frontier l.scratch l.some l.visits
