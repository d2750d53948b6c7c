-- `repeated::repeat` meets its contract. The invariant: the answer and the lists are those of one growth. Assumes nothing.
use Rattle.side.specs.Views.{pairs}
use Rattle.graph.specs.Network.{plain_network}
use Rattle.growth.specs.Visits.{grown_by}
use Rattle.repeated.proofs.Repeating.{Once}
use Rattle.repeated.proofs.repeat.Given as goal

abbrev pub invariant-loop : goal.invariant-loop
invariant-loop l = Once (plain_network l.graph.n (pairs l.graph.topology.rows)) l.seeds.words.now l.hops (grown_by (plain_network l.graph.n (pairs l.graph.topology.rows)) l.seeds.words.now l.hops) l.grown l.region l.frontier l.scratch
