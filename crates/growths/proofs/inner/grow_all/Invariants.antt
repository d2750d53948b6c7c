-- `growths::inner::grow_all` meets its contract. The invariant: the growths so far come to one by their total. Assumes nothing.
use Rattle.mask.specs.Mask.{words_needed}
use Rattle.growths.proofs.Growing.{Turn}
use Rattle.growths.proofs.inner.grow_all.Given as goal

abbrev pub invariant-loop-i : goal.invariant-loop-i
invariant-loop-i g l =
    let network = (g.G.Grower.shared l.g).network in
    Turn (words_needed network.nodes) network l.fn.asked.hops.now l.fn.asked.rooms.now l.shortest l.initial.seeds l.initial.region l.initial.frontier l.initial.scratch l.i l.ran l.seeds l.region l.frontier l.scratch
