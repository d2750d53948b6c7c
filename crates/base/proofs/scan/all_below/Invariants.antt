use Rattle.std.proofs.Common.{◌≡◌}
use Rattle.std.specs.Slice.Iter.{chunks_rest, chunks_size}
use Rattle.base.specs.Lists.{every, below}
use Rattle.base.proofs.scan.all_below.Given as goal

abbrev pub invariant-loop-part : goal.invariant-loop-part
invariant-loop-part g l =
    (goal.iterator-loop-part g).can_next l.part-iterator
    × (goal.iterator-loop-part g).is_finite l.part-iterator
    × (chunks_size l.part-iterator ≡ 1024)
    × (every (λ x. below l.bound (g.T.Number.value x)) (chunks_rest l.part-iterator) ≡ every (λ x. below l.bound (g.T.Number.value x)) l.s)
