-- `growth::inner::Graph::expand` meets its contract. The invariant: the members before the one that comes next are visited. Assumes nothing.
use Rattle.std.proofs.Common.{◌≡◌, refl, ◌+◌, arith}
use Rattle.mask.proofs.Masks.{is-of}
use Rattle.mask.proofs.Nexts.{Given, walk-starts, walk-gives, walk-ends}
use Rattle.side.specs.Side.{side_holds}
use Rattle.growth.specs.Visits.{Small}
use Rattle.growth.proofs.Visits.{counts}
use Rattle.growth.proofs.Expansion.{Visiting, visit-first, visit-turn, visit-last, turn-small}
use Rattle.growth.proofs.inner.Graph.expand.Goals.{After-take-column, In-Some}
use Rattle.growth.proofs.inner.Graph.expand.Goals as goal

-- member i came
came : (c : In-Some) → Given c.args.self.n c.args.frontier.words.now c.loop-i.i-iterator c.in-Some.i c.next.new.self
came c = walk-gives _ _ _ c.loop-i.invariant.0 _ _ c.in-Some.ensures.steps

pub loop-i-init : goal.loop-i-init
loop-i-init c =
    let from : c.into_iter-i-iterator.result ≡ c.members-i-items.result = c.into_iter-i-iterator.ensures.into_iter_gives in (
      record { sized = rw from (rw c.members-i-items.ensures.mask c.requires.0); held = rw from (rw c.members-i-items.ensures.mask refl) },
      visit-first _ _ _ _ _ _ _ c.args.self.square _ _ _ (walk-starts _ _ c.into_iter-i-iterator.result (rw from c.members-i-items.ensures.at)) c.requires.1,
    )

pub take-row-requires : goal.take-row-requires
take-row-requires c = (is-of _ _ _ c.args.self.square.rows.few_cols c.loop-i.invariant.1.touching, (came (goal.at.take-row-requires c).In-Some).inside)

pub take-column-requires : goal.take-column-requires
take-column-requires c = (is-of _ _ _ c.args.self.square.rows.few_cols c.take-row.ensures.reached_after, (came (goal.at.take-column-requires c).In-Some).inside)

module _ (c : After-take-column) where
  gives : Given c.args.self.n c.args.frontier.words.now c.loop-i.i-iterator c.in-Some.i c.next.new.self
  gives = walk-gives _ _ _ c.loop-i.invariant.0 _ _ c.in-Some.ensures.steps

  before : Visiting c.args.self.n (side_holds c.args.self.topology.rows.row_word_ptr.now c.args.self.topology.rows.word_indices.now c.args.self.topology.rows.masks.now) c.args.frontier.words.now c.loop-i.reached c.loop-i.nodes c.loop-i.row_words c.loop-i.column_words c.loop-i.candidate_bits c.in-Some.i
  before = rw gives.here c.loop-i.invariant.1

  -- this turn's counts fit
  small : Small (counts c.loop-i.nodes (c.loop-i.row_words + c.take-row.result.words) (c.loop-i.column_words + c.take-column.result.words) (c.loop-i.candidate_bits + (c.take-row.result.bits + c.take-column.result.bits)))
  small = turn-small _ _ _ _ _ _ _ c.args.self.square _ _ _ _ _ _ _ before gives.inside _ _ c.take-row.ensures.value c.take-column.ensures.value

pub overflow_add-nodes : goal.overflow_add-nodes
overflow_add-nodes c = omega (arith, small (goal.at.overflow_add-nodes c).After-take-column)

pub overflow_add-row_words : goal.overflow_add-row_words
overflow_add-row_words c = omega (arith, small (goal.at.overflow_add-row_words c).After-take-column)

pub overflow_add-column_words : goal.overflow_add-column_words
overflow_add-column_words c = omega (arith, small (goal.at.overflow_add-column_words c).After-take-column)

pub overflow_add-candidate_bits : goal.overflow_add-candidate_bits
overflow_add-candidate_bits c = omega (arith, small (goal.at.overflow_add-candidate_bits c).After-take-column)

pub overflow_add-candidate_bits-in-loop-i : goal.overflow_add-candidate_bits-in-loop-i
overflow_add-candidate_bits-in-loop-i c = omega (arith, small (goal.at.overflow_add-candidate_bits-in-loop-i c).After-take-column)

pub loop-i-preserved : goal.loop-i-preserved
loop-i-preserved c =
    let s = (goal.at.loop-i-preserved c).After-take-column in (
      (gives s).over,
      visit-turn _ _ _ _ _ _ _ c.args.self.square _ _ _ _ _ _ _ (before s) (gives s).inside _ _ c.take-row.ensures.value c.take-column.ensures.value _ _ _ (gives s).next c.take-row.ensures.reached_after c.take-column.ensures.reached_after,
    )

pub returns-clause-reached_after : goal.returns-clause-reached_after
returns-clause-reached_after c =
    (visit-last _ _ _ _ _ _ _ c.args.self.square _ _ _ _ _ _ _ c.loop-i.invariant.1 (walk-ends _ _ c.loop-i.i-iterator c.loop-i.invariant.0 c.next.new.self c.in-None.ensures.steps)).1
