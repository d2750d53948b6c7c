-- `growth::inner::Graph::expand` meets its contract. The invariant: the members before the one that comes next are visited. Assumes nothing.
use Rattle.mask.proofs.Nexts.{Over, coming}
use Rattle.side.specs.Side.{side_holds}
use Rattle.growth.proofs.Expansion.{Visiting}
use Rattle.growth.proofs.inner.Graph.expand.Given as goal

abbrev pub invariant-loop-i : goal.invariant-loop-i
invariant-loop-i l = Over l.self.n l.frontier.words.now l.i-iterator × Visiting l.self.n (side_holds l.self.topology.rows.row_word_ptr.now l.self.topology.rows.word_indices.now l.self.topology.rows.masks.now) l.frontier.words.now l.reached l.nodes l.row_words l.column_words l.candidate_bits (coming l.self.n l.frontier.words.now l.i-iterator)
