use Rattle.side.proofs.AtRow.{at_words, at-masks, own-length, own-words, own-held}
use Rattle.side.proofs.inner.Side.row.Goals as goal

pub slice_bounds-result-end : goal.slice_bounds-result-end
slice_bounds-result-end c = at_words _ _ _ _ _ c.args.self.accepted _ c.requires

pub slice_bounds-result-end-2 : goal.slice_bounds-result-end-2
slice_bounds-result-end-2 c = at-masks _ _ _ _ _ c.args.self.accepted _ c.requires

pub invariant_of-result : goal.invariant_of-result
invariant_of-result c = record { accepted = own-words _ _ _ _ _ c.args.self.accepted _ c.requires }

pub returns-clause-columns : goal.returns-clause-columns
returns-clause-columns c = own-held _ _ _ _ _ c.args.self.accepted _ c.requires

pub returns-clause-long : goal.returns-clause-long
returns-clause-long c = own-length _ _ _ _ _ c.args.self.accepted _ c.requires
