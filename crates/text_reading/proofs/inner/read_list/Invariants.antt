-- `text_reading::inner::read_list` meets its contract. The invariant: so many fields are read, and those of what is left are still to read. Assumes
-- nothing.
use Rattle.std.specs.Prelude.{option_copied}
use Rattle.text_reading.proofs.Fields.{Listing, left_length}
use Rattle.text_reading.proofs.inner.read_list.Given as goal

abbrev pub invariant-loop-left : goal.invariant-loop-left
invariant-loop-left g l = Listing g.T.Width.made l.most l.bytes l.initial.list l.list l.good l.count (option_copied l.left)

abbrev pub decreases-loop-left : goal.decreases-loop-left
decreases-loop-left g l = left_length (option_copied l.left)
