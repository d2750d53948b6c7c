-- `binding::inner::System::drain` meets its contract. The invariant: what is left in the mask are columns of the entries from e on, and what was
-- inside the region was found or is left. Assumes nothing.
use Prim.Native.Nat.{◌+◌}
use lib.ListN.{get_or}
use Rattle.binding.proofs.Seen.{Draining}
use Rattle.binding.proofs.inner.System.drain.Given as goal

abbrev pub invariant-loop-column : goal.invariant-loop-column
invariant-loop-column l = Draining l.self.local.region.len l.self.matrix.col_idx.now l.self.local.region.words.now l.initial.seen (get_or l.self.matrix.row_ptr.now (l.r + 1) 0) (get_or l.self.matrix.row_ptr.now l.r 0 + l.column-index) l.seen l.extra
