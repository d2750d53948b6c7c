-- `binding::inner::System::add_entries` meets its contract. The invariant: the columns of the entries before e have joined. Assumes nothing.
use mathlib.Core.Path.{◌≡◌}
use Prim.Native.Nat.{◌+◌}
use lib.ListN.{get_or}
use Rattle.mask.specs.Mask.{mask_words}
use Rattle.binding.proofs.Seen.{joined}
use Rattle.binding.proofs.inner.System.add_entries.Given as goal

abbrev pub invariant-loop-column : goal.invariant-loop-column
invariant-loop-column l = l.seen ≡ mask_words l.self.local.region.len (joined l.self.local.region.len l.self.matrix.col_idx.now l.initial.seen (get_or l.self.matrix.row_ptr.now l.r 0) (get_or l.self.matrix.row_ptr.now l.r 0 + l.column-index))
