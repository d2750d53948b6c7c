-- `dof_layout::inner::fill_field` meets its contract. The invariant: the nodes of the blocks before a that have the field are in. Assumes nothing.
use Rattle.std.proofs.Common.{◌≡◌, ◌+◌, ◌-◌, ◌≤◌, length}
use Rattle.mask.specs.Mask.{mask_words}
use Rattle.dof_layout.specs.Layout.{total_of}
use Rattle.dof_layout.proofs.Fields.{taken}
use Rattle.dof_layout.proofs.inner.fill_field.Given as goal

abbrev pub invariant-loop-a : goal.invariant-loop-a
invariant-loop-a l = (l.a ≤ length l.fields + 1) × (l.total ≡ total_of l.components) × (l.words ≡ mask_words (total_of l.components) (taken l.fields l.components l.field l.a))

abbrev pub decreases-loop-a : goal.decreases-loop-a
decreases-loop-a l = length l.fields + 1 - l.a
