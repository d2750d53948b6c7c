-- `field_region::inner::close_in_place` meets its contract. The invariants: the blocks before b are closed and the others as at entry, and no node
-- from block b up to `next` is selected; no selected node of the block lies below word w. Assumes nothing.
use Rattle.std.proofs.Common.{◌≡◌, suc, ◌*◌, ◌≤◌, length, get_or}
use Rattle.base.proofs.Sets.{None}
use Rattle.mask.specs.Mask.{in_mask, mask_words, IsMask}
use Rattle.mask.proofs.Nexts.{NoMember}
use Rattle.mask.proofs.Stores.{in_range}
use Rattle.dof_layout.specs.Layout.{total_of}
use Rattle.field_region.proofs.Closing.{closed_to}
use Rattle.field_region.proofs.inner.close_in_place.Given as goal

abbrev pub invariant-loop-w : goal.invariant-loop-w
invariant-loop-w l = record {
  same : l.words ≡ l.initial.words;
  masked : IsMask (total_of l.components) l.words;
  rises : l.start ≤ l.end;
  within : l.end ≤ total_of l.components;
  none : None (in_range l.words l.start l.end) (64 * l.w);
}

abbrev pub invariant-blocks-2 : goal.invariant-blocks-2
invariant-blocks-2 l = record {
  pointers : length l.offsets ≡ suc (length l.components);
  closed : l.words ≡ mask_words (total_of l.components) (closed_to l.components (in_mask l.initial.words) l.b);
  free : NoMember l.words (get_or l.offsets l.b 0) l.next;
}
