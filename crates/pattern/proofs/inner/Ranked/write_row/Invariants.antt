-- `pattern::inner::Ranked::write_row` meets its contract. The invariant: the columns of the words from k on are still to come. Assumes nothing.
use mathlib.Core.List.{map}
use Prim.Native.Nat.{◌+◌, ◌-◌}
use Rattle.base.specs.Lists.{join_below, placed}
use Rattle.base.specs.Sets.{count_below}
use Rattle.mask.specs.Mask.{in_mask}
use Rattle.side.specs.Side.{side_holds}
use Rattle.pattern.specs.Pattern.{number_of, inside, columns_of}
use Rattle.pattern.proofs.Coming.{Coming}
use Rattle.pattern.proofs.Rows.{numbers_at}
use Rattle.pattern.proofs.inner.Ranked.write_row.Given as goal

abbrev pub invariant-loop-k : goal.invariant-loop-k
invariant-loop-k l =
    Coming (l.at + count_below l.self.local.region.len (inside (in_mask l.self.local.region.words.now) (side_holds l.self.local.rows.row_word_ptr.now l.self.local.rows.word_indices.now l.self.local.rows.masks.now) l.r))
    (placed l.at (map (number_of (in_mask l.self.local.region.words.now)) (columns_of l.self.local.region.len (in_mask l.self.local.region.words.now) (side_holds l.self.local.rows.row_word_ptr.now l.self.local.rows.word_indices.now l.self.local.rows.masks.now) l.r)) l.initial.cols)
    l.next (join_below (l.k-end - l.k) (numbers_at l.self.local.rows.word_indices.now l.self.local.rows.masks.now l.self.local.region.words.now l.k)) l.cols
