-- `repeated::repeated_closing` meets its contract: the list that the checked closing left is written again with the same. Assumes nothing.
use mathlib.Core.Path.{◌≡◌, sym, ap, ◌∙◌, subst}
use Rattle.std.specs.Prelude.{Ok}
use mathlib.Core.List.{List}
use Prim.Native.Nat.{ℕ, ◌≤◌}
use native.Mathlib.Omega.{arith}
use lib.ListN.{length, drop, take}
use lib.Seq.{length-take-le, take_at}
use Rattle.mask.specs.Mask.{in_mask, words_needed, IsMask}
use Rattle.mask.proofs.Masks.{mask-length}
use Rattle.dof_layout.specs.Layout.{total_of, block_of, IsLayout}
use Rattle.dof_layout.proofs.Layouts.{filled-of}
use Rattle.graph.specs.Network.{closed}
use Rattle.field_region.specs.Closure.{close_check, closed_words}
use Rattle.field_region.proofs.Closing.{accepted-close}
use Rattle.repeated.proofs.Repeating.{left_is, again-room}
use Rattle.repeated.proofs.Rewriting.{close-accepted}
use Rattle.repeated.proofs.repeated_closing.Goals.{After-words_for-need, In-Ok, Start}
use Rattle.repeated.proofs.repeated_closing.Goals as goal

-- in this arm the checks accepted
module _ (c : In-Ok) where
  abbrev s : Start
  s = (goal.at.In-Ok c).Start

  ok : close_check s.args.layout.blocks.entity_kinds.now s.args.layout.blocks.entity_ids.now s.args.layout.blocks.field_ids.now s.args.layout.blocks.components.now s.args.layout.offsets.now s.args.mask.len s.args.mask.words.now s.args.out.now ≡ Ok tt
  ok = close-accepted _ s.args.mask.len _ (sym c.close_to_field_blocks.ensures.value ∙ c.in-Ok.is)

  good : IsLayout s.args.layout.blocks.entity_kinds.now s.args.layout.blocks.entity_ids.now s.args.layout.blocks.field_ids.now s.args.layout.blocks.components.now s.args.layout.offsets.now × (s.args.mask.len ≡ total_of s.args.layout.blocks.components.now) × IsMask (total_of s.args.layout.blocks.components.now) s.args.mask.words.now × (words_needed (total_of s.args.layout.blocks.components.now) ≤ length s.args.out.now)
  good = accepted-close _ _ _ _ _ _ _ _ c.requires ok

-- what the list needs, and the answer has
module _ (c : After-words_for-need) where
  abbrev t : Start
  t = (goal.at.After-words_for-need c).Start

  abbrev answer : List ℕ
  answer = closed_words t.args.layout.blocks.components.now t.args.mask.words.now

  -- the list as the checked closing left it
  abbrev left : List ℕ
  left = c.close_to_field_blocks.new.out

  long : c.words_for-need.result ≡ length answer
  long = c.words_for-need.ensures ∙ ap words_needed (good (goal.at.After-words_for-need c).In-Ok).1 ∙ sym (mask-length (total_of t.args.layout.blocks.components.now) (closed (total_of t.args.layout.blocks.components.now) (block_of t.args.layout.blocks.components.now) (in_mask t.args.mask.words.now)))

  room : c.words_for-need.result ≤ length left
  room = again-room answer t.args.out.now _ _ (left_is _ _ _ _ (ok (goal.at.After-words_for-need c).In-Ok) c.close_to_field_blocks.ensures.out_after) long

  held : take c.words_for-need.result left ≡ answer
  held =
      ap (take c.words_for-need.result) (left_is _ _ _ _ (ok (goal.at.After-words_for-need c).In-Ok) c.close_to_field_blocks.ensures.out_after)
      ∙ take_at answer (drop (length answer) t.args.out.now) c.words_for-need.result (sym long)

pub invariant_of-accepted : goal.invariant_of-accepted
invariant_of-accepted c = let l = (good (goal.at.invariant_of-accepted c).In-Ok).0 in record { totals = l.running; few = l.blocks.short; filled = filled-of _ _ _ _ l.blocks }

pub invariant_of-seeds : goal.invariant_of-seeds
invariant_of-seeds c = let g = good (goal.at.invariant_of-seeds c).In-Ok in record { accepted = subst (λ (n : ℕ). IsMask n c.args.mask.words.now) (sym g.1) g.2 }

pub words_for-need-requires : goal.words_for-need-requires
words_for-need-requires c = omega (arith, (good (goal.at.words_for-need-requires c).In-Ok).1, (good (goal.at.words_for-need-requires c).In-Ok).0.blocks.short)

pub slice_bounds-repeat_closing-end : goal.slice_bounds-repeat_closing-end
slice_bounds-repeat_closing-end c = room (goal.at.slice_bounds-repeat_closing-end c).After-words_for-need

pub slice_bounds-repeat_closing-end-in-Ok : goal.slice_bounds-repeat_closing-end-in-Ok
slice_bounds-repeat_closing-end-in-Ok c = sym (length-take-le _ _ (room (goal.at.slice_bounds-repeat_closing-end-in-Ok c).After-words_for-need))

pub repeat_closing-requires : goal.repeat_closing-requires
repeat_closing-requires c = let g = good (goal.at.repeat_closing-requires c).In-Ok in (g.1, held (goal.at.repeat_closing-requires c).After-words_for-need)
