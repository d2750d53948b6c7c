-- `dof_layout::FieldAwareDofLayout::check` meets its contract. Assumes nothing.
use mathlib.Core.Path.{◌≡◌, refl, sym, ◌∙◌}
use Rattle.std.specs.Prelude.{Ok}
use Rattle.base.proofs.Checks.{handed}
use Rattle.base.proofs.Checks.{group-pass, group-stop, last-pass, last-stop}
use Rattle.dof_layout.specs.Layout.{blocks_check, layout_check, AreBlocks}
use Rattle.base.proofs.Lists.{list_same}
use Rattle.dof_layout.proofs.Layouts.{accepted-blocks}
use Rattle.dof_layout.proofs.FieldAwareDofLayout.check.Goals.{In_ok-check}
use Rattle.dof_layout.proofs.FieldAwareDofLayout.check.Goals as goal

-- in this arm the blocks are accepted
ok : (c : In_ok-check) → blocks_check c.args.self.blocks.entity_kinds.now c.args.self.blocks.entity_ids.now c.args.self.blocks.field_ids.now c.args.self.blocks.components.now ≡ Ok tt
ok c = sym c.check.ensures ∙ c.in_ok-check.was

blocks : (c : In_ok-check) → AreBlocks c.args.self.blocks.entity_kinds.now c.args.self.blocks.entity_ids.now c.args.self.blocks.field_ids.now c.args.self.blocks.components.now
blocks c = accepted-blocks _ _ _ _ (ok c)

pub are_offsets-requires : goal.are_offsets-requires
are_offsets-requires c = (blocks (goal.at.are_offsets-requires c).In_ok-check).short

pub returns-then-not-are_offsets-clause-value : goal.returns-then-not-are_offsets-clause-value
unfolding layout_check
returns-then-not-are_offsets-clause-value c = group-pass _ _ _ (ok (goal.at.returns-then-not-are_offsets-clause-value c).In_ok-check) (last-stop _ _ _ ((sym c.are_offsets.ensures ∙ c.if-not-are_offsets.true)) refl)

pub returns-in_err-check-clause-value : goal.returns-in_err-check-clause-value
unfolding layout_check
returns-in_err-check-clause-value c = handed _ _ c.from_residual.ensures.1 ∙ group-stop _ _ _ (sym c.check.ensures ∙ c.in_err-check.was)

pub returns-clause-value : goal.returns-clause-value
unfolding layout_check
returns-clause-value c = group-pass _ _ _ (ok (goal.at.returns-clause-value c).In_ok-check) (last-pass _ _ _ ((sym c.are_offsets.ensures ∙ c.if-not-are_offsets.false)) refl)

pub returns-clause-accepted : goal.returns-clause-accepted
returns-clause-accepted c = record { blocks = blocks (goal.at.returns-clause-accepted c).In_ok-check; running = list_same _ _ (sym c.are_offsets.ensures ∙ c.if-not-are_offsets.false) }
