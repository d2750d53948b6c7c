-- What is said of a layout that is lent.
use Rattle.std.specs.Prelude.{◌≡◌, List, ℕ, Result, Option}
use Rattle.base.specs.Checks.{Check}
use Rattle.base.specs.declared.Refusal.{Refusal}
use Rattle.dof_layout.specs.declared.FieldBlocks.{FieldBlocks}
use Rattle.dof_layout.specs.declared.FieldAwareDofLayout.{FieldAwareDofLayout}
use Rattle.dof_layout.specs.declared.DofAddress.{DofAddress}
use Rattle.dof_layout.specs.declared.Range.{Range}
use Rattle.dof_layout.specs.declared.inner.Layout.{Layout}
use Rattle.dof_layout.specs.Layout.{total_of, blocks_check, layout_check, IsLayout}
use Rattle.dof_layout.specs.Answers.{new_answer, new_offsets, total_answer, range_answer, locate_answer, square_check, field_answer, field_words}

-- 14, 11, then block by block
abbrev pub check_blocks : FieldBlocks → Check
check_blocks b = blocks_check b.entity_kinds.now b.entity_ids.now b.field_ids.now b.components.now

-- its blocks, then 26
abbrev pub check_layout : FieldAwareDofLayout → Check
check_layout l = layout_check l.blocks.entity_kinds.now l.blocks.entity_ids.now l.blocks.field_ids.now l.blocks.components.now l.offsets.now

-- and 18: its total against a matrix's sides
abbrev pub check_square : FieldAwareDofLayout → ℕ → ℕ → Check
check_square l = square_check l.blocks.entity_kinds.now l.blocks.entity_ids.now l.blocks.field_ids.now l.blocks.components.now l.offsets.now

-- what is known of one that its check accepts
abbrev pub SoundLayout : FieldAwareDofLayout → Type 0
SoundLayout l = IsLayout l.blocks.entity_kinds.now l.blocks.entity_ids.now l.blocks.field_ids.now l.blocks.components.now l.offsets.now

-- how many nodes it has
abbrev pub total : FieldAwareDofLayout → ℕ
total l = total_of l.blocks.components.now

-- the lent layout as it was accepted
abbrev pub AcceptedFrom : FieldAwareDofLayout → Layout → Type 0
AcceptedFrom l a = (a.components ≡ l.blocks.components) × (a.offsets ≡ l.offsets)

-- ---- what the calls answer, and what they leave in the list that they are lent

abbrev pub answer_new : FieldBlocks → List ℕ → Result ℕ Refusal
answer_new b = new_answer b.entity_kinds.now b.entity_ids.now b.field_ids.now b.components.now

abbrev pub offsets_new : FieldBlocks → List ℕ → List ℕ
offsets_new b = new_offsets b.entity_kinds.now b.entity_ids.now b.field_ids.now b.components.now

abbrev pub answer_total : FieldAwareDofLayout → Result ℕ Refusal
answer_total l = total_answer l.blocks.entity_kinds.now l.blocks.entity_ids.now l.blocks.field_ids.now l.blocks.components.now l.offsets.now

abbrev pub answer_range : FieldAwareDofLayout → ℕ → Result (Option Range) Refusal
answer_range l = range_answer l.blocks.entity_kinds.now l.blocks.entity_ids.now l.blocks.field_ids.now l.blocks.components.now l.offsets.now

abbrev pub answer_locate : FieldAwareDofLayout → ℕ → Result (Option DofAddress) Refusal
answer_locate l = locate_answer l.blocks.entity_kinds.now l.blocks.entity_ids.now l.blocks.field_ids.now l.blocks.components.now l.offsets.now

abbrev pub answer_field : FieldAwareDofLayout → List ℕ → Result ℕ Refusal
answer_field l = field_answer l.blocks.entity_kinds.now l.blocks.entity_ids.now l.blocks.field_ids.now l.blocks.components.now l.offsets.now

abbrev pub words_field : FieldAwareDofLayout → ℕ → List ℕ → List ℕ
words_field l = field_words l.blocks.entity_kinds.now l.blocks.entity_ids.now l.blocks.field_ids.now l.blocks.components.now l.offsets.now
