-- Document 01's examples of layouts, and one small case of each call, by computing the definitions. Assumes nothing.
use mathlib.Core.Path.{◌≡◌, refl}
use Rattle.std.specs.Prelude.{Some}
use Rattle.std.specs.Prelude.{Ok, Err, None}
use Rattle.base.specs.declared.Refusal.TheVariants.{OverLimit, NoBlock, EmptyBlock, RepeatedBlock, UnknownKind, TotalNotSides, ListTooShort, BadPointers, WrongLength}
use mathlib.Core.List.{[], ◌∷◌}
use Rattle.base.specs.Checks.{must, must_be, ◌then◌, checks_below}
use Rattle.base.specs.Lists.{same_list, list_from}
use Rattle.base.specs.Sets.{any_below, first_below, sum_below}
use Rattle.word.specs.Bits.{word_from}
use Rattle.mask.specs.Mask.{mask_words}
use Rattle.dof_layout.specs.declared.DofEntityKind.{DofEntityKind}
use Rattle.twins.specs.Keys.{same_key}
use Rattle.dof_layout.specs.Layout.{start_of, offsets_of, block_of, is_kind_code, block_check, blocks_check, layout_check}
use Rattle.dof_layout.specs.Answers.{kind_named, kind_answer, new_check, new_answer, new_offsets, total_answer, range_answer, locate_answer, square_check, field_check, field_answer, field_words}

pub record Layouts : Type 0 where
  pub no_blocks : blocks_check [] [] [] [] ≡ Err NoBlock
  pub ids_short : blocks_check (1 ∷ 1 ∷ []) (0 ∷ []) (0 ∷ 0 ∷ []) (2 ∷ 1 ∷ []) ≡ Err (WrongLength 2 1)
  pub fields_long : blocks_check (1 ∷ []) (0 ∷ []) (0 ∷ 0 ∷ []) (2 ∷ 1 ∷ []) ≡ Err (WrongLength 1 2)
  pub components_short : blocks_check (1 ∷ 1 ∷ []) (0 ∷ 1 ∷ []) (0 ∷ 0 ∷ []) (2 ∷ []) ≡ Err (WrongLength 2 1)
  pub empty_block : blocks_check (1 ∷ 1 ∷ []) (0 ∷ 1 ∷ []) (0 ∷ 0 ∷ []) (2 ∷ 0 ∷ []) ≡ Err EmptyBlock
  pub twice : blocks_check (1 ∷ 1 ∷ []) (7 ∷ 7 ∷ []) (0 ∷ 0 ∷ []) (2 ∷ 1 ∷ []) ≡ Err RepeatedBlock
  pub far_twin : blocks_check (1 ∷ 2 ∷ 1 ∷ []) (7 ∷ 8 ∷ 7 ∷ []) (0 ∷ 0 ∷ 0 ∷ []) (2 ∷ 1 ∷ 1 ∷ []) ≡ Err RepeatedBlock
  pub other_field : blocks_check (1 ∷ 1 ∷ []) (7 ∷ 7 ∷ []) (0 ∷ 1 ∷ []) (2 ∷ 1 ∷ []) ≡ Ok tt
  pub other_kind : blocks_check (1 ∷ 255 ∷ []) (7 ∷ 7 ∷ []) (0 ∷ 0 ∷ []) (2 ∷ 1 ∷ []) ≡ Ok tt
  pub kind_seven : blocks_check (7 ∷ []) (0 ∷ []) (0 ∷ []) (1 ∷ []) ≡ Err UnknownKind
  pub block_by_block : blocks_check (1 ∷ 7 ∷ []) (0 ∷ 1 ∷ []) (0 ∷ 0 ∷ []) (0 ∷ 1 ∷ []) ≡ Err EmptyBlock
  pub largest : blocks_check (1 ∷ []) (0 ∷ []) (0 ∷ []) (1048576 ∷ []) ≡ Ok tt
  pub too_large : blocks_check (1 ∷ 1 ∷ []) (0 ∷ 1 ∷ []) (0 ∷ 0 ∷ []) (1048576 ∷ 1 ∷ []) ≡ Err OverLimit
  pub built : new_offsets (1 ∷ 1 ∷ []) (0 ∷ 1 ∷ []) (0 ∷ 0 ∷ []) (2 ∷ 1 ∷ []) (9 ∷ 9 ∷ 9 ∷ 9 ∷ []) ≡ 0 ∷ 2 ∷ 3 ∷ 9 ∷ []
  pub built_total : new_answer (1 ∷ 1 ∷ []) (0 ∷ 1 ∷ []) (0 ∷ 0 ∷ []) (2 ∷ 1 ∷ []) (9 ∷ 9 ∷ 9 ∷ []) ≡ Ok 3
  pub no_room : new_answer (1 ∷ 1 ∷ []) (0 ∷ 1 ∷ []) (0 ∷ 0 ∷ []) (2 ∷ 1 ∷ []) (9 ∷ 9 ∷ []) ≡ Err ListTooShort
  pub other_totals : layout_check (1 ∷ 1 ∷ []) (0 ∷ 1 ∷ []) (0 ∷ 0 ∷ []) (2 ∷ 1 ∷ []) (0 ∷ 2 ∷ 4 ∷ []) ≡ Err BadPointers
  pub long_totals : layout_check (1 ∷ 1 ∷ []) (0 ∷ 1 ∷ []) (0 ∷ 0 ∷ []) (2 ∷ 1 ∷ []) (0 ∷ 2 ∷ 3 ∷ 3 ∷ []) ≡ Err BadPointers
  pub total : total_answer (1 ∷ 1 ∷ []) (0 ∷ 1 ∷ []) (0 ∷ 0 ∷ []) (2 ∷ 1 ∷ []) (0 ∷ 2 ∷ 3 ∷ []) ≡ Ok 3
  pub range_1 : range_answer (1 ∷ 1 ∷ []) (0 ∷ 1 ∷ []) (0 ∷ 0 ∷ []) (2 ∷ 1 ∷ []) (0 ∷ 2 ∷ 3 ∷ []) 1 ≡ Ok (Some (record { start = 2; end = 3 }))
  pub range_2 : range_answer (1 ∷ 1 ∷ []) (0 ∷ 1 ∷ []) (0 ∷ 0 ∷ []) (2 ∷ 1 ∷ []) (0 ∷ 2 ∷ 3 ∷ []) 2 ≡ (Ok None)
  pub locate_1 : locate_answer (1 ∷ 1 ∷ []) (0 ∷ 1 ∷ []) (0 ∷ 0 ∷ []) (2 ∷ 1 ∷ []) (0 ∷ 2 ∷ 3 ∷ []) 1 ≡ Ok (Some (record { block_index = 0; component = 1 }))
  pub locate_2 : locate_answer (1 ∷ 1 ∷ []) (0 ∷ 1 ∷ []) (0 ∷ 0 ∷ []) (2 ∷ 1 ∷ []) (0 ∷ 2 ∷ 3 ∷ []) 2 ≡ Ok (Some (record { block_index = 1; component = 0 }))
  pub locate_3 : locate_answer (1 ∷ 1 ∷ []) (0 ∷ 1 ∷ []) (0 ∷ 0 ∷ []) (2 ∷ 1 ∷ []) (0 ∷ 2 ∷ 3 ∷ []) 3 ≡ (Ok None)
  pub four_on_three : square_check (1 ∷ 1 ∷ []) (0 ∷ 1 ∷ []) (0 ∷ 0 ∷ []) (2 ∷ 2 ∷ []) (0 ∷ 2 ∷ 4 ∷ []) 3 3 ≡ Err TotalNotSides
  pub four_on_four : square_check (1 ∷ 1 ∷ []) (0 ∷ 1 ∷ []) (0 ∷ 0 ∷ []) (2 ∷ 2 ∷ []) (0 ∷ 2 ∷ 4 ∷ []) 4 4 ≡ Ok tt
  pub field : field_words (1 ∷ 1 ∷ []) (0 ∷ 1 ∷ []) (0 ∷ 5 ∷ []) (2 ∷ 1 ∷ []) (0 ∷ 2 ∷ 3 ∷ []) 5 (9 ∷ 9 ∷ []) ≡ 4 ∷ 9 ∷ []
  pub field_over_words : field_words (1 ∷ 1 ∷ []) (0 ∷ 1 ∷ []) (0 ∷ 5 ∷ []) (63 ∷ 2 ∷ []) (0 ∷ 63 ∷ 65 ∷ []) 5 (9 ∷ 9 ∷ []) ≡ 9223372036854775808 ∷ 1 ∷ []
  pub field_length : field_answer (1 ∷ 1 ∷ []) (0 ∷ 1 ∷ []) (0 ∷ 5 ∷ []) (2 ∷ 1 ∷ []) (0 ∷ 2 ∷ 3 ∷ []) (9 ∷ []) ≡ Ok 3
  pub field_no_room : field_answer (1 ∷ 1 ∷ []) (0 ∷ 1 ∷ []) (0 ∷ 5 ∷ []) (63 ∷ 2 ∷ []) (0 ∷ 63 ∷ 65 ∷ []) (9 ∷ []) ≡ Err ListTooShort
  pub kind_6 : kind_answer 6 ≡ Ok DofEntityKind.Constraint
  pub kind_0 : kind_answer 0 ≡ Err UnknownKind
  pub kind_256 : kind_answer 256 ≡ Err UnknownKind

pub layouts : Layouts
unfolding must must_be ◌then◌ checks_below same_list list_from any_below first_below sum_below word_from mask_words start_of offsets_of block_of is_kind_code same_key block_check blocks_check layout_check kind_named new_check square_check field_check
layouts = record {
  no_blocks = refl;
  ids_short = refl;
  fields_long = refl;
  components_short = refl;
  empty_block = refl;
  twice = refl;
  far_twin = refl;
  other_field = refl;
  other_kind = refl;
  kind_seven = refl;
  block_by_block = refl;
  largest = refl;
  too_large = refl;
  built = refl;
  built_total = refl;
  no_room = refl;
  other_totals = refl;
  long_totals = refl;
  total = refl;
  range_1 = refl;
  range_2 = refl;
  locate_1 = refl;
  locate_2 = refl;
  locate_3 = refl;
  four_on_three = refl;
  four_on_four = refl;
  field = refl;
  field_over_words = refl;
  field_length = refl;
  field_no_room = refl;
  kind_6 = refl;
  kind_0 = refl;
  kind_256 = refl;
}
