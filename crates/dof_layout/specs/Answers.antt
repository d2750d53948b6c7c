-- What the layout's functions answer, and what they leave in the lists that they are lent.
use Rattle.std.specs.Prelude.{Bool, cond, ◌&&◌, List, ℕ, suc, ◌-◌, leb, ltb, eqb, length, get_or}
use Rattle.std.specs.Prelude.{Result, Option, Some, None}
use Rattle.base.specs.Checks.{Check, answer}
use Rattle.base.specs.declared.Refusal.{Refusal}
use Rattle.base.specs.declared.Refusal.TheVariants.{UnknownKind, TotalNotSides, ListTooShort}
use Rattle.base.specs.Checks.{must, ◌then◌, leaves}
use Rattle.base.specs.Lists.{over}
use Rattle.mask.specs.Mask.{words_needed, mask_words}
use Rattle.dof_layout.specs.Layout.{start_of, total_of, offsets_of, block_of, is_kind_code, blocks_check, layout_check}
use Rattle.dof_layout.specs.declared.DofEntityKind.{DofEntityKind}
use Rattle.dof_layout.specs.declared.DofAddress.{DofAddress}
use Rattle.dof_layout.specs.declared.Range.{Range}

-- ---- kind_of: 17

-- the number of each kind
unfoldable pub code_of : DofEntityKind → ℕ
code_of DofEntityKind.Node = 1
code_of DofEntityKind.Edge = 2
code_of DofEntityKind.Face = 3
code_of DofEntityKind.Element = 4
code_of DofEntityKind.Multiplier = 5
code_of DofEntityKind.Constraint = 6
code_of DofEntityKind.Other = 255

-- the kind of each number that 17 lets through
unfoldable pub kind_named : ℕ → DofEntityKind
kind_named code =
    cond (eqb code 1) DofEntityKind.Node
    (cond (eqb code 2) DofEntityKind.Edge
    (cond (eqb code 3) DofEntityKind.Face
    (cond (eqb code 4) DofEntityKind.Element
    (cond (eqb code 5) DofEntityKind.Multiplier
    (cond (eqb code 6) DofEntityKind.Constraint DofEntityKind.Other)))))

abbrev pub kind_answer : ℕ → Result DofEntityKind Refusal
kind_answer code = answer (must (is_kind_code code) UnknownKind) (kind_named code)

-- ---- new: the blocks, 25; blocks + 1 offsets, and the total

unfoldable pub new_check : List ℕ → List ℕ → List ℕ → List ℕ → List ℕ → Check
new_check kinds ids fields components out =
    blocks_check kinds ids fields components then must (leb (suc (length kinds)) (length out)) ListTooShort

abbrev pub new_answer : List ℕ → List ℕ → List ℕ → List ℕ → List ℕ → Result ℕ Refusal
new_answer kinds ids fields components out =
    answer (new_check kinds ids fields components out) (total_of components)

abbrev pub new_offsets : List ℕ → List ℕ → List ℕ → List ℕ → List ℕ → List ℕ
new_offsets kinds ids fields components out =
    leaves (new_check kinds ids fields components out) (over (offsets_of components) out) out

-- ---- questions to a layout

abbrev pub total_answer : List ℕ → List ℕ → List ℕ → List ℕ → List ℕ → Result ℕ Refusal
total_answer kinds ids fields components offsets =
    answer (layout_check kinds ids fields components offsets) (total_of components)

-- the nodes of block b, from the first up to the first of the next; past the end none
abbrev pub range_of : List ℕ → ℕ → Range
range_of components b = record { start = start_of components b; end = start_of components (suc b) }

abbrev pub range_answer : List ℕ → List ℕ → List ℕ → List ℕ → List ℕ → ℕ → Result (Option Range) Refusal
range_answer kinds ids fields components offsets b =
    answer (layout_check kinds ids fields components offsets) (cond (ltb b (length kinds)) (Some (range_of components b)) None)

-- the block of node i, and which of its components i is; past the end none
abbrev pub address_of : List ℕ → ℕ → DofAddress
address_of components i = record { block_index = block_of components i; component = i - start_of components (block_of components i) }

abbrev pub locate_answer : List ℕ → List ℕ → List ℕ → List ℕ → List ℕ → ℕ → Result (Option DofAddress) Refusal
locate_answer kinds ids fields components offsets i =
    answer (layout_check kinds ids fields components offsets) (cond (ltb i (total_of components)) (Some (address_of components i)) None)

-- ---- validate_square_matrix_size: the layout, 18 where its total is not both sides

unfoldable pub square_check : List ℕ → List ℕ → List ℕ → List ℕ → List ℕ → ℕ → ℕ → Check
square_check kinds ids fields components offsets nrows ncols =
    layout_check kinds ids fields components offsets then must (eqb nrows (total_of components) && eqb ncols (total_of components)) TotalNotSides

-- ---- field_mask: the layout, 25; the nodes whose block has the field

unfoldable pub field_check : List ℕ → List ℕ → List ℕ → List ℕ → List ℕ → List ℕ → Check
field_check kinds ids fields components offsets out =
    layout_check kinds ids fields components offsets then must (leb (words_needed (total_of components)) (length out)) ListTooShort

-- the block of node i has the field
abbrev pub has_field : List ℕ → List ℕ → ℕ → ℕ → Bool
has_field fields components field i = eqb (get_or fields (block_of components i) 0) field

-- a mask is a length and words: the length is answered
abbrev pub field_answer : List ℕ → List ℕ → List ℕ → List ℕ → List ℕ → List ℕ → Result ℕ Refusal
field_answer kinds ids fields components offsets out =
    answer (field_check kinds ids fields components offsets out) (total_of components)

abbrev pub field_words : List ℕ → List ℕ → List ℕ → List ℕ → List ℕ → ℕ → List ℕ → List ℕ
field_words kinds ids fields components offsets field out =
    leaves (field_check kinds ids fields components offsets out) (over (mask_words (total_of components) (has_field fields components field)) out) out
