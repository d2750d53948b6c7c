-- close_to_field_blocks: the layout, the mask, 25; each block with a selected node is taken whole.
use Rattle.std.specs.Prelude.{List, ℕ, leb, length}
use Rattle.std.specs.Prelude.{Result}
use Rattle.base.specs.Checks.{Check, answer}
use Rattle.base.specs.declared.Refusal.{Refusal}
use Rattle.base.specs.declared.Refusal.TheVariants.{ListTooShort}
use Rattle.base.specs.Checks.{must, ◌then◌, leaves}
use Rattle.base.specs.Lists.{over}
use Rattle.mask.specs.Mask.{in_mask, words_needed, mask_words, length_check}
use Rattle.dof_layout.specs.Layout.{total_of, block_of, layout_check}
use Rattle.graph.specs.Network.{closed}

unfoldable pub close_check : List ℕ → List ℕ → List ℕ → List ℕ → List ℕ → ℕ → List ℕ → List ℕ → Check
close_check kinds ids fields components offsets len words out =
    layout_check kinds ids fields components offsets
    then length_check (total_of components) len words
    then must (leb (words_needed (total_of components)) (length out)) ListTooShort

-- a mask is a length and words: the length is answered
abbrev pub close_answer : Check → ℕ → Result ℕ Refusal
close_answer check len = answer check len

-- the mask of the selected nodes with the whole of each one's block
abbrev pub closed_words : List ℕ → List ℕ → List ℕ
closed_words components words = mask_words (total_of components) (closed (total_of components) (block_of components) (in_mask words))

abbrev pub close_words : Check → List ℕ → List ℕ → List ℕ → List ℕ
close_words check components words out = leaves check (over (closed_words components words) out) out
