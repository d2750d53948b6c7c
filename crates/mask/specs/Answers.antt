-- What the mask's functions answer, and what they leave in the lists that they are lent, each as a set.
use Rattle.std.specs.Prelude.{Bool, false, not, cond, ◌&&◌, ◌||◌, List, ℕ, ◌/◌, ◌%◌, ltb, leb, eqb, length}
use Rattle.std.specs.Prelude.{Result}
use Rattle.base.specs.Checks.{Check, answer}
use Rattle.base.specs.declared.Refusal.{Refusal}
use Rattle.base.specs.declared.Refusal.TheVariants.{OverLimit, OutOfRange, ListTooShort}
use Rattle.base.specs.Checks.{must, ◌then◌, leaves, side_limit}
use Rattle.base.specs.Lists.{every, below, is_in, over}
use Rattle.base.specs.Sets.{between, any_below, count_below, members_below}
use Rattle.word.specs.Bits.{bit_at}
use Rattle.mask.specs.Mask.{in_mask, words_needed, mask_words, mask_check, length_check}

-- ---- new: 1, 25; the empty mask

unfoldable pub new_check : ℕ → List ℕ → Check
new_check len out = must (leb len side_limit) OverLimit then must (leb (words_needed len) (length out)) ListTooShort

abbrev pub new_words : ℕ → List ℕ → List ℕ
new_words len out = leaves (new_check len out) (over (mask_words len (λ i. false)) out) out

-- ---- from_indices: 1, 13, 25; the mask of the indices

unfoldable pub from_check : ℕ → List ℕ → List ℕ → Check
from_check len indices out =
    must (leb len side_limit) OverLimit then must (every (below len) indices) OutOfRange then must (leb (words_needed len) (length out)) ListTooShort

abbrev pub from_words : ℕ → List ℕ → List ℕ → List ℕ
from_words len indices out = leaves (from_check len indices out) (over (mask_words len (λ i. is_in i indices)) out) out

-- ---- questions to one mask

abbrev pub empty_answer : ℕ → List ℕ → Result Bool Refusal
empty_answer len words = answer (mask_check len words) (not (any_below len (in_mask words)))

abbrev pub count_answer : ℕ → List ℕ → Result ℕ Refusal
count_answer len words = answer (mask_check len words) (count_below len (in_mask words))

-- `contains` past the length answers no
abbrev pub contains_answer : ℕ → List ℕ → ℕ → Result Bool Refusal
contains_answer len words i = answer (mask_check len words) (ltb i len && in_mask words i)

-- ---- set: the mask, 13; that node alone changes

unfoldable pub set_check : ℕ → List ℕ → ℕ → Check
set_check len words i = mask_check len words then must (ltb i len) OutOfRange

-- the mask with node i in or out, as `value` says
abbrev pub with_node : ℕ → List ℕ → ℕ → Bool → List ℕ
with_node len words i value = mask_words len (λ j. cond (eqb j i) value (in_mask words j))

abbrev pub set_words : ℕ → List ℕ → ℕ → Bool → List ℕ
set_words len words i value = leaves (set_check len words i) (with_node len words i value) words

-- ---- two masks: the first, then the second with its length against the first's

unfoldable pub pair_check : ℕ → List ℕ → ℕ → List ℕ → Check
pair_check len words len2 other = mask_check len words then length_check len len2 other

-- node by node
abbrev pub combined : (Bool → Bool → Bool) → ℕ → List ℕ → List ℕ → List ℕ
combined on len words other = mask_words len (λ i. on (in_mask words i) (in_mask other i))

abbrev pub combined_words : (Bool → Bool → Bool) → ℕ → List ℕ → ℕ → List ℕ → List ℕ
combined_words on len words len2 other = leaves (pair_check len words len2 other) (combined on len words other) words

abbrev pub union : Bool → Bool → Bool
union s t = s || t

abbrev pub intersection : Bool → Bool → Bool
intersection s t = s && t

abbrev pub and_not_of : Bool → Bool → Bool
and_not_of s t = s && not t

abbrev pub intersects_answer : ℕ → List ℕ → ℕ → List ℕ → Result Bool Refusal
intersects_answer len words len2 other =
    answer (pair_check len words len2 other) (any_below len (λ i. in_mask words i && in_mask other i))

-- ---- indices: the mask, 25; the members in rising order

unfoldable pub indices_check : ℕ → List ℕ → List ℕ → Check
indices_check len words out = mask_check len words then must (leb (count_below len (in_mask words)) (length out)) ListTooShort

abbrev pub indices_answer : ℕ → List ℕ → List ℕ → Result ℕ Refusal
indices_answer len words out = answer (indices_check len words out) (count_below len (in_mask words))

abbrev pub indices_list : ℕ → List ℕ → List ℕ → List ℕ
indices_list len words out = leaves (indices_check len words out) (over (members_below len (in_mask words)) out) out

-- ---- or_word: word w joined with `bits`; what lies past the words or the length is dropped

abbrev pub with_word : ℕ → List ℕ → ℕ → ℕ → List ℕ
with_word len words w bits = mask_words len (λ i. in_mask words i || (eqb (i / 64) w && bit_at bits (i % 64)))

abbrev pub or_word_words : ℕ → List ℕ → ℕ → ℕ → List ℕ
or_word_words len words w bits = leaves (mask_check len words) (with_word len words w bits) words

-- ---- the mask with the nodes from start up to end taken too

abbrev pub with_range : ℕ → List ℕ → ℕ → ℕ → List ℕ
with_range len words start end = mask_words len (λ i. in_mask words i || between start end i)
