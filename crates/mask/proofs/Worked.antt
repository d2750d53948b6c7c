-- Document 01's examples of masks, and one small case of each call, by computing the definitions. Assumes nothing.
use mathlib.Core.Path.{◌≡◌, refl}
use Rattle.std.specs.Prelude.{Ok, Err}
use Rattle.base.specs.declared.Refusal.TheVariants.{OverLimit, BitPastLength, OutOfRange, ListTooShort, WrongLength}
use mathlib.Core.Bool.{true, false}
use Prim.Native.Nat.{ℕ}
use mathlib.Core.List.{List, [], ◌∷◌}
use Rattle.base.specs.Checks.{must, must_be, ◌then◌}
use Rattle.base.specs.Lists.{is_in, list_from}
use Rattle.base.specs.Sets.{any_below, every_below, sum_below, members_from}
use Rattle.word.specs.Bits.{bit_at, word_from}
use Rattle.mask.specs.Mask.{in_mask, words_needed, mask_words, clean, shape_check, mask_check, length_check}
use Rattle.mask.specs.Answers.{new_check, new_words, from_check, from_words, empty_answer, count_answer, contains_answer, set_check, set_words, pair_check, combined_words, union, intersection, and_not_of, intersects_answer, indices_check, indices_answer, indices_list, or_word_words}

-- the mask of 3 and 64, of 65 nodes
abbrev seeds : List ℕ
seeds = 8 ∷ 1 ∷ []

pub record Masks : Type 0 where
  pub words_64 : words_needed 64 ≡ 1
  pub words_65 : words_needed 65 ≡ 2
  pub longest : mask_check 1048577 [] ≡ Err OverLimit
  pub short_65 : mask_check 65 (0 ∷ []) ≡ Err (WrongLength 2 1)
  pub stray : mask_check 65 (0 ∷ 2 ∷ []) ≡ Err BitPastLength
  pub last_bit : mask_check 65 (0 ∷ 1 ∷ []) ≡ Ok tt
  pub mask_4_side_3 : length_check 3 4 (1 ∷ []) ≡ Err (WrongLength 3 4)
  pub made : from_words 65 (3 ∷ 64 ∷ []) (7 ∷ 7 ∷ 7 ∷ []) ≡ 8 ∷ 1 ∷ 7 ∷ []
  pub made_out : from_check 3 (3 ∷ []) (0 ∷ []) ≡ Err OutOfRange
  pub new_short : new_check 65 (0 ∷ []) ≡ Err ListTooShort
  pub new_clears : new_words 65 (7 ∷ 7 ∷ 7 ∷ []) ≡ 0 ∷ 0 ∷ 7 ∷ []
  pub count : count_answer 65 seeds ≡ Ok 2
  pub some : empty_answer 65 seeds ≡ Ok false
  pub holds_64 : contains_answer 65 seeds 64 ≡ Ok true
  pub past_65 : contains_answer 65 seeds 65 ≡ Ok false
  pub set_3_of_3 : set_check 3 (0 ∷ []) 3 ≡ Err OutOfRange
  pub set_out : set_words 65 seeds 3 false ≡ 0 ∷ 1 ∷ []
  pub joined : combined_words union 3 (3 ∷ []) 3 (6 ∷ []) ≡ 7 ∷ []
  pub common : combined_words intersection 3 (3 ∷ []) 3 (6 ∷ []) ≡ 2 ∷ []
  pub without : combined_words and_not_of 3 (3 ∷ []) 3 (6 ∷ []) ≡ 1 ∷ []
  pub apart : intersects_answer 3 (1 ∷ []) 3 (6 ∷ []) ≡ Ok false
  pub members : indices_list 65 seeds (9 ∷ 9 ∷ 9 ∷ []) ≡ 3 ∷ 64 ∷ 9 ∷ []
  pub no_room : indices_answer 65 seeds (9 ∷ []) ≡ Err ListTooShort
  pub cut : or_word_words 65 seeds 1 7 ≡ 8 ∷ 1 ∷ []
  pub past_words : or_word_words 65 seeds 2 7 ≡ 8 ∷ 1 ∷ []

pub masks : Masks
unfolding bit_at word_from in_mask mask_words clean shape_check mask_check length_check new_check from_check set_check pair_check indices_check must must_be ◌then◌ is_in list_from any_below every_below sum_below members_from
masks = record {
  words_64 = refl;
  words_65 = refl;
  longest = refl;
  short_65 = refl;
  stray = refl;
  last_bit = refl;
  mask_4_side_3 = refl;
  made = refl;
  made_out = refl;
  new_short = refl;
  new_clears = refl;
  count = refl;
  some = refl;
  holds_64 = refl;
  past_65 = refl;
  set_3_of_3 = refl;
  set_out = refl;
  joined = refl;
  common = refl;
  without = refl;
  apart = refl;
  members = refl;
  no_room = refl;
  cut = refl;
  past_words = refl;
}
