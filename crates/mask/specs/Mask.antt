-- A mask is a length and 64-bit words: a set of nodes below the length. Its check, and the words of a set.
use Rattle.std.specs.Prelude.{◌≡◌, Bool, not, ◌&&◌, ◌||◌, List, ℕ, ◌+◌, ◌*◌, ◌/◌, ◌%◌, ◌≤◌, ltb, leb, length, get_or}
use Rattle.base.specs.Checks.{Check}
use Rattle.base.specs.declared.Refusal.TheVariants.{OverLimit, BitPastLength}
use Rattle.base.specs.Checks.{must, must_be, ◌then◌, side_limit}
use Rattle.base.specs.Lists.{list_from}
use Rattle.base.specs.Sets.{every_below}
use Rattle.word.specs.Bits.{bit_at, word_of}

-- node i is bit i mod 64 of word i / 64
unfoldable pub in_mask : List ℕ → ℕ → Bool
in_mask words i = bit_at (get_or words (i / 64) 0) (i % 64)

-- a mask's word count: the length divided by 64, rounded up
abbrev pub words_needed : ℕ → ℕ
words_needed len = (len + 63) / 64

-- the words of the mask of `len` nodes that holds the set p
unfoldable pub mask_words : ℕ → (ℕ → Bool) → List ℕ
mask_words len p = list_from (word_of (λ i. ltb i len && p i)) (words_needed len) 0

-- no bit at or past the length is set
unfoldable pub clean : ℕ → List ℕ → Bool
clean len words = every_below (64 * length words) (λ i. ltb i len || not (in_mask words i))

-- the word count, then 12
unfoldable pub shape_check : ℕ → List ℕ → Check
shape_check len words = must_be (words_needed len) (length words) then must (clean len words) BitPastLength

-- a mask on its own: 1 before 11
unfoldable pub mask_check : ℕ → List ℕ → Check
mask_check len words = must (leb len side_limit) OverLimit then shape_check len words

-- a mask against the length it must have: 11 for its length, 11 for its word count, 12
unfoldable pub length_check : ℕ → ℕ → List ℕ → Check
length_check expected len words = must_be expected len then shape_check len words

-- an accepted mask is the words of its own set
pub record IsMask (len : ℕ) (words : List ℕ) : Type 0 where
  pub short : len ≤ side_limit
  pub exact : words ≡ mask_words len (in_mask words)
