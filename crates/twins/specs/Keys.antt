-- When two blocks have one key (16). The rest is for the search alone, and no promise of a public call speaks of it: the first block that
-- repeats the key of an earlier one, an order of keys, and a table of the keys met.
use Rattle.std.specs.Prelude.{◌≡◌, Bool, true, false, ◌&&◌, ◌||◌, List, ℕ, ◌+◌, ◌*◌, ◌/◌, ◌^◌, ◌≤◌, ◌<◌, ltb, eqb, length, get_or}
use Rattle.std.specs.Int.Bits.{bit_and, bit_xor}
use Rattle.base.specs.Sets.{any_below, first_below}

-- 16: entity kind, id and field id all repeat
unfoldable pub same_key : List ℕ → List ℕ → List ℕ → ℕ → ℕ → Bool
same_key kinds ids fields a b =
    eqb (get_or kinds a 0) (get_or kinds b 0) && eqb (get_or ids a 0) (get_or ids b 0) && eqb (get_or fields a 0) (get_or fields b 0)

-- ---- the first twin

-- block b repeats the key of an earlier one
abbrev pub repeated : List ℕ → List ℕ → List ℕ → ℕ → Bool
repeated kinds ids fields b = any_below b (λ a. same_key kinds ids fields a b)

-- the first of the blocks below `count` that does, or `count`
abbrev pub lowest_twin : List ℕ → List ℕ → List ℕ → ℕ → ℕ
lowest_twin kinds ids fields count = first_below count (repeated kinds ids fields)

-- ---- an order of keys

-- x is above y, or they are equal and the rest decides
abbrev pub above_or : ℕ → ℕ → Bool → Bool
above_or x y rest = ltb y x || (eqb x y && rest)

-- block a is above block b by the first list, then by the second, then by the third
unfoldable pub above_key : List ℕ → List ℕ → List ℕ → ℕ → ℕ → Bool
above_key first second third a b =
    above_or (get_or first a 0) (get_or first b 0) (above_or (get_or second a 0) (get_or second b 0) (ltb (get_or third b 0) (get_or third a 0)))

-- the two orders: by kind, id, field, and by field, kind, id
pub data Order : Type 0 where
  by_kind : Order
  by_field : Order

abbrev pub above_by : Order → List ℕ → List ℕ → List ℕ → ℕ → ℕ → Bool
above_by by_kind kinds ids fields = above_key kinds ids fields
above_by by_field kinds ids fields = above_key fields kinds ids

-- no block before b is above block `top`
abbrev pub Highest : List ℕ → List ℕ → List ℕ → ℕ → ℕ → Type 0
Highest first second third top b = (a : ℕ) → a < b → above_key first second third a top ≡ false

-- ---- a table of keys

-- a key's bits, mixed
abbrev pub mixed : ℕ → ℕ → ℕ → ℕ
mixed kind id field =
    bit_xor (bit_xor (bit_and id 4294967295 * 2654435761) (id / 2 ^ 32 * 2246822519)) (bit_xor (field * 3266489917) (kind * 668265263))

-- and spread over a word: a function of the key alone
unfoldable pub spread_of : ℕ → ℕ → ℕ → ℕ
spread_of kind id field = bit_and (bit_xor (mixed kind id field) (mixed kind id field / 2 ^ 32)) 4294967295 * 2654435769

abbrev pub spread_at : List ℕ → List ℕ → List ℕ → ℕ → ℕ
spread_at kinds ids fields b = spread_of (get_or kinds b 0) (get_or ids b 0) (get_or fields b 0)

-- the class of block b, where the classes are 0 to `last`
abbrev pub class_at : List ℕ → List ℕ → List ℕ → ℕ → ℕ → ℕ
class_at kinds ids fields last b = bit_and (spread_at kinds ids fields b / 2 ^ 32) last

-- the slot from which block b is looked for, one of 0 to `last`
abbrev pub home_at : List ℕ → List ℕ → List ℕ → ℕ → ℕ → ℕ
home_at kinds ids fields last b = bit_and (spread_at kinds ids fields b / 2 ^ 17) last

-- block a stands in a slot from `from` up to, and without, `to`, by its number and one
pub record StandsIn (table : List ℕ) (a from to : ℕ) : Type 0 where
  pub slot : ℕ
  pub at_least : from ≤ slot
  pub below : slot < to
  pub named : get_or table slot 0 ≡ a + 1

-- a table of the blocks before b that are of one class: 0 is a free slot, and before each free slot from its home on such a block stands
pub record Table (kinds ids fields table : List ℕ) (last-class class last-slot b : ℕ) : Type 0 where
  pub earlier : (s : ℕ) → s < length table → get_or table s 0 ≤ b
  pub each : (a : ℕ) → a < b → class_at kinds ids fields last-class a ≡ class → (s : ℕ) → home_at kinds ids fields last-slot a ≤ s → s < length table
      → get_or table s 0 ≡ 0 → StandsIn table a (home_at kinds ids fields last-slot a) s

-- `twin` repeats a key, or is `count`; no block before it does that is of a class from `from` up to, and without, `to`
pub record Twin (kinds ids fields : List ℕ) (last-class from to count twin : ℕ) : Type 0 where
  pub within : twin ≤ count
  pub none : (b : ℕ) → b < twin → from ≤ class_at kinds ids fields last-class b → class_at kinds ids fields last-class b < to → repeated kinds ids fields b ≡ false
  pub twice : twin < count → repeated kinds ids fields twin ≡ true
