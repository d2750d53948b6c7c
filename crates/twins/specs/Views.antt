-- What is said of the blocks' keys as they are lent: `Keys` says the same of three lists.
use Rattle.std.specs.Prelude.{Bool, List, ℕ, get_or}
use Rattle.twins.specs.declared.keys.Key.{Key}
use Rattle.twins.specs.declared.keys.Keys.{Keys}
use Rattle.twins.specs.Keys.{same_key, repeated, lowest_twin, Order, above_by, class_at, Table, Twin}

-- the key of block b
abbrev pub key_at : Keys → ℕ → Key
key_at keys b = record { kind = get_or keys.kinds.now b 0; id = get_or keys.ids.now b 0; field = get_or keys.fields.now b 0 }

-- two blocks have one key
abbrev pub alike : Keys → ℕ → ℕ → Bool
alike keys = same_key keys.kinds.now keys.ids.now keys.fields.now

-- block b repeats the key of an earlier one
abbrev pub repeats : Keys → ℕ → Bool
repeats keys = repeated keys.kinds.now keys.ids.now keys.fields.now

-- the first of the blocks below `count` that does, or `count`
abbrev pub lowest_repeat : Keys → ℕ → ℕ
lowest_repeat keys = lowest_twin keys.kinds.now keys.ids.now keys.fields.now

-- block a is above block b by the order
abbrev pub above : Order → Keys → ℕ → ℕ → Bool
above order keys = above_by order keys.kinds.now keys.ids.now keys.fields.now

-- the class of block b, where the classes are 0 to `last`
abbrev pub class_of : Keys → ℕ → ℕ → ℕ
class_of keys = class_at keys.kinds.now keys.ids.now keys.fields.now

-- a table of the blocks before b that are of one class
abbrev pub TableOf : Keys → List ℕ → ℕ → ℕ → ℕ → ℕ → Type 0
TableOf keys = Table keys.kinds.now keys.ids.now keys.fields.now

-- what the search of the classes from `from` up to, and without, `to` answers
abbrev pub TwinOf : Keys → ℕ → ℕ → ℕ → ℕ → ℕ → Type 0
TwinOf keys = Twin keys.kinds.now keys.ids.now keys.fields.now
