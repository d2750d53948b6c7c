-- Numbers and lists in a record of bytes: 8 bytes a number, the lowest first.
use Rattle.std.specs.Prelude.{List, ℕ, zero, suc, ◌+◌, ◌*◌, ◌/◌, ◌%◌, ◌≡◌, min, get_or}
use Rattle.base.specs.Lists.{list_from}

abbrev pub half_found_at : List ℕ → ℕ → ℕ
half_found_at bytes at = get_or bytes at 0 + 256 * get_or bytes (at + 1) 0 + 65536 * get_or bytes (at + 2) 0 + 16777216 * get_or bytes (at + 3) 0

abbrev pub number_at : List ℕ → ℕ → ℕ
number_at bytes at = half_found_at bytes at + 4294967296 * half_found_at bytes (at + 4)

-- n elements from a place on, each as `read` makes it of a number
abbrev pub list_found_at : {A : Type 0} → (ℕ → A) → ℕ → List ℕ → ℕ → List A
list_found_at read n bytes at = list_from (λ k. read (number_at bytes (at + 8 * k))) n 0

-- a list's room for n elements, and its count: the room stands at `at`, the list's length at `length_at`
abbrev pub ListAt : {A : Type 0} → (ℕ → A) → ℕ → List ℕ → ℕ → ℕ → List A → ℕ → Type 0
ListAt read n bytes length_at at room count = (room ≡ list_found_at read n bytes at) × (count ≡ min (number_at bytes length_at) n)

-- a number without its k lowest bytes
unfoldable pub shifted : ℕ → ℕ → ℕ
shifted n zero = n
shifted n (suc k) = shifted n k / 256

-- a list's bytes: byte j mod 8 of number j / 8
unfoldable pub bytes_of : List ℕ → ℕ → List ℕ
bytes_of list n = list_from (λ j. shifted (get_or list (j / 8) 0) (j % 8) % 256) n 0
