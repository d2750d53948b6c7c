-- The bytes of a number and of a list, with one more. Assumes nothing.
use mathlib.Core.Path.{◌≡◌, refl, sym, ap, ap₂, ◌∙◌}
use mathlib.Core.List.{List, [], ◌∷◌, ◌++◌}
use Prim.Native.Nat.{ℕ, ◌+◌, ◌*◌, ◌/◌, ◌%◌, ◌<◌}
use native.Mathlib.Omega.{arith}
use lib.ListN.{length, get_or}
use lib.Seq.{ext_get_or}
use Rattle.std.proofs.Common.{w64, rules}
use Rattle.std.specs.Int.{to_le_bytes}
use Rattle.base.specs.Lists.{list_from}
use Rattle.base.proofs.Lists.{length-list_from, get_or-list_from, list_from-append}
use Rattle.records.specs.Bytes.{shifted, bytes_of}

pub bytes-length : (l : List ℕ) (n : ℕ) → length (bytes_of l n) ≡ n
unfolding bytes_of
bytes-length l n = length-list_from (λ j. shifted (get_or l (j / 8) 0) (j % 8) % 256) n 0

pub bytes-none : (l : List ℕ) → [] ≡ bytes_of l 0
unfolding bytes_of list_from
bytes-none l = refl

-- the library's word for those of a number
pub le_bytes : (value : ℕ) → to_le_bytes w64 value ≡ bytes_of (value ∷ []) 8
unfolding bytes_of list_from shifted
le_bytes value = search rules

-- number k of a list
pub number-next : (l : List ℕ) (k : ℕ) → bytes_of l (8 * k) ++ bytes_of (get_or l k 0 ∷ []) 8 ≡ bytes_of l (8 * (k + 1))
unfolding bytes_of
number-next l k =
    ap (λ (x : List ℕ). bytes_of l (8 * k) ++ x) one
    ∙ sym (list_from-append (λ j. shifted (get_or l (j / 8) 0) (j % 8) % 256) (8 * k) 8 0) ∙ ap (bytes_of l) wider
  where
    wider : 8 * k + 8 ≡ 8 * (k + 1)
    wider = omega arith

    one : list_from (λ j. shifted (get_or (get_or l k 0 ∷ []) (j / 8) 0) (j % 8) % 256) 8 0 ≡ list_from (λ j. shifted (get_or l (j / 8) 0) (j % 8) % 256) 8 (0 + 8 * k)
    one =
        ext_get_or 0 _ _ (length-list_from (λ j. shifted (get_or (get_or l k 0 ∷ []) (j / 8) 0) (j % 8) % 256) 8 0 ∙ sym (length-list_from (λ j. shifted (get_or l (j / 8) 0) (j % 8) % 256) 8 (0 + 8 * k)))
        (λ j h. each j (omega (arith, length-list_from (λ j. shifted (get_or (get_or l k 0 ∷ []) (j / 8) 0) (j % 8) % 256) 8 0)))
      where
        each : (j : ℕ) → j < 8 → get_or (list_from (λ j. shifted (get_or (get_or l k 0 ∷ []) (j / 8) 0) (j % 8) % 256) 8 0) j 0 ≡ get_or (list_from (λ j. shifted (get_or l (j / 8) 0) (j % 8) % 256) 8 (0 + 8 * k)) j 0
        each j h =
            let z : (0 + j) / 8 ≡ 0 = omega arith in
            let a : (0 + 8 * k + j) / 8 ≡ k = omega arith in
            let b : (0 + 8 * k + j) % 8 ≡ (0 + j) % 8 = omega arith in
            get_or-list_from (λ j. shifted (get_or (get_or l k 0 ∷ []) (j / 8) 0) (j % 8) % 256) 8 0 j 0 h
            ∙ ap (λ (n : ℕ). shifted (get_or (get_or l k 0 ∷ []) n 0) ((0 + j) % 8) % 256) z
            ∙ sym (ap₂ (λ (m n : ℕ). shifted (get_or l m 0) n % 256) a b)
            ∙ sym (get_or-list_from (λ j. shifted (get_or l (j / 8) 0) (j % 8) % 256) 8 (0 + 8 * k) j 0 h)
