-- Laws of lists in a text: the fields read one after the other, each into a lent list as far as that has room. Assumes nothing.
use mathlib.Core.Path.{◌≡◌, refl, sym, ap, ap₂, ◌∙◌, subst}
use mathlib.Core.Bool.{Bool, true, false, cond, ◌&&◌, and-true, and_assoc}
use mathlib.Core.List.{List, [], ◌∷◌, ◌++◌, map, append-nil}
use mathlib.Core.Logic.{◌⊎◌, inl, inr}
use Prim.Native.Nat.{ℕ, ◌+◌, ◌≤◌, ◌<◌}
use native.Mathlib.Nat.{not-suc-le-zero}
use native.Mathlib.Omega.{arith}
use lib.ListN.{length, get_or, set, take, drop, length-take, length-drop, length-map, length-set, drop_of_length-le}
use lib.Seq.{take_all, take-nil, get_or-take, set_out}
use Rattle.std.specs.Prelude.{Option, Some, None, Ok}
use Rattle.std.specs.Bool.{then_some}
use Rattle.base.specs.Lists.{every, is_in, written, over}
use Rattle.base.proofs.Bools.{lt-or-le}
use Rattle.base.proofs.Lists.{at_head, get_or-mapped, put_next, put-end}
use Rattle.text_writing.specs.Text.{comma}
use Rattle.text_reading.specs.Reading.{told, is_number, number_of, before, behind, parts, fields, is_list, list_of, list_read}
use Rattle.text_reading.proofs.Numbers.{number-within}
use Rattle.text_reading.proofs.Parts.{behind-shorter, parts_first}

-- ---- the fields of a value

pub fields-none : (v : List ℕ) → length v ≡ 0 → fields v ≡ []
unfolding fields
fields-none [] h = refl
fields-none (b ∷ v) h = absurd (omega arith)

pub fields-some : (v : List ℕ) → 0 < length v → fields v ≡ parts comma v
unfolding fields
fields-some [] h = absurd (not-suc-le-zero h)
fields-some (b ∷ v) h = refl

pub list-none : {A : Type 0} (made : ℕ → A) (most : ℕ) (v : List ℕ) (old : List A) → length v ≡ 0
    → (Ok 0 ≡ list_read most v) × (old ≡ over (take (length old) (map made (list_of most v))) old)
unfolding is_list list_of
list-none {A = A} made most v old h =
    let e : fields v ≡ [] = fields-none v h in (
      sym (ap (λ (l : List (List ℕ)). told (every (is_number most) l) (length l)) e),
      sym (ap (λ (l : List (List ℕ)). over (take (length old) (map made (map (number_of most) l))) old) e ∙ ap (λ (l : List A). over l old) (take-nil (length old))),
    )

pub list_length : (most : ℕ) (v : List ℕ) → length (list_of most v) ≡ length (fields v)
unfolding list_of
list_length most v = length-map (fields v) (number_of most)

-- no number past the most
pub list-within : (most : ℕ) (v : List ℕ) (i : ℕ) → i < length (list_of most v) → get_or (list_of most v) i 0 ≤ most
unfolding list_of
list-within most v i h =
    let l : i < length (fields v) = omega (arith, list_length most v) in
    subst (λ (x : ℕ). x ≤ most) (sym (get_or-mapped (number_of most) (fields v) i [] 0 l)) (number-within most (get_or (fields v) i []))

-- ---- one field after the other

-- the numbers as the lent list has them, and how many of them it keeps
abbrev pub made_of : {A : Type 0} → (ℕ → A) → ℕ → List ℕ → List A
made_of made most bytes = map made (map (number_of most) (parts comma bytes))

abbrev pub kept_of : {A : Type 0} → (ℕ → A) → ℕ → List ℕ → List A → List A
kept_of made most bytes old = take (length old) (made_of made most bytes)

pub length-made : {A : Type 0} (made : ℕ → A) (most : ℕ) (bytes : List ℕ) → length (made_of made most bytes) ≡ length (parts comma bytes)
length-made made most bytes = length-map (map (number_of most) (parts comma bytes)) made ∙ length-map (parts comma bytes) (number_of most)

-- the fields of what is left to read, and how long that is, its comma counted
abbrev pub fields_left : Option (List ℕ) → List (List ℕ)
fields_left None = []
fields_left (Some p) = parts comma p

abbrev pub left_length : Option (List ℕ) → ℕ
left_length None = 0
left_length (Some p) = length p + 1

-- behind the first field
abbrev pub behind_first : List ℕ → Option (List ℕ)
behind_first p = then_some (is_in comma p) (behind comma p)

first-field : (p : List ℕ) → parts comma p ≡ before comma p ∷ fields_left (behind_first p)
first-field p = parts_first comma p ∙ ap (λ (l : List (List ℕ)). before comma p ∷ l) (go (is_in comma p))
  where
    go : (b : Bool) → cond b (parts comma (behind comma p)) [] ≡ fields_left (then_some b (behind comma p))
    go true = refl
    go false = refl

pub left-shorter : (p : List ℕ) → left_length (behind_first p) < left_length (Some p)
left-shorter p = go (is_in comma p) refl
  where
    go : (b : Bool) → is_in comma p ≡ b → left_length (then_some b (behind comma p)) < length p + 1
    go true e = omega (arith, behind-shorter comma p e)
    go false e = omega arith

-- `count` of them are read
pub record Listing {A : Type 0} (made : ℕ → A) (most : ℕ) (bytes : List ℕ) (old list : List A) (good : Bool) (count : ℕ) (rest : Option (List ℕ)) : Type 0 where
  pub few : count + left_length rest ≤ length bytes + 1
  pub some : count ≤ length (parts comma bytes)
  pub left : drop count (parts comma bytes) ≡ fields_left rest
  pub sofar : (good && every (is_number most) (drop count (parts comma bytes))) ≡ every (is_number most) (parts comma bytes)
  pub long : length list ≡ length old
  pub front : list ≡ written count (kept_of made most bytes old) old

module _ {A : Type 0} (made : ℕ → A) (most : ℕ) (bytes : List ℕ) (old : List A) where
  kept-length : length (kept_of made most bytes old) ≤ length old
  kept-length = omega (arith, length-take (length old) (made_of made most bytes))

  -- past the end of the lent list nothing changes
  full : (k : ℕ) → length old ≤ k → written k (kept_of made most bytes old) old ≡ kept_of made most bytes old
  full k h =
      let l : length (kept_of made most bytes old) ≤ k = omega (arith, kept-length) in
      ap₂ ◌++◌ (take_all k (kept_of made most bytes old) l) (drop_of_length-le old h) ∙ append-nil (kept_of made most bytes old)

  module _ (list : List A) (good : Bool) (count : ℕ) where
    pub listing-turn :
        (p : List ℕ) → Listing made most bytes old list good count (Some p)
        → Listing made most bytes old (set list count (made (number_of most (before comma p)))) (good && is_number most (before comma p)) (count + 1) (behind_first p)
    listing-turn p s =
        record {
          few = omega (arith, s.few, left-shorter p);
          some = omega (arith, head.0);
          left = head.2;
          sofar = ahead;
          long = length-set list count (made (number_of most field)) ∙ s.long;
          front = stored (lt-or-le count (length old));
        }
      where
        field : List ℕ
        field = before comma p

        split : drop count (parts comma bytes) ≡ field ∷ fields_left (behind_first p)
        split = s.left ∙ first-field p

        head : (count < length (parts comma bytes)) × (field ≡ get_or (parts comma bytes) count []) × (drop (count + 1) (parts comma bytes) ≡ fields_left (behind_first p))
        head = at_head (parts comma bytes) count field (fields_left (behind_first p)) [] split

        ahead : (good && is_number most field && every (is_number most) (drop (count + 1) (parts comma bytes))) ≡ every (is_number most) (parts comma bytes)
        ahead =
            and_assoc good (is_number most field) (every (is_number most) (drop (count + 1) (parts comma bytes)))
            ∙ ap (λ (l : List (List ℕ)). good && (is_number most field && every (is_number most) l)) head.2
            ∙ ap (λ (l : List (List ℕ)). good && every (is_number most) l) (sym split)
            ∙ s.sofar

        stored : (count < length old) ⊎ (length old ≤ count) → set list count (made (number_of most field)) ≡ written (count + 1) (kept_of made most bytes old) old
        stored (inl r) =
            let l : count < length (kept_of made most bytes old) =
            omega (arith, head.0, length-take (length old) (made_of made most bytes), length-made made most bytes) in
            put_next (kept_of made most bytes old) old list count (made (number_of most field)) (made 0) l r s.front
            (ap made
            (ap (number_of most) head.1
            ∙ sym (get_or-mapped (number_of most) (parts comma bytes) count [] 0 head.0))
            ∙ sym (get_or-mapped made (map (number_of most) (parts comma bytes)) count 0 (made 0) (omega (arith, head.0, length-map (parts comma bytes) (number_of most))))
            ∙ sym (get_or-take (length old) (made_of made most bytes) count (made 0) r))
        stored (inr r) =
            let l : length list ≤ count = omega (arith, s.long) in
            let n : length old ≤ count + 1 = omega arith in
            set_out list count (made (number_of most field)) l ∙ s.front ∙ full count r ∙ sym (full (count + 1) n)

    pub listing-end :
        Listing made most bytes old list good count None → 0 < length bytes
        → (told good count ≡ list_read most bytes) × (list ≡ over (take (length old) (map made (list_of most bytes))) old)
    unfolding is_list list_of
    listing-end s p = (
      ap₂ (λ (b : Bool) (n : ℕ). told b n)
          (sym (and-true good) ∙ ap (λ (l : List (List ℕ)). good && every (is_number most) l) (sym s.left) ∙ s.sofar ∙ ap (every (is_number most)) (sym all))
          (all_read ∙ ap length (sym all)),
      whole (lt-or-le (length old) (length (parts comma bytes))) ∙ ap (λ (l : List (List ℕ)). over (take (length old) (map made (map (number_of most) l))) old) (sym all),
    )
      where
        all : fields bytes ≡ parts comma bytes
        all = fields-some bytes p

        all_read : count ≡ length (parts comma bytes)
        all_read = omega (arith, s.some, ap length s.left, length-drop count (parts comma bytes))

        whole : (length old < length (parts comma bytes)) ⊎ (length (parts comma bytes) ≤ length old) → list ≡ over (kept_of made most bytes old) old
        whole (inl r) =
            let k : length old ≤ count = omega (arith, all_read) in
            let l : length old ≤ length (kept_of made most bytes old) =
            omega (arith, length-take (length old) (made_of made most bytes), length-made made most bytes) in
            s.front ∙ full count k ∙ sym (ap (λ (x : List A). kept_of made most bytes old ++ x) (drop_of_length-le old l) ∙ append-nil (kept_of made most bytes old))
        whole (inr r) =
            let l : count ≡ length (kept_of made most bytes old) =
            omega (arith, all_read, length-take (length old) (made_of made most bytes), length-made made most bytes) in
            put-end (kept_of made most bytes old) old list count l s.front
