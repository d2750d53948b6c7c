-- Laws of a list written from a place on: what stands where, a store into it, one written over another. Assumes nothing.
use mathlib.Core.Path.{◌≡◌, sym, ap, ap₂, ◌∙◌}
use mathlib.Core.Logic.{◌≢◌}
use mathlib.Core.List.{List, [], ◌∷◌, ◌++◌, append_assoc}
use Prim.Native.Nat.{ℕ, zero, suc, ◌+◌, ◌-◌, ◌≤◌, ◌<◌}
use native.Mathlib.Omega.{arith}
use native.Mathlib.Nat.{zero-add, suc-add, not-suc-le-zero}
use lib.ListN.{length, get_or, set, take, drop, replicate, length-append, length-replicate, length-set, take-append-drop, get_or-append}
use lib.Seq.{slice, length-take-le, get_or-append-add, get_or-drop, set-append_left, take-set-lt, drop-set-lt, take_at, drop_at, ext_get_or, length-slice}
use Rattle.base.specs.Lists.{list_from, placed, zeroed}
use Rattle.base.proofs.Lists.{take_on, get_or-slice, length-list_from, get_or-list_from, list_from-cong, list_from-append}

module _ {A : Type 0} where
  set-append-add : (xs ys : List A) (n : ℕ) (v : A) → set (xs ++ ys) (length xs + n) v ≡ xs ++ set ys n v
  set-append-add [] ys n v = ap (λ (k : ℕ). set ys k v) (zero-add n)
  set-append-add (x ∷ xs) ys n v =
      ap (λ (k : ℕ). set (x ∷ (xs ++ ys)) k v) (suc-add (length xs) n) ∙ ap (λ (r : List A). x ∷ r) (set-append-add xs ys n v)

  -- the part before the answer, and that with the answer
  front : (at : ℕ) (l : List A) → at ≤ length l → length (take at l) ≡ at
  front at l h = length-take-le at l h

  fronts : (at : ℕ) (X l : List A) → at ≤ length l → length (take at l ++ X) ≡ at + length X
  fronts at X l h = length-append (take at l) X ∙ ap (λ (k : ℕ). k + length X) (front at l h)

  -- what stands in its places, and past them
  pub get_or-placed : (at : ℕ) (X l : List A) (j : ℕ) (d : A) → at ≤ length l → j < length X → get_or (placed at X l) (at + j) d ≡ get_or X j d
  unfolding placed
  get_or-placed at X l j d h u =
      ap (λ (k : ℕ). get_or (placed at X l) (k + j) d) (sym (front at l h))
      ∙ get_or-append-add (take at l) (X ++ drop (at + length X) l) j d
      ∙ get_or-append X (drop (at + length X) l) d j u

  pub get_or-placed-past : (at : ℕ) (X l : List A) (j : ℕ) (d : A) → at ≤ length l → get_or (placed at X l) (at + length X + j) d ≡ get_or l (at + length X + j) d
  unfolding placed
  get_or-placed-past at X l j d h =
      ap₂ (λ (b : List A) (k : ℕ). get_or b (k + j) d) (sym (append_assoc (take at l) X (drop (at + length X) l))) (sym (fronts at X l h))
      ∙ get_or-append-add (take at l ++ X) (drop (at + length X) l) j d
      ∙ get_or-drop (at + length X) l j d

  -- a store into it
  pub placed-set : (at : ℕ) (X l : List A) (j : ℕ) (v : A) → at ≤ length l → j < length X → set (placed at X l) (at + j) v ≡ placed at (set X j v) l
  unfolding placed
  placed-set at X l j v h u =
      ap (λ (k : ℕ). set (placed at X l) (k + j) v) (sym (front at l h))
      ∙ set-append-add (take at l) (X ++ drop (at + length X) l) j v
      ∙ ap (λ (b : List A). take at l ++ b) (set-append_left X (drop (at + length X) l) j v u)
      ∙ ap (λ (k : ℕ). take at l ++ (set X j v ++ drop (at + k) l)) (sym (length-set X j v))

  -- a store before it
  pub placed-set-before : (at : ℕ) (X l : List A) (i : ℕ) (v : A) → at ≤ length l → i < at → set (placed at X l) i v ≡ placed at X (set l i v)
  unfolding placed
  placed-set-before at X l i v h u =
      set-append_left (take at l) (X ++ drop (at + length X) l) i v (omega (arith, front at l h))
      ∙ ap₂ (λ (a b : List A). a ++ (X ++ b)) (sym (take-set-lt at l i v u)) (sym (drop-set-lt (at + length X) l i v (omega arith)))

  -- over another in the same places
  pub placed-again : (at : ℕ) (X Y l : List A) → at ≤ length l → length X ≡ length Y → placed at X (placed at Y l) ≡ placed at X l
  unfolding placed
  placed-again at X Y l h e =
      ap₂ (λ (a b : List A). a ++ (X ++ b)) (take_at (take at l) (Y ++ drop (at + length Y) l) at (front at l h))
      (ap (drop (at + length X)) (sym (append_assoc (take at l) Y (drop (at + length Y) l)))
      ∙ drop_at (take at l ++ Y) (drop (at + length Y) l) (at + length X) (fronts at Y l h ∙ ap (λ (k : ℕ). at + k) (sym e))
      ∙ ap (λ (k : ℕ). drop (at + k) l) (sym e))

-- a list made by a rule, with one element more
pub list_from-snoc : {A : Type 0} (f : ℕ → A) (k : ℕ) → list_from f (k + 1) 0 ≡ list_from f k 0 ++ (f k ∷ [])
unfolding list_from
list_from-snoc {A = A} f k = list_from-append f k 1 0 ∙ ap (λ (n : ℕ). list_from f k 0 ++ (f n ∷ [])) (zero-add k)

-- and with one changed
pub list_from-set : {A : Type 0} (f g : ℕ → A) (k at j : ℕ) → j < k → ((i : ℕ) → at ≤ i → i < at + k → i ≢ at + j → f i ≡ g i)
    → set (list_from f k at) j (g (at + j)) ≡ list_from g k at
unfolding list_from
list_from-set f g zero at j h e = absurd (not-suc-le-zero h)
list_from-set f g (suc k) at zero h e =
    let z : at + 0 ≡ at = omega arith in
    ap₂ ◌∷◌ (ap g z) (list_from-cong f g k (suc at) (λ i a b. e i (omega arith) (omega arith) (λ q. omega arith)))
list_from-set {A = A} f g (suc k) at (suc j) h e =
    let z : at + suc j ≡ suc at + j = omega arith in
    ap₂ ◌∷◌ (e at (omega arith) (omega arith) (λ q. omega arith))
    (ap (λ (n : ℕ). set (list_from f k (suc at)) j (g n)) z
    ∙ list_from-set f g k (suc at) j (omega arith) (λ i a b n. e i (omega arith) (omega arith) (λ q. n (q ∙ z))))

-- what stands there already
pub placed-self : (at m : ℕ) (f : ℕ → ℕ) (l : List ℕ) → at + m ≤ length l → ((j : ℕ) → j < m → f j ≡ get_or l (at + j) 0) → placed at (list_from f m 0) l ≡ l
unfolding placed
placed-self at m f l h e =
    ap₂ (λ (x : List ℕ) (k : ℕ). take at l ++ (x ++ drop (at + k) l)) same (length-list_from f m 0)
    ∙ sym (append_assoc (take at l) (slice at (at + m) l) (drop (at + m) l))
    ∙ ap (λ (x : List ℕ). x ++ drop (at + m) l) (sym (take_on l at (at + m) (omega arith)))
    ∙ take-append-drop (at + m) l
  where
    long : length (slice at (at + m) l) ≡ m
    long = length-slice at (at + m) l h ∙ omega arith

    same : list_from f m 0 ≡ slice at (at + m) l
    same =
        ext_get_or 0 (list_from f m 0) (slice at (at + m) l) (length-list_from f m 0 ∙ sym long)
        (λ i a. let u : i < m = omega (arith, length-list_from f m 0) in
        get_or-list_from f m 0 i 0 u ∙ ap f (zero-add i) ∙ e i u ∙ sym (get_or-slice at (at + m) l i (omega arith)))

-- zeros are a list from a place on
pub placed-zeros : (from to : ℕ) (l : List ℕ) → from ≤ to → zeroed from to l ≡ placed from (replicate (to - from) 0) l
unfolding placed
placed-zeros from to l h =
    let e : to ≡ from + length (replicate {A = ℕ} (to - from) 0) = omega (arith, length-replicate {A = ℕ} (to - from) 0) in
    append_assoc (take from l) (replicate (to - from) 0) (drop to l)
    ∙ ap (λ (k : ℕ). take from l ++ (replicate (to - from) 0 ++ drop k l)) e
