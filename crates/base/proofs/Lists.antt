-- Laws of lists: scans from the front, membership, lists made by a rule, and a list written over the front of a lent one. Assumes nothing.
use mathlib.Core.Path.{◌≡◌, refl, sym, ap, ap₂, ◌∙◌, subst}
use mathlib.Core.Bool.{Bool, true, false, ◌&&◌, ◌||◌, or_assoc, or_comm}
use mathlib.Core.List.{List, [], ◌∷◌, ◌++◌, map, append-nil, append_assoc}
use mathlib.Core.Logic.{◌⊎◌, inl, inr}
use Prim.Native.Nat.{ℕ, zero, suc, ◌+◌, ◌-◌, ◌≤◌, ◌<◌}
use native.Mathlib.Nat.{zero-add, add-zero, le_refl, le_of_suc-le-suc, not-suc-le-zero, le_of_lt, sub-zero, zero-sub, suc-sub-suc}
use native.Mathlib.Numerals.{add-one}
use native.Mathlib.Omega.{arith}
use borrow.Author.Tests.{eq-eqb, eqb-true}
use lib.Dec.{T, eqb, eqb→eq}
use lib.ListN.{length, get_or, set, take, drop, replicate, get_or-append, length-append, length-take, length-drop, length-replicate, take-append-drop}
use lib.Seq.{slice, get_or-append-add, drop-cons, take-suc, take-take, length-take-le, set_at, append_snoc, take_all, drop-length, get_or-drop, get_or-take, length-slice, slice_empty, drop-append-le, drop-append-add, drop-drop, ext_get_or, take-append_seam, take-nil, take_at}
use Rattle.base.specs.Lists.{every, pairwise, is_in, same_list, list_from, written, over, placed, over_with_zeros, zeroed}
use Rattle.base.proofs.Bools.{bool-ext, and_left, and_right, or_l, or_r, or-e, or-false, T_true, T_false, T_of, both_ways, lt-or-le}

pub every-at : {A : Type 0} (f : A → Bool) (d : A) (s : List A) (i : ℕ) → every f s ≡ true → i < length s → f (get_or s i d) ≡ true
every-at f d [] i e h = absurd (not-suc-le-zero h)
every-at f d (x ∷ xs) zero e h = and_left (f x) (every f xs) e
every-at f d (x ∷ xs) (suc i) e h = every-at f d xs i (and_right (f x) (every f xs) e) (le_of_suc-le-suc h)

pub pairwise-short : {A : Type 0} (f : A → A → Bool) (s : List A) → length s ≤ 1 → pairwise f s ≡ true
pairwise-short f [] h = refl
pairwise-short f (x ∷ []) h = refl
pairwise-short f (x ∷ (y ∷ ys)) h = absurd (not-suc-le-zero (le_of_suc-le-suc h))

pub pairwise-at : {A : Type 0} (f : A → A → Bool) (d : A) (s : List A) (i : ℕ) → pairwise f s ≡ true → i + 1 < length s → f (get_or s i d) (get_or s (i + 1) d) ≡ true
pairwise-at {A = A} f d s i e h = rw add-one (go s i e (rw add-one at h))
  where
    go : (s : List A) (i : ℕ) → pairwise f s ≡ true → suc i < length s → f (get_or s i d) (get_or s (suc i) d) ≡ true
    go [] i e h = absurd (not-suc-le-zero h)
    go (x ∷ []) i e h = absurd (not-suc-le-zero (le_of_suc-le-suc h))
    go (x ∷ (y ∷ ys)) zero e h = and_left (f x y) (pairwise f (y ∷ ys)) e
    go (x ∷ (y ∷ ys)) (suc i) e h = go (y ∷ ys) i (and_right (f x y) (pairwise f (y ∷ ys)) e) (le_of_suc-le-suc h)

-- neighbours that pass make the list pass
pub pairwise-i : {A : Type 0} (f : A → A → Bool) (d : A) (s : List A) → ((i : ℕ) → i + 1 < length s → f (get_or s i d) (get_or s (i + 1) d) ≡ true) → pairwise f s ≡ true
pairwise-i f d [] h = refl
pairwise-i f d (x ∷ []) h = refl
pairwise-i f d (x ∷ (y ∷ ys)) h =
    ap (λ (b : Bool). b && pairwise f (y ∷ ys)) (h 0 (omega arith))
    ∙ pairwise-i f d (y ∷ ys) (λ i l. let e : suc i + 1 ≡ suc (i + 1) = omega arith in ap (λ (n : ℕ). f (get_or (y ∷ ys) i d) (get_or (x ∷ (y ∷ ys)) n d)) (sym e) ∙ h (suc i) (omega arith))

-- ---- a list of pointers that never falls

module _ (ptr : List ℕ) (n : ℕ) (rises : (r : ℕ) → r < n → get_or ptr r 0 ≤ get_or ptr (r + 1) 0) where
  pub rise-by : (r k : ℕ) → r + k ≤ n → get_or ptr r 0 ≤ get_or ptr (r + k) 0
  rise-by r zero h = subst (λ (x : ℕ). get_or ptr r 0 ≤ get_or ptr x 0) (sym (add-zero r)) (le_refl (get_or ptr r 0))
  rise-by r (suc k) h =
      let e : r + k + 1 ≡ r + suc k = omega arith in
      subst (λ (x : ℕ). get_or ptr r 0 ≤ get_or ptr x 0) e (omega (arith, rise-by r k (omega arith), rises (r + k) (omega arith)))

  pub rise-to : (r k : ℕ) → r ≤ k → k ≤ n → get_or ptr r 0 ≤ get_or ptr k 0
  rise-to r k h u = let e : r + (k - r) ≡ k = omega arith in subst (λ (x : ℕ). get_or ptr r 0 ≤ get_or ptr x 0) e (rise-by r (k - r) (omega arith))

-- running ends: each number below the last of them stands between two
pub step_of : (ends : ℕ → ℕ) (n k : ℕ) → ends 0 ≡ 0 → k < ends n → (r : ℕ) × (r < n) × (ends r ≤ k) × (k < ends (r + 1))
step_of ends zero k first h = absurd (omega arith)
step_of ends (suc n) k first h = go (lt-or-le k (ends n)) (step_of ends n k first)
  where
    go : (k < ends n) ⊎ (ends n ≤ k) → (k < ends n → (r : ℕ) × (r < n) × (ends r ≤ k) × (k < ends (r + 1))) → (r : ℕ) × (r < suc n) × (ends r ≤ k) × (k < ends (r + 1))
    go (inl l) ih = let q : (r : ℕ) × (r < n) × (ends r ≤ k) × (k < ends (r + 1)) = ih l in (q.0, omega arith, q.2, q.3)
    go (inr l) ih = (n, omega arith, l, subst (λ (x : ℕ). k < ends x) (sym (add-one n)) h)

-- ---- membership

pub in-snoc : (c : ℕ) (l : List ℕ) (x : ℕ) → is_in c (l ++ (x ∷ [])) ≡ (is_in c l || eqb x c)
unfolding is_in
in-snoc c [] x = or-false (eqb x c)
in-snoc c (y ∷ ys) x = ap (λ (t : Bool). eqb y c || t) (in-snoc c ys x) ∙ sym (or_assoc (eqb y c) (is_in c ys) (eqb x c))

-- an element of a list is in it, and what is in it is an element
pub in-at : (c : ℕ) (l : List ℕ) (i : ℕ) → i < length l → get_or l i 0 ≡ c → T (is_in c l)
unfolding is_in
in-at c [] i h e = absurd (not-suc-le-zero h)
in-at c (x ∷ xs) zero h e = or_l (eqb x c) (is_in c xs) (T_of (eqb x c) (eq-eqb x c e))
in-at c (x ∷ xs) (suc i) h e = or_r (eqb x c) (is_in c xs) (in-at c xs i (omega arith) e)

pub in-where : (c : ℕ) (l : List ℕ) → T (is_in c l) → (i : ℕ) × (i < length l) × (get_or l i 0 ≡ c)
unfolding is_in
in-where c [] t = absurd t
in-where c (x ∷ xs) t = go (or-e (eqb x c) (is_in c xs) t) (in-where c xs)
  where
    go : T (eqb x c) ⊎ T (is_in c xs) → (T (is_in c xs) → (i : ℕ) × (i < length xs) × (get_or xs i 0 ≡ c)) → (i : ℕ) × (i < suc (length xs)) × (get_or (x ∷ xs) i 0 ≡ c)
    go (inl a) ih = (0, omega arith, eqb→eq x c a)
    go (inr b) ih = let r : (i : ℕ) × (i < length xs) × (get_or xs i 0 ≡ c) = ih b in (suc r.0, omega arith, r.2)

-- ---- equal lists

pub get_d_map : (f : ℕ → ℕ) (l : List ℕ) (n : ℕ) → n < length l → get_or (map f l) n 0 ≡ f (get_or l n 0)
get_d_map f [] n h = absurd (not-suc-le-zero h)
get_d_map f (x ∷ xs) zero h = refl
get_d_map f (x ∷ xs) (suc n) h = get_d_map f xs n (omega arith)

pub same-list : (xs ys : List ℕ) → xs ≡ ys → same_list xs ys ≡ true
unfolding same_list
same-list xs ys e = ap (same_list xs) (sym e) ∙ self xs
  where
    self : (l : List ℕ) → same_list l l ≡ true
    self [] = refl
    self (x ∷ l) = ap (λ (t : Bool). t && same_list l l) (eq-eqb x x refl) ∙ self l

pub list_same : (xs ys : List ℕ) → same_list xs ys ≡ true → xs ≡ ys
unfolding same_list
list_same [] [] e = refl
list_same [] (y ∷ ys) e = absurd (both_ways false e refl)
list_same (x ∷ xs) [] e = absurd (both_ways false e refl)
list_same (x ∷ xs) (y ∷ ys) e = ap₂ ◌∷◌ (eqb-true x y (and_left (eqb x y) (same_list xs ys) e)) (list_same xs ys (and_right (eqb x y) (same_list xs ys) e))

pub other-list : (xs ys : List ℕ) → (xs ≡ ys → ⊥) → same_list xs ys ≡ false
other-list xs ys n = T_false (same_list xs ys) (λ t. n (list_same xs ys (T_true (same_list xs ys) t)))

-- ---- parts of a list

-- a list as far as a later place
pub take_on : (l : List ℕ) (a b : ℕ) → a ≤ b → take b l ≡ take a l ++ slice a b l
take_on l a b h = sym (take-append-drop a (take b l)) ∙ ap (λ (x : List ℕ). x ++ slice a b l) (take-take a b l h)

pub slice_snoc : (f t : ℕ) (l : List ℕ) → f ≤ t → t < length l → slice f (t + 1) l ≡ slice f t l ++ (get_or l t 0 ∷ [])
slice_snoc f t l h u =
    ap (λ (n : ℕ). drop f (take n l)) (add-one t) ∙ ap (drop f) (take-suc l t 0 u)
    ∙ drop-append-le f (take t l) (get_or l t 0 ∷ []) (omega (arith, length-take-le t l (omega arith)))

-- as the code takes it
pub part_slice : {A : Type 0} (f t : ℕ) (l : List A) → take (t - f) (drop f l) ≡ slice f t l
part_slice zero t l = ap (λ (n : ℕ). take n l) (sub-zero t)
part_slice (suc f) zero l = ap (λ (n : ℕ). take n (drop (suc f) l)) (zero-sub (suc f))
part_slice (suc f) (suc t) [] = take-nil (suc t - suc f)
part_slice (suc f) (suc t) (x ∷ l) = ap (λ (n : ℕ). take n (drop f l)) (suc-sub-suc t f) ∙ part_slice f t l

pub get_or-slice : (f t : ℕ) (l : List ℕ) (i : ℕ) → f + i < t → get_or (slice f t l) i 0 ≡ get_or l (f + i) 0
get_or-slice f t l i h = get_or-drop f (take t l) i 0 ∙ get_or-take t l (f + i) 0 h

pub in-empty : (c : ℕ) (t : ℕ) (l : List ℕ) → is_in c (slice t t l) ≡ false
unfolding is_in
in-empty c t l = ap (is_in c) (slice_empty t l)

pub in-slice-at : (c f t : ℕ) (l : List ℕ) (k : ℕ) → t ≤ length l → f ≤ k → k < t → get_or l k 0 ≡ c → T (is_in c (slice f t l))
in-slice-at c f t l k h a b e =
    in-at c (slice f t l) (k - f) (omega (arith, length-slice f t l h)) (get_or-slice f t l (k - f) (omega arith) ∙ ap (λ (n : ℕ). get_or l n 0) (omega arith) ∙ e)

pub in-slice-where : (c f t : ℕ) (l : List ℕ) → t ≤ length l → T (is_in c (slice f t l)) → (k : ℕ) × (f ≤ k) × (k < t) × (get_or l k 0 ≡ c)
in-slice-where c f t l h m =
    let r : (i : ℕ) × (i < length (slice f t l)) × (get_or (slice f t l) i 0 ≡ c) = in-where c (slice f t l) m in
    let b : f + r.0 < t = omega (arith, length-slice f t l h) in
    (f + r.0, omega arith, b, sym (get_or-slice f t l r.0 b) ∙ r.2)

-- a part in two
pub in_parts : (c f m t : ℕ) (l : List ℕ) → f ≤ m → m ≤ t → t ≤ length l → is_in c (slice f t l) ≡ (is_in c (slice f m l) || is_in c (slice m t l))
in_parts c f m t l h u v = bool-ext (is_in c (slice f t l)) (is_in c (slice f m l) || is_in c (slice m t l)) there back
  where
    there : T (is_in c (slice f t l)) → T (is_in c (slice f m l) || is_in c (slice m t l))
    there x = let r : (k : ℕ) × (f ≤ k) × (k < t) × (get_or l k 0 ≡ c) = in-slice-where c f t l v x in part r (lt-or-le r.0 m)
      where
        part : (r : (k : ℕ) × (f ≤ k) × (k < t) × (get_or l k 0 ≡ c)) → (r.0 < m) ⊎ (m ≤ r.0) → T (is_in c (slice f m l) || is_in c (slice m t l))
        part r (inl a) = or_l (is_in c (slice f m l)) (is_in c (slice m t l)) (in-slice-at c f m l r.0 (omega arith) r.1 a r.3)
        part r (inr a) = or_r (is_in c (slice f m l)) (is_in c (slice m t l)) (in-slice-at c m t l r.0 v a r.2 r.3)

    back : T (is_in c (slice f m l) || is_in c (slice m t l)) → T (is_in c (slice f t l))
    back x = part (or-e (is_in c (slice f m l)) (is_in c (slice m t l)) x)
      where
        part : T (is_in c (slice f m l)) ⊎ T (is_in c (slice m t l)) → T (is_in c (slice f t l))
        part (inl a) =
            let r : (k : ℕ) × (f ≤ k) × (k < m) × (get_or l k 0 ≡ c) = in-slice-where c f m l (omega arith) a in
            in-slice-at c f t l r.0 v r.1 (omega (arith, r.2)) r.3
        part (inr a) =
            let r : (k : ℕ) × (m ≤ k) × (k < t) × (get_or l k 0 ≡ c) = in-slice-where c m t l v a in
            in-slice-at c f t l r.0 v (omega (arith, r.1)) r.2 r.3

-- a part with one element more, behind it or before it
pub in-behind : (c f t : ℕ) (l : List ℕ) → f ≤ t → t < length l → is_in c (slice f (t + 1) l) ≡ (is_in c (slice f t l) || eqb (get_or l t 0) c)
in-behind c f t l h u = ap (is_in c) (slice_snoc f t l h u) ∙ in-snoc c (slice f t l) (get_or l t 0)

pub in-ahead : (c f t : ℕ) (l : List ℕ) → f < t → t ≤ length l → is_in c (slice f t l) ≡ (is_in c (slice (f + 1) t l) || eqb (get_or l f 0) c)
unfolding is_in
in-ahead c f t l h u =
    ap (is_in c) (drop-cons (take t l) f 0 (omega (arith, length-take-le t l u)))
    ∙ ap₂ (λ (x n : ℕ). eqb x c || is_in c (drop n (take t l))) (get_or-take t l f 0 h) (sym (add-one f))
    ∙ or_comm (eqb (get_or l f 0) c) (is_in c (slice (f + 1) t l))

-- lists that agree up to a place, or from it on
pub take_same : (l l' : List ℕ) (n : ℕ) → n ≤ length l → n ≤ length l' → ((k : ℕ) → k < n → get_or l' k 0 ≡ get_or l k 0) → take n l' ≡ take n l
take_same l l' n h h' e = ext_get_or 0 (take n l') (take n l) (length-take-le n l' h' ∙ sym (length-take-le n l h)) each
  where
    each : (i : ℕ) → i < length (take n l') → get_or (take n l') i 0 ≡ get_or (take n l) i 0
    each i a = let b : i < n = omega (arith, length-take-le n l' h') in get_or-take n l' i 0 b ∙ e i b ∙ sym (get_or-take n l i 0 b)

pub drop-same : (l l' : List ℕ) (n : ℕ) → length l' ≡ length l → ((k : ℕ) → n ≤ k → get_or l' k 0 ≡ get_or l k 0) → drop n l' ≡ drop n l
drop-same l l' n h e =
    ext_get_or 0 (drop n l') (drop n l) (length-drop n l' ∙ ap (λ (m : ℕ). m - n) h ∙ sym (length-drop n l))
    (λ i a. get_or-drop n l' i 0 ∙ e (n + i) (omega arith) ∙ sym (get_or-drop n l i 0))

-- ---- lists made by a rule

pub length-list_from : {A : Type 0} (f : ℕ → A) (k at : ℕ) → length (list_from f k at) ≡ k
unfolding list_from
length-list_from f zero at = refl
length-list_from f (suc k) at = ap suc (length-list_from f k (suc at))

pub get_or-list_from : {A : Type 0} (f : ℕ → A) (k at j : ℕ) (d : A) → j < k → get_or (list_from f k at) j d ≡ f (at + j)
unfolding list_from
get_or-list_from f zero at j d h = absurd (not-suc-le-zero h)
get_or-list_from f (suc k) at zero d h = ap f (omega arith)
get_or-list_from f (suc k) at (suc j) d h = get_or-list_from f k (suc at) j d (omega arith) ∙ ap f (omega arith)

pub list_from-cong : {A : Type 0} (f g : ℕ → A) (k at : ℕ) → ((i : ℕ) → at ≤ i → i < at + k → f i ≡ g i) → list_from f k at ≡ list_from g k at
unfolding list_from
list_from-cong f g zero at e = refl
list_from-cong f g (suc k) at e = ap₂ ◌∷◌ (e at (omega arith) (omega arith)) (list_from-cong f g k (suc at) (λ i l u. e i (omega arith) (omega arith)))

-- in two parts
pub list_from-append : {A : Type 0} (f : ℕ → A) (a b at : ℕ) → list_from f (a + b) at ≡ list_from f a at ++ list_from f b (at + a)
unfolding list_from
list_from-append f zero b at = ap₂ (list_from f) (zero-add b) (sym (add-zero at))
list_from-append {A = A} f (suc a) b at =
    let s : suc a + b ≡ suc (a + b) = omega arith in
    let e : suc at + a ≡ at + suc a = omega arith in
    ap (λ (n : ℕ). list_from f n at) s ∙ ap (λ (l : List A). f at ∷ l) (list_from-append f a b (suc at) ∙ ap (λ (n : ℕ). list_from f a (suc at) ++ list_from f b n) e)

-- from a later place on
pub list_from-shift : {A : Type 0} (f : ℕ → A) (k a at : ℕ) → list_from f k (a + at) ≡ list_from (λ i. f (a + i)) k at
unfolding list_from
list_from-shift f zero a at = refl
list_from-shift {A = A} f (suc k) a at =
    let e : suc (a + at) ≡ a + suc at = omega arith in
    ap (λ (l : List A). f (a + at) ∷ l) (ap (list_from f k) e ∙ list_from-shift f k a (suc at))

-- ---- a loop that writes the list X over the front of a lent list o, one store a turn

module _ {A : Type 0} (X o : List A) where
  pub put_next : (out : List A) (i : ℕ) (v d : A) → i < length X → i < length o → out ≡ written i X o → v ≡ get_or X i d → set out i v ≡ written (i + 1) X o
  put_next out i v d hx ho e ev =
      ap (λ (l : List A). set l i v) (e ∙ ap (λ (l : List A). take i X ++ l) (drop-cons o i d ho))
      ∙ set_at (take i X) (get_or o i d) (drop (suc i) o) v i (length-take-le i X (le_of_lt hx))
      ∙ ap (λ (a : A). take i X ++ a ∷ drop (suc i) o) ev
      ∙ sym (append_snoc (take i X) (get_or X i d) (drop (suc i) o))
      ∙ ap (λ (l : List A). l ++ drop (suc i) o) (sym (take-suc X i d hx))
      ∙ ap (λ (n : ℕ). take n X ++ drop n o) (sym (add-one i))

  pub put-end : (out : List A) (i : ℕ) → i ≡ length X → out ≡ written i X o → out ≡ over X o
  put-end out i h e = e ∙ ap (λ (n : ℕ). take n X ++ drop n o) h ∙ ap (λ (l : List A). l ++ drop (length X) o) (take_all (length X) X (omega arith))

  -- the whole of the lent list
  pub put_whole : (out : List A) (i : ℕ) → length X ≡ length o → i ≡ length o → out ≡ written i X o → out ≡ X
  put_whole out i h k e =
      put-end out i (k ∙ sym h) e ∙ ap (λ (n : ℕ). X ++ drop n o) h ∙ ap (λ (l : List A). X ++ l) (drop-length o) ∙ append-nil X

-- ---- a lent list of which a part was written: `&mut lent[..need]`

module _ {A : Type 0} (part answer lent : List A) (need : ℕ) (e : part ≡ answer) (l : need ≡ length answer) where
  pub part_left : part ++ drop need lent ≡ over answer lent
  part_left = ap₂ (λ (p : List A) (k : ℕ). p ++ drop k lent) e l

  pub part_room : need ≤ length (part ++ drop need lent)
  part_room = omega (arith, length-append part (drop need lent), ap length e)

  pub part-take : take need (part ++ drop need lent) ≡ answer
  part-take = ap (λ (k : ℕ). take k (part ++ drop need lent)) (l ∙ ap length (sym e)) ∙ take-append_seam part (drop need lent) ∙ e

-- ---- a loop that writes zeros from lo on

module _ (lo : ℕ) (l : List ℕ) where
  pub zero-length : (i : ℕ) → lo ≤ i → i ≤ length l → length (zeroed lo i l) ≡ length l
  zero-length i h k = simp (length-append, length-take, length-replicate, length-drop) (omega arith)

-- an answer's own part of the list that it was written over, and of one with zeros past it
pub over-own : {A : Type 0} (X l : List A) (m : ℕ) → length X ≡ m → take m (over X l) ≡ X
over-own X l m h = take_at X (drop (length X) l) m h

pub zeros-own : (X l : List ℕ) (m n : ℕ) → length X ≡ m → take m (over_with_zeros X n l) ≡ X
zeros-own X l m n h =
    let Z : List ℕ = replicate {A = ℕ} (n - length X) 0 in
    ap (take m) (append_assoc X Z (drop (length (X ++ Z)) l)) ∙ take_at X (Z ++ drop (length (X ++ Z)) l) m h

-- zeros past an answer that stands at the front
pub zero-over : (X o l : List ℕ) (to n : ℕ) → take to l ≡ X → to ≡ length X → to ≤ n → drop n l ≡ drop n o → zeroed to n l ≡ over_with_zeros X n o
zero-over X o l to n e s h d =
    let w : length X + (n - length X) ≡ n = omega arith in
    let long : length (X ++ replicate {A = ℕ} (n - length X) 0) ≡ n =
    length-append X (replicate {A = ℕ} (n - length X) 0) ∙ ap (λ (k : ℕ). length X + k) (length-replicate {A = ℕ} (n - length X) 0) ∙ w in
    ap₂ (λ (x y : List ℕ). (x ++ replicate {A = ℕ} (n - to) 0) ++ y) e d ∙ ap₂ (λ (k j : ℕ). (X ++ replicate {A = ℕ} (n - k) 0) ++ drop j o) s (sym long)

-- and past one that was written over the front
pub over_zeros : (X o l : List ℕ) (to n : ℕ) → l ≡ over X o → to ≡ length X → to ≤ n → zeroed to n l ≡ over_with_zeros X n o
over_zeros X o l to n e s h =
    let w : n ≡ length X + (n - length X) = omega arith in
    let past : drop n l ≡ drop n o =
    ap (drop n) e ∙ ap (λ (k : ℕ). drop k (over X o)) w ∙ drop-append-add X (drop (length X) o) (n - length X) ∙ drop-drop (n - length X) (length X) o ∙ ap (λ (k : ℕ). drop k o) (sym w) in
    zero-over X o l to n (ap (take to) e ∙ over-own X o to (sym s)) s h past

-- what is still to come is as it was
pub put-ahead : {A : Type 0} (X o : List A) (k : ℕ) (d : A) → k < length X → k < length o → get_or (written k X o) k d ≡ get_or o k d
put-ahead [] o k d h l = absurd (not-suc-le-zero h)
put-ahead (x ∷ X) [] k d h l = absurd (not-suc-le-zero l)
put-ahead (x ∷ X) (y ∷ o) zero d h l = refl
put-ahead (x ∷ X) (y ∷ o) (suc k) d h l = put-ahead X o k d (le_of_suc-le-suc h) (le_of_suc-le-suc l)

-- writing on from what is written: an inner loop inside an outer one
pub put-put : {A : Type 0} (X o : List A) (a b : ℕ) → a ≤ b → a ≤ length X → a ≤ length o → written b X (written a X o) ≡ written b X o
put-put X o zero b h p q = refl
put-put X o (suc a) zero h p q = absurd (not-suc-le-zero h)
put-put [] o (suc a) (suc b) h p q = absurd (not-suc-le-zero p)
put-put (x ∷ X) [] (suc a) (suc b) h p q = absurd (not-suc-le-zero q)
put-put {A = A} (x ∷ X) (y ∷ o) (suc a) (suc b) h p q =
    ap (λ (z : List A). x ∷ z) (put-put X o a b (le_of_suc-le-suc h) (le_of_suc-le-suc p) (le_of_suc-le-suc q))

-- the list from n on has a head: what that says
pub at_head : {A : Type 0} (l : List A) (n : ℕ) (x : A) (t : List A) (d : A) → drop n l ≡ x ∷ t → (n < length l) × (x ≡ get_or l n d) × (drop (n + 1) l ≡ t)
at_head {A = A} l n x t d e =
    let h : n < length l = omega (arith, ap length e, length-drop n l) in (
      h,
      ap (λ (m : List A). get_or m 0 d) (sym e ∙ drop-cons l n d h),
      ap (λ (k : ℕ). drop k l) (add-one n) ∙ ap (drop 1) (sym (drop-cons l n d h) ∙ e),
    )

-- what stood in the first place makes no difference to an answer over it
pub over_first : {A : Type 0} (X l : List A) (v : A) → 0 < length X → over X (set l 0 v) ≡ over X l
over_first [] l v h = absurd (omega arith)
over_first (x ∷ X) [] v h = refl
over_first (x ∷ X) (y ∷ l) v h = refl

-- ---- a list written from a place on

module _ {A : Type 0} where
  pub placed-none : (at : ℕ) (l : List A) → placed at [] l ≡ l
  unfolding placed
  placed-none at l = ap (λ (k : ℕ). take at l ++ drop k l) (add-zero at) ∙ take-append-drop at l

  pub placed-length : (at : ℕ) (X l : List A) → at + length X ≤ length l → length (placed at X l) ≡ length l
  unfolding placed
  placed-length at X l h =
      length-append (take at l) (X ++ drop (at + length X) l)
      ∙ omega (arith, length-append X (drop (at + length X) l), length-take at l, length-drop (at + length X) l)

  -- at the end of what stands already
  pub placed-over : (Y X l : List A) → placed (length Y) X (over Y l) ≡ over (Y ++ X) l
  unfolding placed
  placed-over Y X l =
      ap₂ (λ (a b : List A). a ++ (X ++ b)) (take-append_seam Y (drop (length Y) l)) (drop-append-add Y (drop (length Y) l) (length X) ∙ drop-drop (length X) (length Y) l)
      ∙ sym (append_assoc Y X (drop (length Y + length X) l))
      ∙ ap (λ (k : ℕ). (Y ++ X) ++ drop k l) (sym (length-append Y X))

  -- one more element
  pub placed-next : (at : ℕ) (X l : List A) (v d : A) → at + length X < length l → set (placed at X l) (at + length X) v ≡ placed at (X ++ (v ∷ [])) l
  unfolding placed
  placed-next at X l v d h =
      let long : length (take at l ++ X) ≡ at + length X = length-append (take at l) X ∙ ap (λ (k : ℕ). k + length X) (length-take-le at l (omega arith)) in
      let grown : at + length X + 1 ≡ at + length (X ++ (v ∷ [])) = omega (arith, length-append X (v ∷ [])) in
      ap (λ (b : List A). set b (at + length X) v) (sym (append_assoc (take at l) X (drop (at + length X) l)) ∙ ap (λ (b : List A). (take at l ++ X) ++ b) (drop-cons l (at + length X) d h))
      ∙ set_at (take at l ++ X) (get_or l (at + length X) d) (drop (suc (at + length X)) l) v (at + length X) long
      ∙ append_assoc (take at l) X (v ∷ drop (suc (at + length X)) l)
      ∙ ap (λ (b : List A). take at l ++ b) (sym (append_assoc X (v ∷ []) (drop (suc (at + length X)) l)))
      ∙ ap (λ (k : ℕ). take at l ++ ((X ++ (v ∷ [])) ++ drop k l)) (sym (add-one (at + length X)) ∙ grown)

  -- more behind it
  pub placed-more : (at : ℕ) (X Y l : List A) → at + length X ≤ length l → placed (at + length X) Y (placed at X l) ≡ placed at (X ++ Y) l
  unfolding placed
  placed-more at X Y l h =
      let long : length (take at l ++ X) ≡ at + length X = length-append (take at l) X ∙ ap (λ (k : ℕ). k + length X) (length-take-le at l (omega arith)) in
      let both : at + length X + length Y ≡ at + length (X ++ Y) = omega (arith, length-append X Y) in
      ap (λ (b : List A). take (at + length X) b ++ (Y ++ drop (at + length X + length Y) b)) (sym (append_assoc (take at l) X (drop (at + length X) l)))
      ∙ ap (λ (k : ℕ). take k ((take at l ++ X) ++ drop (at + length X) l) ++ (Y ++ drop (k + length Y) ((take at l ++ X) ++ drop (at + length X) l))) (sym long)
      ∙ ap₂ (λ (a b : List A). a ++ (Y ++ b)) (take-append_seam (take at l ++ X) (drop (at + length X) l))
      (drop-append-add (take at l ++ X) (drop (at + length X) l) (length Y) ∙ drop-drop (length Y) (at + length X) l)
      ∙ append_assoc (take at l) X (Y ++ drop (at + length X + length Y) l)
      ∙ ap (λ (b : List A). take at l ++ b) (sym (append_assoc X Y (drop (at + length X + length Y) l)))
      ∙ ap (λ (k : ℕ). take at l ++ ((X ++ Y) ++ drop k l)) both

-- ---- elements of an answer, of a mapped list, and all of them

pub over-at : {A : Type 0} (X l : List A) (k : ℕ) (d : A) → k < length X → get_or (over X l) k d ≡ get_or X k d
over-at X l k d h = get_or-append X (drop (length X) l) d k h

pub over-beyond : {A : Type 0} (X l : List A) (k : ℕ) (d : A) → get_or (over X l) (length X + k) d ≡ get_or l (length X + k) d
over-beyond X l k d = get_or-append-add X (drop (length X) l) k d ∙ get_or-drop (length X) l k d

pub over-room : {A : Type 0} (X l : List A) → length X ≤ length (over X l)
over-room X l = omega (arith, length-append X (drop (length X) l))

pub get_or-mapped : {A B : Type 0} (f : A → B) (l : List A) (i : ℕ) (a : A) (b : B) → i < length l → get_or (map f l) i b ≡ f (get_or l i a)
get_or-mapped f [] i a b h = absurd (not-suc-le-zero h)
get_or-mapped f (x ∷ xs) zero a b h = refl
get_or-mapped f (x ∷ xs) (suc i) a b h = get_or-mapped f xs i a b (omega arith)

pub every-all : {A : Type 0} (f : A → Bool) (d : A) (s : List A) → ((i : ℕ) → i < length s → f (get_or s i d) ≡ true) → every f s ≡ true
every-all f d [] h = refl
every-all f d (x ∷ xs) h = ap₂ ◌&&◌ (h 0 (omega arith)) (every-all f d xs (λ i l. h (suc i) (omega arith)))

-- ---- mapped lists

pub map-two : {A B C : Type 0} (f : B → C) (g : A → B) (l : List A) → map f (map g l) ≡ map (λ (a : A). f (g a)) l
map-two f g [] = refl
map-two {C = C} f g (x ∷ l) = ap (λ (t : List C). f (g x) ∷ t) (map-two f g l)

pub map-append : {A B : Type 0} (f : A → B) (a b : List A) → map f (a ++ b) ≡ map f a ++ map f b
map-append f [] b = refl
map-append {B = B} f (x ∷ a) b = ap (λ (t : List B). f x ∷ t) (map-append f a b)

-- the front of a list of equal elements, and of a list by a rule
pub take-replicate : {A : Type 0} (k n : ℕ) (x : A) → k ≤ n → take k (replicate n x) ≡ replicate k x
take-replicate zero n x h = refl
take-replicate (suc k) zero x h = absurd (not-suc-le-zero h)
take-replicate {A} (suc k) (suc n) x h = ap (λ (l : List A). x ∷ l) (take-replicate k n x (le_of_suc-le-suc h))

pub take-list_from : {A : Type 0} (f : ℕ → A) (k n at : ℕ) → k ≤ n → take k (list_from f n at) ≡ list_from f k at
take-list_from f k n at h =
    let e : n ≡ k + (n - k) = omega arith in
    ap (λ (m : ℕ). take k (list_from f m at)) e ∙ ap (take k) (list_from-append f k (n - k) at) ∙ take_at (list_from f k at) (list_from f (n - k) (at + k)) k (length-list_from f k at)
