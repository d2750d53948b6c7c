-- Laws of lists put end to end. Assumes nothing.
use mathlib.Core.Path.{◌≡◌, refl, sym, ap, ap₂, ◌∙◌}
use mathlib.Core.Bool.{Bool, true, false, cond}
use mathlib.Core.List.{List, [], ◌∷◌, ◌++◌, map, append-nil, append_assoc}
use Prim.Native.Nat.{ℕ, zero, suc, ◌+◌, ◌-◌, ◌≤◌, ◌<◌}
use native.Mathlib.Omega.{arith}
use native.Mathlib.Nat.{add-zero}
use native.Mathlib.Numerals.{add-one}
use lib.ListN.{length, get_or, take, drop, length-append, get_or-append}
use lib.Seq.{slice, take_at, drop_at, get_or-append-add, get_or-drop, get_or-take}
use Rattle.base.specs.Lists.{join_below}
use Rattle.base.specs.Sets.{sum_below, keep, members_from}
use Rattle.base.proofs.Lists.{map-append}
use Rattle.base.proofs.Sets.{sum-cong, sum-append, members-zero, members-suc}

module _ {A : Type 0} where
  pub join-none : (f : ℕ → List A) → join_below 0 f ≡ []
  unfolding join_below
  join-none f = refl

  pub join-next : (n : ℕ) (f : ℕ → List A) → join_below (n + 1) f ≡ join_below n f ++ f n
  unfolding join_below
  join-next n f = ap (λ (k : ℕ). join_below k f) (add-one n)

  pub join-cong : (n : ℕ) (f g : ℕ → List A) → ((r : ℕ) → r < n → f r ≡ g r) → join_below n f ≡ join_below n g
  unfolding join_below
  join-cong zero f g h = refl
  join-cong (suc n) f g h = ap₂ (λ (x y : List A). x ++ y) (join-cong n f g (λ r l. h r (omega arith))) (h n (omega arith))

  -- the first m of them, and the rest
  pub join-part : (m d : ℕ) (f : ℕ → List A) → (rest : List A) × (join_below (m + d) f ≡ join_below m f ++ rest)
  join-part m zero f = ([], ap (λ (k : ℕ). join_below k f) (add-zero m) ∙ sym (append-nil (join_below m f)))
  join-part m (suc d) f = go (join-part m d f)
    where
      step : m + suc d ≡ (m + d) + 1
      step = omega arith

      go : (rest : List A) × (join_below (m + d) f ≡ join_below m f ++ rest) → (rest : List A) × (join_below (m + suc d) f ≡ join_below m f ++ rest)
      go r =
          (r.0 ++ f (m + d), ap (λ (k : ℕ). join_below k f) step ∙ join-next (m + d) f ∙ ap (λ (x : List A). x ++ f (m + d)) r.1 ∙ append_assoc (join_below m f) r.0 (f (m + d)))

  -- in two parts
  pub join-append : (m d : ℕ) (f : ℕ → List A) → join_below (m + d) f ≡ join_below m f ++ join_below d (λ j. f (m + j))
  unfolding join_below
  join-append m zero f = ap (λ (k : ℕ). join_below k f) (add-zero m) ∙ sym (append-nil (join_below m f))
  join-append m (suc d) f =
      let step : m + suc d ≡ (m + d) + 1 = omega arith in
      ap (λ (k : ℕ). join_below k f) step ∙ join-next (m + d) f
      ∙ ap (λ (x : List A). x ++ f (m + d)) (join-append m d f)
      ∙ append_assoc (join_below m f) (join_below d (λ j. f (m + j))) (f (m + d))

  -- list r stands between where it starts and where it ends
  pub join-slice : (n r : ℕ) (f : ℕ → List A) → r < n → slice (length (join_below r f)) (length (join_below (r + 1) f)) (join_below n f) ≡ f r
  join-slice n r f h = go (join-part (r + 1) (n - (r + 1)) f)
    where
      whole : r + 1 + (n - (r + 1)) ≡ n
      whole = omega arith

      go : (rest : List A) × (join_below (r + 1 + (n - (r + 1))) f ≡ join_below (r + 1) f ++ rest) → slice (length (join_below r f)) (length (join_below (r + 1) f)) (join_below n f) ≡ f r
      go p =
          ap (λ (l : List A). drop (length (join_below r f)) (take (length (join_below (r + 1) f)) l)) (ap (λ (k : ℕ). join_below k f) (sym whole) ∙ p.1)
          ∙ ap (drop (length (join_below r f))) (take_at (join_below (r + 1) f) p.0 (length (join_below (r + 1) f)) refl)
          ∙ ap (drop (length (join_below r f))) (join-next r f) ∙ drop_at (join_below r f) (f r) (length (join_below r f)) refl

  pub join_up : (n r : ℕ) (f : ℕ → List A) → r ≤ n → length (join_below r f) ≤ length (join_below n f)
  join_up n r f h = go (join-part r (n - r) f)
    where
      whole : r + (n - r) ≡ n
      whole = omega arith

      go : (rest : List A) × (join_below (r + (n - r)) f ≡ join_below r f ++ rest) → length (join_below r f) ≤ length (join_below n f)
      go p = omega (arith, ap length (ap (λ (k : ℕ). join_below k f) (sym whole) ∙ p.1), length-append (join_below r f) p.0)

pub join-length : {A B : Type 0} (n : ℕ) (f : ℕ → List A) (g : ℕ → List B) → ((r : ℕ) → r < n → length (f r) ≡ length (g r)) → length (join_below n f) ≡ length (join_below n g)
unfolding join_below
join-length zero f g h = refl
join-length (suc n) f g h =
    length-append (join_below n f) (f n) ∙ ap₂ ◌+◌ (join-length n f g (λ r l. h r (omega arith))) (h n (omega arith)) ∙ sym (length-append (join_below n g) (g n))

-- how long they are together
pub join-count : {A : Type 0} (n : ℕ) (f : ℕ → List A) → length (join_below n f) ≡ sum_below n (λ r. length (f r))
unfolding join_below sum_below
join-count zero f = refl
join-count (suc n) f = length-append (join_below n f) (f n) ∙ ap (λ (k : ℕ). k + length (f n)) (join-count n f)

-- element q stands in list r
pub join-at : {A : Type 0} (n r : ℕ) (f : ℕ → List A) (q : ℕ) (d : A) → r < n → length (join_below r f) ≤ q → q < length (join_below (r + 1) f)
    → get_or (join_below n f) q d ≡ get_or (f r) (q - length (join_below r f)) d
join-at {A = A} n r f q d h a b =
    let s : length (join_below r f) + (q - length (join_below r f)) ≡ q = omega arith in
    sym (get_or-drop (length (join_below r f)) (take (length (join_below (r + 1) f)) (join_below n f)) (q - length (join_below r f)) d ∙ get_or-take (length (join_below (r + 1) f)) (join_below n f) (length (join_below r f) + (q - length (join_below r f))) d (omega arith) ∙ ap (λ (k : ℕ). get_or (join_below n f) k d) s)
    ∙ ap (λ (l : List A). get_or l (q - length (join_below r f)) d) (join-slice n r f h)

-- a sum over their elements is the sum of the sums over each list's
pub join-sum : {A : Type 0} (n : ℕ) (f : ℕ → List A) (g : A → ℕ) (d : A) → sum_below (length (join_below n f)) (λ j. g (get_or (join_below n f) j d)) ≡ sum_below n (λ r. sum_below (length (f r)) (λ i. g (get_or (f r) i d)))
unfolding join_below sum_below
join-sum zero f g d = refl
join-sum (suc n) f g d =
    ap (λ (k : ℕ). sum_below k (λ j. g (get_or (join_below n f ++ f n) j d))) (length-append (join_below n f) (f n))
    ∙ sum-append (length (join_below n f)) (length (f n)) (λ j. g (get_or (join_below n f ++ f n) j d))
    ∙ ap₂ ◌+◌
    (sum-cong (length (join_below n f)) (λ j. g (get_or (join_below n f ++ f n) j d)) (λ j. g (get_or (join_below n f) j d)) (λ i h. ap g (get_or-append (join_below n f) (f n) d i h)) ∙ join-sum n f g d)
    (sum-cong (length (f n)) (λ j. g (get_or (join_below n f ++ f n) (length (join_below n f) + j) d)) (λ j. g (get_or (f n) j d)) (λ i h. ap g (get_or-append-add (join_below n f) (f n) i d)))

-- ---- of a rule, from the front, and over the members of a set

pub map-join : {A B : Type 0} (f : A → B) (n : ℕ) (g : ℕ → List A) → map f (join_below n g) ≡ join_below n (λ j. map f (g j))
unfolding join_below
map-join f zero g = refl
map-join {B = B} f (suc n) g = map-append f (join_below n g) (g n) ∙ ap (λ (t : List B). t ++ map f (g n)) (map-join f n g)

pub join_front : {A : Type 0} (n : ℕ) (f : ℕ → List A) → join_below (suc n) f ≡ f 0 ++ join_below n (λ j. f (suc j))
unfolding join_below
join_front zero f = sym (append-nil (f 0))
join_front {A = A} (suc n) f = ap (λ (x : List A). x ++ f (suc n)) (join_front n f) ∙ append_assoc (f 0) (join_below n (λ j. f (suc j))) (f (suc n))

join-keep : {A : Type 0} (f : ℕ → List A) (b : ℕ) (t : Bool) (l : List ℕ) → join_below (length (keep t b l)) (λ k. f (get_or (keep t b l) k 0)) ≡ cond t (f b) [] ++ join_below (length l) (λ k. f (get_or l k 0))
join-keep f b true l = join_front (length l) (λ k. f (get_or (b ∷ l) k 0))
join-keep f b false l = refl

pub join-members : {A : Type 0} (f : ℕ → List A) (p : ℕ → Bool) (b n : ℕ) → join_below (length (members_from p b n)) (λ k. f (get_or (members_from p b n) k 0)) ≡ join_below n (λ j. cond (p (b + j)) (f (b + j)) [])
join-members f p b zero = ap (λ (l : List ℕ). join_below (length l) (λ k. f (get_or l k 0))) (members-zero p b) ∙ join-none (λ k. f (get_or [] k 0)) ∙ sym (join-none (λ j. cond (p (b + j)) (f (b + j)) []))
join-members f p b (suc n) =
    ap (λ (l : List ℕ). join_below (length l) (λ k. f (get_or l k 0))) (members-suc p b n)
    ∙ join-keep f b (p b) (members_from p (suc b) n)
    ∙ ap₂ ◌++◌ (ap (λ (x : ℕ). cond (p x) (f x) []) (sym (add-zero b))) (join-members f p (suc b) n ∙ join-cong n _ _ (λ j l. ap (λ (x : ℕ). cond (p x) (f x) []) (next b j)))
    ∙ sym (join_front n (λ j. cond (p (b + j)) (f (b + j)) []))
  where
    next : (b j : ℕ) → suc b + j ≡ b + suc j
    next b j = omega arith
