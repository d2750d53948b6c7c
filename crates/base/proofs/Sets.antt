-- Laws of sets of numbers below a bound: any, every, sums and counts, members in rising order. Assumes nothing.
use mathlib.Core.Path.{◌≡◌, refl, sym, ap, ap₂, ◌∙◌, subst}
use mathlib.Core.Logic.{◌⊎◌, inl, inr}
use mathlib.Core.Bool.{Bool, true, false, cond, ◌&&◌, ◌||◌, or_assoc}
use mathlib.Core.List.{List, [], ◌∷◌, ◌++◌, map, append-nil}
use Prim.Native.Nat.{ℕ, zero, suc, ◌+◌, ◌-◌, ◌*◌, ◌≤◌, ◌<◌, max}
use native.Mathlib.Omega.{arith}
use native.Mathlib.Nat.{not-suc-le-zero, zero-add, add-zero, add-suc, suc-add, le_refl, le_of_suc-le-suc, mul-suc}
use native.Mathlib.Numerals.{add-one}
use native.Mathlib.Decide.{ℕ_discrete}
use lib.Dec.{T}
use lib.ListN.{length, get_or}
use lib.Seq.{get_or-append_seam}
use Rattle.base.specs.Lists.{every}
use Rattle.base.specs.Sets.{any_below, first_below, every_below, sum_below, largest_below, one_if, count_below, sum_over, keep, members_from, members_below}
use Rattle.base.proofs.Bools.{bool-ext, decide, lt-or-le, and_l, and_r, and_i, or_l, or_r, or-e, T_true, T_false, T_of, not-T-of, or-false}

-- ---- any

pub any-i : (n : ℕ) (p : ℕ → Bool) (i : ℕ) → i < n → T (p i) → T (any_below n p)
unfolding any_below
any-i zero p i h t = absurd (not-suc-le-zero h)
any-i (suc n) p i h t = go (ℕ_discrete i n) (λ h'. any-i n p i h' t)
  where
    go : Dec (i ≡ n) → (i < n → T (any_below n p)) → T (any_below n p || p n)
    go (yes e) ih = or_r (any_below n p) (p n) (subst (λ (x : ℕ). T (p x)) e t)
    go (no e) ih = or_l (any_below n p) (p n) (ih (omega arith))

pub any-e : (n : ℕ) (p : ℕ → Bool) → T (any_below n p) → (i : ℕ) × (i < n) × T (p i)
unfolding any_below
any-e zero p h = absurd h
any-e (suc n) p h = go (any-e n p) (or-e (any_below n p) (p n) h)
  where
    go : (T (any_below n p) → (i : ℕ) × (i < n) × T (p i)) → T (any_below n p) ⊎ T (p n) → (i : ℕ) × (i < suc n) × T (p i)
    go ih (inl a) = let r : (i : ℕ) × (i < n) × T (p i) = ih a in (r.0, omega arith, r.2)
    go ih (inr b) = (n, omega arith, b)

pub any-cong : (n : ℕ) (p q : ℕ → Bool) → ((i : ℕ) → i < n → p i ≡ q i) → any_below n p ≡ any_below n q
unfolding any_below
any-cong zero p q e = refl
any-cong (suc n) p q e = ap₂ ◌||◌ (any-cong n p q (λ i h. e i (omega arith))) (e n (omega arith))

pub any_none : (n : ℕ) (p : ℕ → Bool) → ((i : ℕ) → i < n → T (p i) → ⊥) → any_below n p ≡ false
any_none n p f = T_false (any_below n p) (λ t. let r : (i : ℕ) × (i < n) × T (p i) = any-e n p t in f r.0 r.1 r.2)

-- nothing between passes
pub any-past : (len n : ℕ) (p : ℕ → Bool) → len ≤ n → ((i : ℕ) → len ≤ i → i < n → T (p i) → ⊥) → any_below n p ≡ any_below len p
any-past len n p h none =
    bool-ext (any_below n p) (any_below len p)
    (λ t. let r : (i : ℕ) × (i < n) × T (p i) = any-e n p t in go r.0 r.1 r.2 (lt-or-le r.0 len))
    (λ t. let r : (i : ℕ) × (i < len) × T (p i) = any-e len p t in any-i n p r.0 (omega arith) r.2)
  where
    go : (i : ℕ) → i < n → T (p i) → (i < len) ⊎ (len ≤ i) → T (any_below len p)
    go i l t (inl b) = any-i len p i b t
    go i l t (inr b) = absurd (none i b l t)

-- a member alone, and what is below it
pub any_next : (n : ℕ) (p : ℕ → Bool) → any_below (n + 1) p ≡ (any_below n p || p n)
unfolding any_below
any_next n p = ap (λ (k : ℕ). any_below k p) (add-one n)

-- a range in two parts
pub any_append : (a b : ℕ) (p : ℕ → Bool) → any_below (a + b) p ≡ (any_below a p || any_below b (λ j. p (a + j)))
unfolding any_below
any_append a zero p = ap (λ (x : ℕ). any_below x p) (add-zero a) ∙ sym (or-false (any_below a p))
any_append a (suc b) p =
    ap (λ (x : ℕ). any_below x p) (add-suc a b) ∙ ap (λ (t : Bool). t || p (a + b)) (any_append a b p)
    ∙ or_assoc (any_below a p) (any_below b (λ j. p (a + j))) (p (a + b))

pub any-or : (n : ℕ) (p q : ℕ → Bool) → any_below n (λ i. p i || q i) ≡ (any_below n p || any_below n q)
unfolding any_below
any-or zero p q = refl
any-or (suc n) p q = ap (λ (t : Bool). t || (p n || q n)) (any-or n p q) ∙ swap (any_below n p) (any_below n q) (p n) (q n)
  where
    swap : (a b x y : Bool) → ((a || b) || (x || y)) ≡ ((a || x) || (b || y))
    swap true b x y = refl
    swap false true true y = refl
    swap false true false y = refl
    swap false false x y = refl

-- nothing below n passes: what a scan that found nothing says
abbrev pub None : (ℕ → Bool) → ℕ → Type 0
None p n = (i : ℕ) → i < n → T (p i) → ⊥

-- ---- what holds of every number below b, and of b

pub below_next : (P : ℕ → Type 0) (b : ℕ) → ((i : ℕ) → i < b → P i) → P b → (i : ℕ) → i < b + 1 → P i
below_next P b h e i l = go (ℕ_discrete i b)
  where
    go : Dec (i ≡ b) → P i
    go (yes d) = subst P (sym d) e
    go (no d) = h i (omega arith)

-- ---- the first

-- i passes and nothing before it does
pub first-is : (n : ℕ) (p : ℕ → Bool) (i : ℕ) → i < n → T (p i) → None p i → first_below n p ≡ i
unfolding first_below
first-is zero p i h t none = absurd (not-suc-le-zero h)
first-is (suc n) p zero h t none = ap (λ (b : Bool). cond b 0 (suc (first_below n (λ i. p (suc i))))) (T_true (p 0) t)
first-is (suc n) p (suc i) h t none =
    ap (λ (b : Bool). cond b 0 (suc (first_below n (λ i. p (suc i))))) (T_false (p 0) (none 0 (omega arith)))
    ∙ ap suc (first-is n (λ i. p (suc i)) i (omega arith) t (λ j l. none (suc j) (omega arith)))

pub first-none : (n : ℕ) (p : ℕ → Bool) → None p n → first_below n p ≡ n
unfolding first_below
first-none zero p none = refl
first-none (suc n) p none =
    ap (λ (b : Bool). cond b 0 (suc (first_below n (λ i. p (suc i))))) (T_false (p 0) (none 0 (omega arith)))
    ∙ ap suc (first-none n (λ i. p (suc i)) (λ j l. none (suc j) (omega arith)))

-- the same of a range that starts further on
module _ (p : ℕ → Bool) (from to : ℕ) where
  pub first-from : (k : ℕ) → from ≤ k → k < to → T (p k) → ((i : ℕ) → from ≤ i → i < k → T (p i) → ⊥) → k ≡ from + first_below (to - from) (λ j. p (from + j))
  first-from k h l t none =
      let s : from + (k - from) ≡ k = omega arith in
      sym (ap (λ (n : ℕ). from + n) (first-is (to - from) (λ j. p (from + j)) (k - from) (omega arith) (subst (λ (n : ℕ). T (p n)) (sym s) t) (λ i u. none (from + i) (omega arith) (omega arith))) ∙ s)

  pub none_from : from ≤ to → ((i : ℕ) → from ≤ i → i < to → T (p i) → ⊥) → to ≡ from + first_below (to - from) (λ j. p (from + j))
  none_from h none =
      let s : from + (to - from) ≡ to = omega arith in
      sym (ap (λ (n : ℕ). from + n) (first-none (to - from) (λ j. p (from + j)) (λ i u. none (from + i) (omega arith) (omega arith))) ∙ s)

-- what the first is: it passes if it is below n, and nothing before it passes
pub record First (n : ℕ) (p : ℕ → Bool) (i : ℕ) : Type 0 where
  pub within : i ≤ n
  pub passes : i < n → T (p i)
  pub before : None p i

pub first-at : (n : ℕ) (p : ℕ → Bool) → First n p (first_below n p)
unfolding first_below
first-at zero p = record { within = omega arith; passes = λ h. absurd (omega arith); before = λ j h t. absurd (omega arith) }
first-at (suc n) p = go (p 0) refl (first-at n (λ i. p (suc i)))
  where
    k : ℕ
    k = first_below n (λ i. p (suc i))

    go : (b : Bool) → p 0 ≡ b → First n (λ i. p (suc i)) k → First (suc n) p (cond b 0 (suc k))
    go true e f = record { within = omega arith; passes = λ h. T_of (p 0) e; before = λ j h t. absurd (omega arith) }
    go false e f = record { within = omega (arith, f.within); passes = λ h. f.passes (omega arith); before = λ j h t. under j h t }
      where
        under : (j : ℕ) → j < suc k → T (p j) → ⊥
        under zero h t = not-T-of (p 0) e t
        under (suc j) h t = f.before j (omega arith) t

-- ---- every

pub every-i : (n : ℕ) (p : ℕ → Bool) → ((i : ℕ) → i < n → T (p i)) → T (every_below n p)
unfolding every_below
every-i zero p h = tt
every-i (suc n) p h = and_i (every_below n p) (p n) (every-i n p (λ i l. h i (omega arith))) (h n (omega arith))

pub every-e : (n : ℕ) (p : ℕ → Bool) → T (every_below n p) → (i : ℕ) → i < n → T (p i)
unfolding every_below
every-e zero p t i h = absurd (not-suc-le-zero h)
every-e (suc n) p t i h = go (ℕ_discrete i n) (every-e n p (and_l (every_below n p) (p n) t) i)
  where
    go : Dec (i ≡ n) → (i < n → T (p i)) → T (p i)
    go (yes e) ih = subst (λ (x : ℕ). T (p x)) (sym e) (and_r (every_below n p) (p n) t)
    go (no e) ih = ih (omega arith)

pub every-cong : (n : ℕ) (p q : ℕ → Bool) → ((i : ℕ) → i < n → p i ≡ q i) → every_below n p ≡ every_below n q
unfolding every_below
every-cong zero p q e = refl
every-cong (suc n) p q e = ap₂ ◌&&◌ (every-cong n p q (λ i h. e i (omega arith))) (e n (omega arith))

-- the numbers of a range that starts further on
module _ (p : ℕ → Bool) (from to : ℕ) where
  pub every-from : ((i : ℕ) → from ≤ i → i < to → T (p i)) → every_below (to - from) (λ j. p (from + j)) ≡ true
  every-from all = T_true (every_below (to - from) (λ j. p (from + j))) (every-i (to - from) (λ j. p (from + j)) (λ j l. all (from + j) (omega arith) (omega arith)))

-- ---- sums

pub sum-zero : (f : ℕ → ℕ) → sum_below 0 f ≡ 0
unfolding sum_below
sum-zero f = refl

pub sum-suc : (n : ℕ) (f : ℕ → ℕ) → sum_below (n + 1) f ≡ sum_below n f + f n
unfolding sum_below
sum-suc n f = ap (λ (k : ℕ). sum_below k f) (add-one n)

pub sum-cong : (n : ℕ) (f g : ℕ → ℕ) → ((i : ℕ) → i < n → f i ≡ g i) → sum_below n f ≡ sum_below n g
unfolding sum_below
sum-cong zero f g e = refl
sum-cong (suc n) f g e = ap₂ ◌+◌ (sum-cong n f g (λ i h. e i (omega arith))) (e n (omega arith))

pub sum-le : (n : ℕ) (f g : ℕ → ℕ) → ((i : ℕ) → i < n → f i ≤ g i) → sum_below n f ≤ sum_below n g
unfolding sum_below
sum-le zero f g h = omega arith
sum-le (suc n) f g h = omega (arith, sum-le n f g (λ i l. h i (omega arith)), h n (omega arith))

pub sum-most : (n m : ℕ) (f : ℕ → ℕ) → ((i : ℕ) → i < n → f i ≤ m) → sum_below n f ≤ m * n
unfolding sum_below
sum-most zero m f h = omega arith
sum-most (suc n) m f h = omega (arith, sum-most n m f (λ i l. h i (omega arith)), h n (omega arith), wider)
  where
    wider : m * suc n ≡ m * n + m
    wider = mul-suc m n

-- the first of them apart
pub sum-front : (k : ℕ) (f : ℕ → ℕ) → sum_below (suc k) f ≡ f 0 + sum_below k (λ j. f (suc j))
unfolding sum_below
sum-front zero f = omega arith
sum-front (suc k) f = omega (arith, sum-front k f)

-- a range in two parts
pub sum-append : (a b : ℕ) (f : ℕ → ℕ) → sum_below (a + b) f ≡ sum_below a f + sum_below b (λ j. f (a + j))
unfolding sum_below
sum-append a zero f = ap (λ (x : ℕ). sum_below x f) (add-zero a) ∙ omega arith
sum-append a (suc b) f = ap (λ (x : ℕ). sum_below x f) (add-suc a b) ∙ omega (arith, sum-append a b f)

pub sum_mono : (m n : ℕ) (f : ℕ → ℕ) → m ≤ n → sum_below m f ≤ sum_below n f
sum_mono m n f h =
    let e : m + (n - m) ≡ n = omega arith in
    omega (arith, sum-append m (n - m) f, ap (λ (k : ℕ). sum_below k f) e)

pub sum-add : (n : ℕ) (f g : ℕ → ℕ) → sum_below n (λ i. f i + g i) ≡ sum_below n f + sum_below n g
unfolding sum_below
sum-add zero f g = refl
sum-add (suc n) f g = omega (arith, sum-add n f g)

pub sum-none : (n : ℕ) → sum_below n (λ i. 0) ≡ 0
unfolding sum_below
sum-none zero = refl
sum-none (suc n) = omega (arith, sum-none n)

-- a sum over rows of sums over columns is the sum over columns of sums over rows
pub sum-swap : (n m : ℕ) (f : ℕ → ℕ → ℕ) → sum_below n (λ r. sum_below m (f r)) ≡ sum_below m (λ c. sum_below n (λ r. f r c))
unfolding sum_below
sum-swap zero m f = sym (sum-none m)
sum-swap (suc n) m f = ap (λ (x : ℕ). x + sum_below m (f n)) (sum-swap n m f) ∙ sym (sum-add m (λ c. sum_below n (λ r. f r c)) (f n))

-- equal sums of numbers of which none is larger are sums of equal numbers
pub sum-tight : (n : ℕ) (f g : ℕ → ℕ) → ((i : ℕ) → i < n → f i ≤ g i) → sum_below n f ≡ sum_below n g → (i : ℕ) → i < n → f i ≡ g i
unfolding sum_below
sum-tight zero f g h e i l = absurd (not-suc-le-zero l)
sum-tight (suc n) f g h e i l = go (ℕ_discrete i n) (λ q. sum-tight n f g (λ j k. h j (omega arith)) q i)
  where
    part : sum_below n f ≤ sum_below n g
    part = sum-le n f g (λ j k. h j (omega arith))

    top : f n ≤ g n
    top = h n (omega arith)

    go : Dec (i ≡ n) → (sum_below n f ≡ sum_below n g → i < n → f i ≡ g i) → f i ≡ g i
    go (yes d) ih = let q : f n ≡ g n = omega (arith, part, top) in ap f d ∙ q ∙ ap g (sym d)
    go (no d) ih = ih (omega (arith, part, top)) (omega arith)

-- a sum over the members of two sets that share none
pub sum-split : (n : ℕ) (p q r : ℕ → Bool) (f : ℕ → ℕ) → ((i : ℕ) → i < n → p i ≡ (q i || r i)) → ((i : ℕ) → i < n → T (q i) → T (r i) → ⊥)
    → sum_over n p f ≡ sum_over n q f + sum_over n r f
sum-split n p q r f e d =
    sum-cong n (λ i. cond (p i) (f i) 0) (λ i. cond (q i) (f i) 0 + cond (r i) (f i) 0)
    (λ i h. ap (λ (v : Bool). cond v (f i) 0) (e i h) ∙ one i (q i) (r i) (d i h))
    ∙ sum-add n (λ i. cond (q i) (f i) 0) (λ i. cond (r i) (f i) 0)
  where
    one : (i : ℕ) (a b : Bool) → (T a → T b → ⊥) → cond (a || b) (f i) 0 ≡ cond a (f i) 0 + cond b (f i) 0
    one i true true x = absurd (x tt tt)
    one i true false x = omega arith
    one i false b x = omega arith

pub over-cong : (n : ℕ) (p q : ℕ → Bool) (f : ℕ → ℕ) → ((i : ℕ) → i < n → p i ≡ q i) → sum_over n p f ≡ sum_over n q f
over-cong n p q f e = sum-cong n (λ i. cond (p i) (f i) 0) (λ i. cond (q i) (f i) 0) (λ i h. ap (λ (v : Bool). cond v (f i) 0) (e i h))

-- a sum over members is at most the sum over all
pub over-le : (n : ℕ) (p : ℕ → Bool) (f : ℕ → ℕ) → sum_over n p f ≤ sum_below n f
over-le n p f = sum-le n (λ i. cond (p i) (f i) 0) f (λ i h. one (p i) (f i))
  where
    one : (b : Bool) (x : ℕ) → cond b x 0 ≤ x
    one true x = omega arith
    one false x = omega arith

-- nothing between counts
pub over-past : (len n : ℕ) (p : ℕ → Bool) (f : ℕ → ℕ) → len ≤ n → ((i : ℕ) → len ≤ i → i < n → T (p i) → ⊥) → sum_over n p f ≡ sum_over len p f
over-past len n p f h none =
    let e : len + (n - len) ≡ n = omega arith in
    let z : sum_below (n - len) (λ j. cond (p (len + j)) (f (len + j)) 0) ≡ 0 =
    sum-cong (n - len) (λ j. cond (p (len + j)) (f (len + j)) 0) (λ j. 0)
    (λ j l. ap (λ (v : Bool). cond v (f (len + j)) 0) (T_false (p (len + j)) (none (len + j) (omega arith) (omega arith)))) ∙ sum-none (n - len) in
    omega (arith, sum-append len (n - len) (λ i. cond (p i) (f i) 0), ap (λ (k : ℕ). sum_over k p f) e)

-- ---- the largest

pub largest-none : (f : ℕ → ℕ) → largest_below 0 f ≡ 0
unfolding largest_below
largest-none f = refl

pub largest-next : (n : ℕ) (f : ℕ → ℕ) → largest_below (n + 1) f ≡ max (largest_below n f) (f n)
unfolding largest_below
largest-next n f = ap (λ (k : ℕ). largest_below k f) (add-one n)

pub largest-cong : (n : ℕ) (f g : ℕ → ℕ) → ((i : ℕ) → i < n → f i ≡ g i) → largest_below n f ≡ largest_below n g
unfolding largest_below
largest-cong zero f g e = refl
largest-cong (suc n) f g e = ap₂ max (largest-cong n f g (λ i h. e i (omega arith))) (e n (omega arith))

pub largest-le : (n m : ℕ) (f : ℕ → ℕ) → ((i : ℕ) → i < n → f i ≤ m) → largest_below n f ≤ m
unfolding largest_below
largest-le zero m f h = omega arith
largest-le (suc n) m f h = omega (arith, largest-le n m f (λ i l. h i (omega arith)), h n (omega arith))

-- ---- counts

one-if-le : (b : Bool) → one_if b ≤ 1
one-if-le true = omega arith
one-if-le false = omega arith

pub one-if-mono : (a b : Bool) → (T a → T b) → one_if a ≤ one_if b
one-if-mono true true f = omega arith
one-if-mono true false f = absurd (f tt)
one-if-mono false b f = omega arith

pub one-if-lt : (a b : Bool) → (T a → ⊥) → T b → one_if a < one_if b
one-if-lt true b f t = absurd (f tt)
one-if-lt false true f t = omega arith
one-if-lt false false f t = absurd t

pub count-cong : (n : ℕ) (p q : ℕ → Bool) → ((i : ℕ) → i < n → p i ≡ q i) → count_below n p ≡ count_below n q
count-cong n p q e = sum-cong n (λ i. one_if (p i)) (λ i. one_if (q i)) (λ i h. ap one_if (e i h))

-- a count is a sum of ones
pub count_ones : (n : ℕ) (p : ℕ → Bool) → count_below n p ≡ sum_over n p (λ i. 1)
count_ones n p = sum-cong n (λ i. one_if (p i)) (λ i. cond (p i) 1 0) (λ i h. one (p i))
  where
    one : (b : Bool) → one_if b ≡ cond b 1 0
    one true = refl
    one false = refl

pub count-le : (n : ℕ) (p : ℕ → Bool) → count_below n p ≤ n
count-le n p = omega (arith, sum-most n 1 (λ i. one_if (p i)) (λ i h. one-if-le (p i)))

pub count-mono : (n : ℕ) (p q : ℕ → Bool) → ((i : ℕ) → i < n → T (p i) → T (q i)) → count_below n p ≤ count_below n q
count-mono n p q f = sum-le n (λ i. one_if (p i)) (λ i. one_if (q i)) (λ i h. one-if-mono (p i) (q i) (f i h))

pub count-lt : (n : ℕ) (p q : ℕ → Bool) → ((i : ℕ) → i < n → T (p i) → T (q i)) → (j : ℕ) → j < n → (T (p j) → ⊥) → T (q j) → count_below n p < count_below n q
unfolding sum_below
count-lt zero p q f j h no-p yes-q = absurd (not-suc-le-zero h)
count-lt (suc n) p q f j h no-p yes-q = go (ℕ_discrete j n) (λ h'. count-lt n p q (λ i k. f i (omega arith)) j h' no-p yes-q)
  where
    go : Dec (j ≡ n) → (j < n → count_below n p < count_below n q) → count_below n p + one_if (p n) < count_below n q + one_if (q n)
    go (yes e) ih = omega (arith, count-mono n p q (λ i k. f i (omega arith)), one-if-lt (p n) (q n) (subst (λ (x : ℕ). T (p x) → ⊥) e no-p) (subst (λ (x : ℕ). T (q x)) e yes-q))
    go (no e) ih = omega (arith, ih (omega arith), one-if-mono (p n) (q n) (f n (omega arith)))

pub count-pos : (n : ℕ) (p : ℕ → Bool) (j : ℕ) → j < n → T (p j) → 0 < count_below n p
count-pos n p j h t = omega (arith, count-lt n (λ i. false) p (λ i l x. absurd x) j h (λ x. x) t)

-- one number more, that passes or does not
pub count-in : (p : ℕ → Bool) (n m : ℕ) (b : Bool) → b ≡ p n → b ≡ true → m ≡ count_below n p → m + 1 ≡ count_below (n + 1) p
count-in p n m b e t h = omega (arith, h, sum-suc n (λ i. one_if (p i)), ap one_if (sym e ∙ t))

pub count-out : (p : ℕ → Bool) (n m : ℕ) (b : Bool) → b ≡ p n → b ≡ false → m ≡ count_below n p → m ≡ count_below (n + 1) p
count-out p n m b e t h = omega (arith, h, sum-suc n (λ i. one_if (p i)), ap one_if (sym e ∙ t))

-- below a member there are fewer
pub count-member : (n : ℕ) (p : ℕ → Bool) (c : ℕ) → c < n → T (p c) → count_below c p < count_below n p
count-member n p c h t =
    let e : c + suc (n - suc c) ≡ n = omega arith in
    let one : 0 < count_below (suc (n - suc c)) (λ k. p (c + k)) = count-pos (suc (n - suc c)) (λ k. p (c + k)) 0 (omega arith) (subst (λ (x : ℕ). T (p x)) (sym (add-zero c)) t) in
    omega (arith, sum-append c (suc (n - suc c)) (λ k. one_if (p k)), ap (λ (m : ℕ). count_below m p) e)

-- nothing between passes
pub count_past : (len n : ℕ) (p : ℕ → Bool) → len ≤ n → ((i : ℕ) → len ≤ i → i < n → T (p i) → ⊥) → count_below n p ≡ count_below len p
count_past len n p h none =
    let e : len + (n - len) ≡ n = omega arith in
    let z : count_below (n - len) (λ j. p (len + j)) ≡ 0 =
    count-cong (n - len) (λ j. p (len + j)) (λ j. false) (λ j l. T_false (p (len + j)) (none (len + j) (omega arith) (omega arith))) ∙ sum-none (n - len) in
    omega (arith, sum-append len (n - len) (λ i. one_if (p i)), ap (λ (k : ℕ). count_below k p) e)

-- ---- members in rising order

pub members-zero : (p : ℕ → Bool) (b : ℕ) → members_from p b 0 ≡ []
unfolding members_from
members-zero p b = refl

pub members-suc : (p : ℕ → Bool) (b n : ℕ) → members_from p b (suc n) ≡ keep (p b) b (members_from p (suc b) n)
unfolding members_from
members-suc p b n = refl

pub keep-map : (t : Bool) (f : ℕ → ℕ) (i : ℕ) (l : List ℕ) → map f (keep t i l) ≡ keep t (f i) (map f l)
keep-map true f i l = refl
keep-map false f i l = refl

keep_append : (t : Bool) (i : ℕ) (l m : List ℕ) → keep t i l ++ m ≡ keep t i (l ++ m)
keep_append true i l m = refl
keep_append false i l m = refl

-- tests that agree on the range have the same members
pub members-ext : (p q : ℕ → Bool) (b n : ℕ) → ((i : ℕ) → b ≤ i → i < b + n → p i ≡ q i) → members_from p b n ≡ members_from q b n
unfolding members_from
members-ext p q b zero h = refl
members-ext p q b (suc n) h =
    rw (h b (le_refl b) (omega arith), members-ext p q (suc b) n (λ i l u. h i (omega arith) (omega arith)))

-- a range in two parts
pub members-append : (p : ℕ → Bool) (b n m : ℕ) → members_from p b (n + m) ≡ members_from p b n ++ members_from p (b + n) m
unfolding members_from
members-append p b zero m = rw (zero-add, add-zero)
members-append p b (suc n) m =
    rw (suc-add) (rw (members-append p (suc b) n m) (rw keep_append (rw (add-suc, suc-add) refl)))

-- a range that starts further on
pub members-shift : (p : ℕ → Bool) (c b n : ℕ) → members_from p (c + b) n ≡ map (λ (i : ℕ). c + i) (members_from (λ i. p (c + i)) b n)
unfolding members_from
members-shift p c b zero = refl
members-shift p c b (suc n) = rw (keep-map, ← add-suc, members-shift p c (suc b) n)

pub members-up : (p : ℕ → Bool) (b n : ℕ) → members_from p (suc b) n ≡ map suc (members_from (λ i. p (suc i)) b n)
unfolding members_from
members-up p b zero = refl
members-up p b (suc n) = rw (keep-map, members-up p (suc b) n)

-- a test that nothing in the range passes, and the converse
pub members-none : (p : ℕ → Bool) (b n : ℕ) → ((i : ℕ) → b ≤ i → i < b + n → T (p i) → ⊥) → members_from p b n ≡ []
unfolding members_from
members-none p b zero h = refl
members-none p b (suc n) h =
    rw (T_false (p b) (h b (le_refl b) (omega arith)), members-none p (suc b) n (λ i l u. h i (omega arith) (omega arith)))

-- nothing between passes
pub members-past : (p : ℕ → Bool) (len n : ℕ) → len ≤ n → ((i : ℕ) → len ≤ i → i < n → T (p i) → ⊥) → members_below n p ≡ members_below len p
members-past p len n h none =
    let e : n ≡ len + (n - len) = omega arith in
    ap (members_from p 0) e ∙ members-append p 0 len (n - len)
    ∙ ap (λ (l : List ℕ). members_below len p ++ l) (members-none p (0 + len) (n - len) (λ i l u. none i (omega arith) (omega arith)))
    ∙ append-nil (members_below len p)

-- what is listed is in the range and passes
pub members-at : (p : ℕ → Bool) (b n j : ℕ) → j < length (members_from p b n)
    → (b ≤ get_or (members_from p b n) j 0) × (get_or (members_from p b n) j 0 < b + n) × T (p (get_or (members_from p b n) j 0))
unfolding members_from
members-at p b zero j h = absurd (omega arith)
members-at p b (suc n) j h = go (p b) refl j h (λ i l. members-at p (suc b) n i l)
  where
    rest : List ℕ
    rest = members_from p (suc b) n

    Said : List ℕ → ℕ → ℕ → ℕ → Type 0
    Said l i lo hi = (lo ≤ get_or l i 0) × (get_or l i 0 < hi) × T (p (get_or l i 0))

    go : (t : Bool) → p b ≡ t → (j : ℕ) → j < length (keep t b rest) → ((i : ℕ) → i < length rest → Said rest i (suc b) (suc b + n)) → Said (keep t b rest) j b (b + suc n)
    go true e zero h ih = (le_refl b, omega arith, T_of (p b) e)
    go true e (suc j) h ih = let q = ih j (le_of_suc-le-suc h) in (omega (arith, q.0), omega (arith, q.1), q.2)
    go false e j h ih = let q = ih j h in (omega (arith, q.0), omega (arith, q.1), q.2)

-- they rise
pub members-rising : (p : ℕ → Bool) (b n j k : ℕ) → j < k → k < length (members_from p b n) → get_or (members_from p b n) j 0 < get_or (members_from p b n) k 0
unfolding members_from
members-rising p b zero j k l h = absurd (not-suc-le-zero h)
members-rising p b (suc n) j k l h = go (p b) j k l h (members-rising p (suc b) n)
  where
    rest : List ℕ
    rest = members_from p (suc b) n

    go : (t : Bool) (j k : ℕ) → j < k → k < length (keep t b rest) → ((j k : ℕ) → j < k → k < length rest → get_or rest j 0 < get_or rest k 0)
        → get_or (keep t b rest) j 0 < get_or (keep t b rest) k 0
    go true j zero l h ih = absurd (not-suc-le-zero l)
    go true zero (suc k) l h ih = (members-at p (suc b) n k (omega arith)).0
    go true (suc j) (suc k) l h ih = ih j k (omega arith) (omega arith)
    go false j k l h ih = ih j k l h

-- and none is missing
pub members-find : (p : ℕ → Bool) (b n w : ℕ) → b ≤ w → w < b + n → T (p w) → (k : ℕ) × (k < length (members_from p b n)) × (get_or (members_from p b n) k 0 ≡ w)
unfolding members_from
members-find p b zero w l u t = absurd (omega arith)
members-find p b (suc n) w l u t = go (p b) refl (ℕ_discrete b w) (λ l'. members-find p (suc b) n w l' (omega arith) t)
  where
    go : (s : Bool) → p b ≡ s → Dec (b ≡ w) → (suc b ≤ w → (k : ℕ) × (k < length (members_from p (suc b) n)) × (get_or (members_from p (suc b) n) k 0 ≡ w))
        → (k : ℕ) × (k < length (keep s b (members_from p (suc b) n))) × (get_or (keep s b (members_from p (suc b) n)) k 0 ≡ w)
    go true e (yes f) ih = (0, omega arith, f)
    go true e (no f) ih = let r = ih (omega arith) in (suc r.0, omega (arith, r.1), r.2)
    go false e (yes f) ih = absurd (subst (λ (v : Bool). T v) (ap p (sym f) ∙ e) t)
    go false e (no f) ih = ih (omega arith)

-- a sum over the list of members is the sum over the set
pub sum-members : (p : ℕ → Bool) (b n : ℕ) (f : ℕ → ℕ) → sum_below (length (members_from p b n)) (λ k. f (get_or (members_from p b n) k 0)) ≡ sum_below n (λ j. cond (p (b + j)) (f (b + j)) 0)
unfolding members_from
sum-members p b zero f = sum-zero (λ k. f (get_or [] k 0)) ∙ sym (sum-zero (λ j. cond (p (b + j)) (f (b + j)) 0))
sum-members p b (suc n) f =
    go (p b) (sum-members p (suc b) n f)
    ∙ ap₂ ◌+◌ (ap (λ (i : ℕ). cond (p i) (f i) 0) (sym (add-zero b)))
    (sum-cong n (λ j. cond (p (suc b + j)) (f (suc b + j)) 0) (λ j. cond (p (b + suc j)) (f (b + suc j)) 0) (λ j h. ap (λ (i : ℕ). cond (p i) (f i) 0) (omega arith)))
    ∙ sym (sum-front n (λ j. cond (p (b + j)) (f (b + j)) 0))
  where
    rest : List ℕ
    rest = members_from p (suc b) n

    go : (t : Bool) → sum_below (length rest) (λ k. f (get_or rest k 0)) ≡ sum_below n (λ j. cond (p (suc b + j)) (f (suc b + j)) 0)
        → sum_below (length (keep t b rest)) (λ k. f (get_or (keep t b rest) k 0)) ≡ cond t (f b) 0 + sum_below n (λ j. cond (p (suc b + j)) (f (suc b + j)) 0)
    go true ih = sum-front (length rest) (λ k. f (get_or (b ∷ rest) k 0)) ∙ ap (λ (x : ℕ). f b + x) ih
    go false ih = ih ∙ sym (zero-add (sum_below n (λ j. cond (p (suc b + j)) (f (suc b + j)) 0)))

-- how many there are
keep-length : (t : Bool) (i : ℕ) (l : List ℕ) → length (keep t i l) ≡ one_if t + length l
keep-length true i l = omega arith
keep-length false i l = omega arith

pub members-count : (p : ℕ → Bool) (b n : ℕ) → length (members_from p b n) ≡ count_below n (λ j. p (b + j))
unfolding members_from sum_below
members-count p b zero = refl
members-count p b (suc n) =
    keep-length (p b) b (members_from p (suc b) n)
    ∙ ap₂ ◌+◌ (ap (λ (i : ℕ). one_if (p i)) (sym (add-zero b)))
    (members-count p (suc b) n ∙ count-cong n (λ j. p (suc b + j)) (λ j. p (b + suc j)) (λ j h. ap p (omega arith)))
    ∙ sym (sum-front n (λ j. one_if (p (b + j))))

pub count-members : (n : ℕ) (p : ℕ → Bool) → length (members_below n p) ≡ count_below n p
count-members n p = members-count p 0 n ∙ count-cong n (λ j. p (0 + j)) p (λ j h. ap p (zero-add j))

pub members-le : (p : ℕ → Bool) (b n : ℕ) → length (members_from p b n) ≤ n
members-le p b n = omega (arith, members-count p b n, count-le n (λ j. p (b + j)))

-- a member's place is the count of those below it
pub get_or-count : (n : ℕ) (p : ℕ → Bool) (c : ℕ) → c < n → T (p c) → get_or (members_below n p) (count_below c p) 0 ≡ c
get_or-count n p c h t =
    let e : n ≡ c + suc (n - suc c) = omega arith in
    ap (λ (m : ℕ). get_or (members_below m p) (count_below c p) 0) e
    ∙ ap (λ (l : List ℕ). get_or l (count_below c p) 0) (members-append p 0 c (suc (n - suc c)) ∙ ap (λ (l : List ℕ). members_below c p ++ l) head)
    ∙ ap (λ (i : ℕ). get_or (members_below c p ++ (c ∷ members_from p (suc c) (n - suc c))) i 0) (sym (count-members c p))
    ∙ get_or-append_seam (members_below c p) c (members_from p (suc c) (n - suc c)) 0
  where
    head : members_from p (0 + c) (suc (n - suc c)) ≡ c ∷ members_from p (suc c) (n - suc c)
    head =
        ap (λ (i : ℕ). members_from p i (suc (n - suc c))) (zero-add c) ∙ members-suc p c (n - suc c)
        ∙ ap (λ (b : Bool). keep b c (members_from p (suc c) (n - suc c))) (T_true (p c) t)

pub count-get_or : (n : ℕ) (p : ℕ → Bool) (j : ℕ) → j < length (members_below n p) → count_below (get_or (members_below n p) j 0) p ≡ j
count-get_or n p j h = go (lt-or-le i j) (lt-or-le j i)
  where
    c : ℕ
    c = get_or (members_below n p) j 0

    i : ℕ
    i = count_below c p

    in-range : (0 ≤ c) × (c < 0 + n) × T (p c)
    in-range = members-at p 0 n j h

    same : get_or (members_below n p) i 0 ≡ c
    same = get_or-count n p c (omega (arith, in-range.1)) in-range.2

    few : i < length (members_below n p)
    few = omega (arith, count-members n p, count-member n p c (omega (arith, in-range.1)) in-range.2)

    go : (i < j) ⊎ (j ≤ i) → (j < i) ⊎ (i ≤ j) → i ≡ j
    go (inl a) b = absurd (omega (arith, members-rising p 0 n i j a h, same))
    go (inr a) (inl b) = absurd (omega (arith, members-rising p 0 n j i b few, same))
    go (inr a) (inr b) = omega arith

-- a test of every member of a range
pub every-members : (f p : ℕ → Bool) (b n : ℕ) → ((i : ℕ) → b ≤ i → i < b + n → T (p i) → f i ≡ true) → every f (members_from p b n) ≡ true
unfolding members_from
every-members f p b zero h = refl
every-members f p b (suc n) h = go (p b) refl (every-members f p (suc b) n (λ i l u. h i (omega arith) (omega arith)))
  where
    go : (t : Bool) → p b ≡ t → every f (members_from p (suc b) n) ≡ true → every f (keep t b (members_from p (suc b) n)) ≡ true
    go true e ih = rw (h b (le_refl b) (omega arith) (T_of (p b) e)) ih
    go false e ih = ih

-- a strictly rising list is determined by its members
pub members-unique : (q : ℕ → Bool) (n b : ℕ) (l : List ℕ)
    → ((j k : ℕ) → j < k → k < length l → get_or l j 0 < get_or l k 0)
    → ((k : ℕ) → k < length l → T (q (get_or l k 0)) × (b ≤ get_or l k 0) × (get_or l k 0 < b + n))
    → ((w : ℕ) → b ≤ w → w < b + n → T (q w) → (k : ℕ) × (k < length l) × (get_or l k 0 ≡ w))
    → l ≡ members_from q b n
unfolding members_from
members-unique q zero b [] ris own all = refl
members-unique q zero b (x ∷ xs) ris own all = absurd (omega (arith, (own 0 (omega arith)).1, (own 0 (omega arith)).2))
members-unique q (suc n) b [] ris own all = go (q b) refl
  where
    none : (w : ℕ) → b ≤ w → w < b + suc n → T (q w) → ⊥
    none w a d t = not-suc-le-zero (all w a d t).1

    go : (t : Bool) → q b ≡ t → [] ≡ keep (q b) b (members_from q (suc b) n)
    go true e = absurd (none b (omega arith) (omega arith) (T_of (q b) e))
    go false e = rw e (sym (members-none q (suc b) n (λ i l u. none i (omega arith) (omega arith))))
members-unique q (suc n) b (x ∷ xs) ris own all =
    go (decide (q b)) (members-unique q n (suc b) xs) (members-unique q n (suc b) (x ∷ xs))
  where
    go : T (q b) ⊎ (T (q b) → ⊥)
        → (((j k : ℕ) → j < k → k < length xs → get_or xs j 0 < get_or xs k 0)
        → ((k : ℕ) → k < length xs → T (q (get_or xs k 0)) × (suc b ≤ get_or xs k 0) × (get_or xs k 0 < suc b + n))
        → ((w : ℕ) → suc b ≤ w → w < suc b + n → T (q w) → (k : ℕ) × (k < length xs) × (get_or xs k 0 ≡ w))
        → xs ≡ members_from q (suc b) n)
        → (((j k : ℕ) → j < k → k < suc (length xs) → get_or (x ∷ xs) j 0 < get_or (x ∷ xs) k 0)
        → ((k : ℕ) → k < suc (length xs) → T (q (get_or (x ∷ xs) k 0)) × (suc b ≤ get_or (x ∷ xs) k 0) × (get_or (x ∷ xs) k 0 < suc b + n))
        → ((w : ℕ) → suc b ≤ w → w < suc b + n → T (q w) → (k : ℕ) × (k < suc (length xs)) × (get_or (x ∷ xs) k 0 ≡ w))
        → (x ∷ xs) ≡ members_from q (suc b) n)
        → (x ∷ xs) ≡ keep (q b) b (members_from q (suc b) n)
    go (inl t) ih ih' =
        let f : (k : ℕ) × (k < suc (length xs)) × (get_or (x ∷ xs) k 0 ≡ b) = all b (omega arith) (omega arith) t in
        let hd : x ≡ b = first f.0 f.1 f.2 in
        rw (T_true (q b) t) (ap₂ ◌∷◌ hd (ih (λ j k a d. ris (suc j) (suc k) (omega arith) (omega arith)) (λ k a. own' hd k a) (λ w a d m. all' hd w a d (all w (omega arith) (omega arith) m))))
      where
        first : (k : ℕ) → k < suc (length xs) → get_or (x ∷ xs) k 0 ≡ b → x ≡ b
        first zero a e = e
        first (suc k) a e = absurd (omega (arith, ris 0 (suc k) (omega arith) a, (own 0 (omega arith)).1))

        own' : x ≡ b → (k : ℕ) → k < length xs → T (q (get_or xs k 0)) × (suc b ≤ get_or xs k 0) × (get_or xs k 0 < suc b + n)
        own' hd k a =
            let o : T (q (get_or xs k 0)) × (b ≤ get_or xs k 0) × (get_or xs k 0 < b + suc n) = own (suc k) (omega arith) in
            let r : x < get_or xs k 0 = ris 0 (suc k) (omega arith) (omega arith) in
            (o.0, omega arith, omega arith)

        all' : x ≡ b → (w : ℕ) → suc b ≤ w → w < suc b + n → (k : ℕ) × (k < suc (length xs)) × (get_or (x ∷ xs) k 0 ≡ w) → (k : ℕ) × (k < length xs) × (get_or xs k 0 ≡ w)
        all' hd w a d f = step f.0 f.1 f.2
          where
            step : (k : ℕ) → k < suc (length xs) → get_or (x ∷ xs) k 0 ≡ w → (k : ℕ) × (k < length xs) × (get_or xs k 0 ≡ w)
            step zero u e = absurd (omega arith)
            step (suc k) u e = (k, omega arith, e)
    go (inr t) ih ih' =
        rw (T_false (q b) t) (ih' ris (λ k a. own' k a) (λ w a d m. all w (omega arith) (omega arith) m))
      where
        own' : (k : ℕ) → k < suc (length xs) → T (q (get_or (x ∷ xs) k 0)) × (suc b ≤ get_or (x ∷ xs) k 0) × (get_or (x ∷ xs) k 0 < suc b + n)
        own' k a =
            let o : T (q (get_or (x ∷ xs) k 0)) × (b ≤ get_or (x ∷ xs) k 0) × (get_or (x ∷ xs) k 0 < b + suc n) = own k a in
            (o.0, low o (ℕ_discrete b (get_or (x ∷ xs) k 0)), omega arith)
          where
            low : T (q (get_or (x ∷ xs) k 0)) × (b ≤ get_or (x ∷ xs) k 0) × (get_or (x ∷ xs) k 0 < b + suc n) → Dec (b ≡ get_or (x ∷ xs) k 0) → suc b ≤ get_or (x ∷ xs) k 0
            low o (yes e) = absurd (t (subst (λ (v : ℕ). T (q v)) (sym e) o.0))
            low o (no e) = omega (arith, o.1)

-- ---- sums of which some numbers count

pub sum_ones : (n : ℕ) → sum_below n (λ j. 1) ≡ n
unfolding sum_below
sum_ones zero = refl
sum_ones (suc n) = omega (arith, sum_ones n)

-- a sum of which one number counts
pub sum-place : (n : ℕ) (f : ℕ → ℕ) (x : ℕ) → x < n → ((c : ℕ) → c < n → (c ≡ x → ⊥) → f c ≡ 0) → sum_below n f ≡ f x
unfolding sum_below
sum-place zero f x h z = absurd (not-suc-le-zero h)
sum-place (suc n) f x h z = go (ℕ_discrete x n) (λ l. sum-place n f x l (λ c m. z c (omega arith)))
  where
    go : Dec (x ≡ n) → (x < n → sum_below n f ≡ f x) → sum_below n f + f n ≡ f x
    go (yes d) ih =
        let none : sum_below n f ≡ 0 = sum-cong n f (λ c. 0) (λ c m. z c (omega arith) (λ e. omega arith)) ∙ sum-none n in
        omega (arith, none, ap f d)
    go (no d) ih =
        let last : f n ≡ 0 = z n (omega arith) (λ e. d (sym e)) in
        omega (arith, ih (omega arith), last)

pub sum-if : (b : Bool) (n : ℕ) (f : ℕ → ℕ) → cond b (sum_below n f) 0 ≡ sum_below n (λ j. cond b (f j) 0)
sum-if true n f = refl
sum-if false n f = sym (sum-none n)

-- numbers that agree on the members have the same sum over them
pub over-same : (n : ℕ) (p : ℕ → Bool) (f g : ℕ → ℕ) → ((i : ℕ) → i < n → T (p i) → f i ≡ g i) → sum_over n p f ≡ sum_over n p g
over-same n p f g e = sum-cong n (λ i. cond (p i) (f i) 0) (λ i. cond (p i) (g i) 0) (λ i h. one (p i) (f i) (g i) (e i h))
  where
    one : (b : Bool) (x y : ℕ) → (T b → x ≡ y) → cond b x 0 ≡ cond b y 0
    one true x y h = h tt
    one false x y h = refl

-- a sum over the members, one after the other
pub members-over : (n : ℕ) (p : ℕ → Bool) (f : ℕ → ℕ) → sum_below (length (members_below n p)) (λ k. f (get_or (members_below n p) k 0)) ≡ sum_over n p f
members-over n p f =
    sum-members p 0 n f ∙ sum-cong n (λ j. cond (p (0 + j)) (f (0 + j)) 0) (λ j. cond (p j) (f j) 0) (λ j h. ap (λ (i : ℕ). cond (p i) (f i) 0) (zero-add j))

pub count-over : (n : ℕ) (p : ℕ → Bool) (f : ℕ → ℕ) → sum_below (count_below n p) (λ k. f (get_or (members_below n p) k 0)) ≡ sum_over n p f
count-over n p f = ap (λ (m : ℕ). sum_below m (λ k. f (get_or (members_below n p) k 0))) (sym (count-members n p)) ∙ members-over n p f

-- ---- rules that agree on the members map them alike

pub map-alike : (f g : ℕ → ℕ) (p : ℕ → Bool) (b n : ℕ) → ((c : ℕ) → b ≤ c → c < b + n → T (p c) → f c ≡ g c) → map f (members_from p b n) ≡ map g (members_from p b n)
map-alike f g p b zero e = ap (map f) (members-zero p b) ∙ sym (ap (map g) (members-zero p b))
map-alike f g p b (suc n) e =
    ap (map f) (members-suc p b n) ∙ one (p b) refl (map-alike f g p (suc b) n (λ c a l u. e c (omega arith) (omega arith) u)) ∙ sym (ap (map g) (members-suc p b n))
  where
    one : (t : Bool) → p b ≡ t → map f (members_from p (suc b) n) ≡ map g (members_from p (suc b) n) → map f (keep t b (members_from p (suc b) n)) ≡ map g (keep t b (members_from p (suc b) n))
    one true h ih = ap₂ ◌∷◌ (e b (omega arith) (omega arith) (T_of (p b) h)) ih
    one false h ih = ih
