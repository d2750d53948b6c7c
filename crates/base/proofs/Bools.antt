-- The two truth values, and decisions. Assumes nothing.
use mathlib.Core.Path.{◌≡◌, refl, sym, ap, ◌∙◌, subst}
use mathlib.Core.Logic.{◌⊎◌, inl, inr}
use mathlib.Core.Bool.{Bool, true, false, not, ◌&&◌, ◌||◌}
use Prim.Native.Nat.{ℕ, zero, suc, ◌≤◌, ◌<◌}
use native.Mathlib.Omega.{arith}
use borrow.Author.Tests.{lt-ltb, le-ltb, le-leb, lt-leb, ltb-true, ltb-false, eq-eqb, ne_eqb, eqb-true, eqb-false}
use lib.Dec.{T, leb, ltb, eqb}

pub bool-ext : (a b : Bool) → (T a → T b) → (T b → T a) → a ≡ b
bool-ext true true f g = refl
bool-ext true false f g = absurd (f tt)
bool-ext false true f g = absurd (g tt)
bool-ext false false f g = refl

pub decide : (b : Bool) → T b ⊎ (T b → ⊥)
decide true = inl tt
decide false = inr (λ x. x)

pub T_false : (b : Bool) → (T b → ⊥) → b ≡ false
T_false true h = absurd (h tt)
T_false false h = refl

pub T_true : (b : Bool) → T b → b ≡ true
T_true true h = refl
T_true false h = absurd h

pub T_of : (b : Bool) → b ≡ true → T b
T_of b e = subst (λ (x : Bool). T x) (sym e) tt

pub and_l : (a b : Bool) → T (a && b) → T a
and_l true b h = tt
and_l false b h = h

pub and_r : (a b : Bool) → T (a && b) → T b
and_r true b h = h
and_r false b h = absurd h

pub and_i : (a b : Bool) → T a → T b → T (a && b)
and_i true b h k = k
and_i false b h k = h

-- the same of a test that is said to be true
pub and_left : (a b : Bool) → a && b ≡ true → a ≡ true
and_left a b e = T_true a (and_l a b (T_of (a && b) e))

pub and_right : (a b : Bool) → a && b ≡ true → b ≡ true
and_right a b e = T_true b (and_r a b (T_of (a && b) e))

-- what follows `&&` counts only where the first holds
pub and-under : (a b d : Bool) → (T a → b ≡ d) → (a && b) ≡ (a && d)
and-under true b d h = h tt
and-under false b d h = refl

pub or_l : (a b : Bool) → T a → T (a || b)
or_l true b h = tt
or_l false b h = absurd h

pub or_r : (a b : Bool) → T b → T (a || b)
or_r true b h = tt
or_r false b h = h

pub or-e : (a b : Bool) → T (a || b) → T a ⊎ T b
or-e true b h = inl tt
or-e false b h = inr h

pub or-false : (b : Bool) → (b || false) ≡ b
or-false true = refl
or-false false = refl

pub not-T-of : (b : Bool) → b ≡ false → T b → ⊥
not-T-of b e t = subst (λ (x : Bool). T x) e t

-- one value cannot be both
pub both_ways : (b : Bool) → b ≡ true → b ≡ false → ⊥
both_ways b t f = not-T-of b f (T_of b t)

pub lt-or-le : (a b : ℕ) → (a < b) ⊎ (b ≤ a)
lt-or-le a b = go (ltb a b) refl
  where
    go : (t : Bool) → ltb a b ≡ t → (a < b) ⊎ (b ≤ a)
    go true e = inl (ltb-true a b e)
    go false e = inr (ltb-false a b e)

-- at or past, and not below
pub not-below : (i n : ℕ) → not (ltb i n) ≡ leb n i
not-below i n = go (lt-or-le i n)
  where
    go : (i < n) ⊎ (n ≤ i) → not (ltb i n) ≡ leb n i
    go (inl h) = ap not (lt-ltb i n h) ∙ sym (lt-leb n i h)
    go (inr h) = ap not (le-ltb i n h) ∙ sym (le-leb n i h)

pub eq-or-ne : (a b : ℕ) → (a ≡ b) ⊎ (a ≡ b → ⊥)
eq-or-ne a b = go (eqb a b) refl
  where
    go : (t : Bool) → eqb a b ≡ t → (a ≡ b) ⊎ (a ≡ b → ⊥)
    go true e = inl (eqb-true a b e)
    go false e = inr (eqb-false a b e)

pub eqb_swap : (a b : ℕ) → eqb a b ≡ eqb b a
eqb_swap a b = go (eq-or-ne a b)
  where
    go : (a ≡ b) ⊎ (a ≡ b → ⊥) → eqb a b ≡ eqb b a
    go (inl e) = eq-eqb a b e ∙ sym (eq-eqb b a (sym e))
    go (inr n) = ne_eqb a b n ∙ sym (ne_eqb b a (λ e. n (sym e)))

-- a number that is not 0
pub T-not-zero : (n : ℕ) → 0 < n → T (not (eqb n 0))
T-not-zero n h = T_of (not (eqb n 0)) (ap not (ne_eqb n 0 (λ e. omega arith)))

pub not-zero-T : (n : ℕ) → T (not (eqb n 0)) → 0 < n
not-zero-T zero t = absurd t
not-zero-T (suc n) t = omega arith
