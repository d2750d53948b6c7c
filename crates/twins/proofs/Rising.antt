-- The orders of keys, and why the search for a repeated key may be left out: a key above the highest of the earlier ones is none of them. Assumes
-- nothing.
use Rattle.std.proofs.Common.{◌≡◌, refl, sym, ap, ap₂, ◌∙◌, subst, ◌⊎◌, inl, inr, Bool, true, false, ◌&&◌, ◌||◌, List, ℕ, zero, suc, ◌+◌, ◌-◌, ◌<◌, get_or, arith}
use native.Mathlib.Decide.{ℕ_discrete}
use borrow.Author.Tests.{eq-eqb, ne_eqb, le-ltb}
use lib.Dec.{T, ltb, eqb, ltb→lt, lt→ltb, eqb→eq}
use Rattle.base.proofs.Bools.{and_l, and_r, and_i, or_l, or_r, or-e, T_false, T_of, not-T-of, or-false}
use Rattle.base.proofs.Sets.{any_none}
use Rattle.twins.specs.Keys.{same_key, repeated, above_or, above_key, Order, by_kind, by_field, above_by, Highest}
use Rattle.twins.proofs.Twins.{one-key}

-- ---- one number before the rest

trans-or : (x y z : ℕ) (r s t : Bool) → (T r → T s → T t) → T (above_or x y r) → T (above_or y z s) → T (above_or x z t)
trans-or x y z r s t f p q = go (or-e (ltb y x) (eqb x y && r) p) (or-e (ltb z y) (eqb y z && s) q)
  where
    more : z < x → T (above_or x z t)
    more h = or_l (ltb z x) (eqb x z && t) (lt→ltb z x h)

    go : T (ltb y x) ⊎ T (eqb x y && r) → T (ltb z y) ⊎ T (eqb y z && s) → T (above_or x z t)
    go (inl a) (inl b) = more (omega (arith, ltb→lt y x a, ltb→lt z y b))
    go (inl a) (inr b) = more (omega (arith, ltb→lt y x a, eqb→eq y z (and_l (eqb y z) s b)))
    go (inr a) (inl b) = more (omega (arith, eqb→eq x y (and_l (eqb x y) r a), ltb→lt z y b))
    go (inr a) (inr b) =
        or_r (ltb z x) (eqb x z && t)
        (and_i (eqb x z) t (T_of (eqb x z) (eq-eqb x z (eqb→eq x y (and_l (eqb x y) r a) ∙ eqb→eq y z (and_l (eqb y z) s b)))) (f (and_r (eqb x y) r a) (and_r (eqb y z) s b)))

never-or : (x : ℕ) (r : Bool) → (T r → ⊥) → T (above_or x x r) → ⊥
never-or x r f p = go (or-e (ltb x x) (eqb x x && r) p)
  where
    go : T (ltb x x) ⊎ T (eqb x x && r) → ⊥
    go (inl a) = absurd (omega (arith, ltb→lt x x a))
    go (inr a) = f (and_r (eqb x x) r a)

-- what the code's tests say of it
pub or-differ : (x y : ℕ) (r : Bool) → (x ≡ y → ⊥) → ltb y x ≡ above_or x y r
or-differ x y r n = sym (ap (λ (t : Bool). ltb y x || (t && r)) (ne_eqb x y n) ∙ or-false (ltb y x))

pub or-equal : (x y : ℕ) (r : Bool) → x ≡ y → r ≡ above_or x y r
or-equal x y r e = sym (ap₂ (λ (s t : Bool). s || (t && r)) (le-ltb y x (omega arith)) (eq-eqb x y e))

-- ---- the order of keys

module _ (first second third : List ℕ) where
  above-trans : (a b c : ℕ) → T (above_key first second third a b) → T (above_key first second third b c) → T (above_key first second third a c)
  unfolding above_key
  above-trans a b c p q =
      trans-or (get_or first a 0) (get_or first b 0) (get_or first c 0) _ _ _
      (λ r s. trans-or (get_or second a 0) (get_or second b 0) (get_or second c 0) _ _ _
      (λ t u. lt→ltb (get_or third c 0) (get_or third a 0) (omega (arith, ltb→lt (get_or third b 0) (get_or third a 0) t, ltb→lt (get_or third c 0) (get_or third b 0) u))) r s)
      p q

  above-never : (a : ℕ) → T (above_key first second third a a) → ⊥
  unfolding above_key
  above-never a p =
      never-or (get_or first a 0) _ (λ r. never-or (get_or second a 0) _ (λ t. absurd (omega (arith, ltb→lt (get_or third a 0) (get_or third a 0) t))) r) p

  above_same : (a b top : ℕ) → get_or first a 0 ≡ get_or first b 0 → get_or second a 0 ≡ get_or second b 0 → get_or third a 0 ≡ get_or third b 0
      → above_key first second third a top ≡ above_key first second third b top
  unfolding above_key
  above_same a b top p q r = rw (p, q, r) refl

  -- the next block is above the highest: now it is the highest
  highest-new : (top b : ℕ) → Highest first second third top b → above_key first second third b top ≡ true → Highest first second third b (b + 1)
  highest-new top b h e a l = T_false (above_key first second third a b) (λ t. go t (ℕ_discrete a b))
    where
      go : T (above_key first second third a b) → Dec (a ≡ b) → ⊥
      go t (yes d) = above-never b (subst (λ (x : ℕ). T (above_key first second third x b)) d t)
      go t (no n) = not-T-of (above_key first second third a top) (h a (omega arith)) (above-trans a b top t (T_of _ e))

  -- blocks that rise, each above the one before it: the last is the highest
  highest_last : (b : ℕ) → ((a : ℕ) → a < b → above_key first second third (a + 1) a ≡ true) → Highest first second third b (b + 1)
  highest_last zero rises = λ a l. let d : a ≡ 0 = omega arith in T_false (above_key first second third a 0) (λ t. above-never 0 (subst (λ (x : ℕ). T (above_key first second third x 0)) d t))
  highest_last (suc b) rises =
      let d : b + 1 ≡ suc b = omega arith in
      subst (λ (x : ℕ). Highest first second third x (x + 1)) d (highest-new b (b + 1) (highest_last b (λ a l. rises a (omega arith))) (rises b (omega arith)))

-- ---- the search that is left out

module _ (kinds ids fields : List ℕ) where
  -- a key above the highest of the earlier ones repeats none of them
  pub skip : (b top : ℕ) → Highest kinds ids fields top b → above_key kinds ids fields b top ≡ true → repeated kinds ids fields b ≡ false
  skip b top h e =
      any_none b (λ a. same_key kinds ids fields a b)
      (λ a l t. let s = one-key kinds ids fields a b t in not-T-of (above_key kinds ids fields a top) (h a l) (T_of _ (above_same kinds ids fields a b top s.0 s.1 s.2 ∙ e)))

  -- and so in the other order
  pub skip-by-field : (b top : ℕ) → Highest fields kinds ids top b → above_key fields kinds ids b top ≡ true → repeated kinds ids fields b ≡ false
  skip-by-field b top h e =
      any_none b (λ a. same_key kinds ids fields a b)
      (λ a l t. let s = one-key kinds ids fields a b t in not-T-of (above_key fields kinds ids a top) (h a l) (T_of _ (above_same fields kinds ids a b top s.2 s.0 s.1 ∙ e)))

  -- the first block repeats no key
  first : repeated kinds ids fields 0 ≡ false
  first = any_none 0 (λ a. same_key kinds ids fields a 0) (λ a l t. absurd (omega arith))

  -- blocks of which each is above the one before it: none repeats a key
  pub apart : (order : Order) (count : ℕ) → ((b : ℕ) → 0 < b → b < count → above_by order kinds ids fields b (b - 1) ≡ true) → (b : ℕ) → b < count → repeated kinds ids fields b ≡ false
  apart order count rises zero l = first
  apart order count rises (suc b) l = let d : b + 1 ≡ suc b = omega arith in subst (λ (x : ℕ). repeated kinds ids fields x ≡ false) d (go order rise)
    where
      Above : Order → Type 0
      Above o = (a : ℕ) → a < b + 1 → above_by o kinds ids fields (a + 1) a ≡ true

      rise : Above order
      rise a m = let e : a + 1 - 1 ≡ a = omega arith in subst (λ (x : ℕ). above_by order kinds ids fields (a + 1) x ≡ true) e (rises (a + 1) (omega arith) (omega arith))

      go : (o : Order) → Above o → repeated kinds ids fields (b + 1) ≡ false
      go by_kind r = skip (b + 1) b (highest_last kinds ids fields b (λ a m. r a (omega arith))) (r b (omega arith))
      go by_field r = skip-by-field (b + 1) b (highest_last fields kinds ids b (λ a m. r a (omega arith))) (r b (omega arith))
