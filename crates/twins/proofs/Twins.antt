-- Blocks with one key, and the first that repeats the key of an earlier one. Assumes nothing.
use Rattle.std.proofs.Common.{◌≡◌, refl, sym, ap, ap₂, ◌∙◌, subst, ◌⊎◌, inl, inr, Bool, true, false, ◌&&◌, ◌||◌, List, ℕ, zero, suc, ◌+◌, ◌/◌, ◌^◌, ◌≤◌, ◌<◌, get_or, zero-add, add_assoc, arith}
use Rattle.std.proofs.Math.Bool.{and_assoc}
use Rattle.std.proofs.Math.Nat.{lt_of_le_of_lt}
use Rattle.std.specs.List.{list_any, range_with_len}
use lib.Dec.{T, eqb, eqb→eq}
use lib.Bits.{and_le_r}
use Rattle.base.specs.Sets.{any_below}
use Rattle.base.proofs.Bools.{and_l, and_r, T_of, not-T-of, lt-or-le}
use Rattle.base.proofs.Sets.{None, First, any-cong, any_append, first-is, first-none, first-at}
use Rattle.twins.specs.declared.keys.Key.{Key}
use Rattle.twins.specs.declared.keys.Keys.{Keys}
use Rattle.twins.specs.Keys.{same_key, repeated, lowest_twin, spread_at, class_at, Twin}
use Rattle.twins.specs.Views.{key_at, alike}

-- a search of a range
any-from : (p : ℕ → Bool) (a n : ℕ) → list_any p (range_with_len a n) ≡ any_below n (λ i. p (a + i))
unfolding any_below
any-from p a zero = refl
any-from p a (suc n) =
    let first : a ≡ a + 0 = omega arith in
    let rest : any_below n (λ i. p (a + 1 + i)) ≡ any_below n (λ i. p (a + (1 + i))) = any-cong n _ _ (λ i l. rw add_assoc refl) in
    let all : 1 + n ≡ suc n = omega arith in
    ap₂ ◌||◌ (ap p first) (any-from p (a + 1) n ∙ rest) ∙ sym (any_append 1 n (λ i. p (a + i))) ∙ ap (λ (k : ℕ). any_below k (λ i. p (a + i))) all

pub any-range : (p : ℕ → Bool) (n : ℕ) → list_any p (range_with_len 0 n) ≡ any_below n p
any-range p n = any-from p 0 n ∙ any-cong n _ _ (λ i l. ap p (zero-add i))

module _ (keys : Keys) (a b : ℕ) where
  kind : Bool
  kind = eqb (get_or keys.kinds.now a 0) (get_or keys.kinds.now b 0)

  id : Bool
  id = eqb (get_or keys.ids.now a 0) (get_or keys.ids.now b 0)

  field : Bool
  field = eqb (get_or keys.fields.now a 0) (get_or keys.fields.now b 0)

  -- what the comparison of two keys answers
  pub alike_at : (x y : Key) → x ≡ key_at keys a → y ≡ key_at keys b → (eqb x.kind y.kind && (eqb x.id y.id && eqb x.field y.field)) ≡ alike keys a b
  unfolding same_key kind id field
  alike_at x y e f = rw (e, f) (sym (and_assoc kind id field))

module _ (kinds ids fields : List ℕ) where
  -- two blocks with one key
  pub one-key : (a b : ℕ) → T (same_key kinds ids fields a b) → (get_or kinds a 0 ≡ get_or kinds b 0) × (get_or ids a 0 ≡ get_or ids b 0) × (get_or fields a 0 ≡ get_or fields b 0)
  unfolding same_key
  one-key a b t =
      let k = eqb (get_or kinds a 0) (get_or kinds b 0) in
      let i = eqb (get_or ids a 0) (get_or ids b 0) in
      let f = eqb (get_or fields a 0) (get_or fields b 0) in (
        eqb→eq _ _ (and_l k i (and_l (k && i) f t)),
        eqb→eq _ _ (and_r k i (and_l (k && i) f t)),
        eqb→eq _ _ (and_r (k && i) f t),
      )

  -- what the first twin is
  pub twin-is : (count twin : ℕ) → twin ≡ lowest_twin kinds ids fields count → First count (repeated kinds ids fields) twin
  twin-is count twin e = subst (First count (repeated kinds ids fields)) (sym e) (first-at count (repeated kinds ids fields))

  -- one class more
  pub twin-next : (last class count twin r : ℕ) → Twin kinds ids fields last 0 class count twin → Twin kinds ids fields last class (class + 1) twin r
      → Twin kinds ids fields last 0 (class + 1) count r
  twin-next last class count twin r old new = record {
    within = omega (arith, old.within, new.within);
    none = λ b l f u. none b l u (lt-or-le (class_at kinds ids fields last b) class);
    twice = λ l. twice l (lt-or-le r twin);
  }
    where
      none : (b : ℕ) → b < r → class_at kinds ids fields last b < class + 1 → (class_at kinds ids fields last b < class) ⊎ (class ≤ class_at kinds ids fields last b)
          → repeated kinds ids fields b ≡ false
      none b l u (inl h) = old.none b (omega (arith, new.within)) (omega arith) h
      none b l u (inr h) = new.none b l h u

      twice : r < count → (r < twin) ⊎ (twin ≤ r) → repeated kinds ids fields r ≡ true
      twice l (inl h) = new.twice h
      twice l (inr h) = let e : r ≡ twin = omega (arith, new.within) in ap (repeated kinds ids fields) e ∙ old.twice (omega arith)

  -- all classes: the first twin
  pub twin-first : (last class count twin : ℕ) → last < class → Twin kinds ids fields last 0 class count twin → twin ≡ lowest_twin kinds ids fields count
  twin-first last class count twin h t = go (lt-or-le twin count)
    where
      none : None (repeated kinds ids fields) twin
      none b l = not-T-of _ (t.none b l (omega arith) (lt_of_le_of_lt (and_le_r (spread_at kinds ids fields b / 2 ^ 32) last) h))

      go : (twin < count) ⊎ (count ≤ twin) → twin ≡ lowest_twin kinds ids fields count
      go (inl l) = sym (first-is count (repeated kinds ids fields) twin l (T_of _ (t.twice l)) none)
      go (inr l) = let e : twin ≡ count = omega (arith, t.within) in e ∙ sym (first-none count (repeated kinds ids fields) (subst (None (repeated kinds ids fields)) e none))
