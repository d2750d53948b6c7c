-- A table of the blocks met: a key for which a free slot is reached repeats no key of the table. Assumes nothing.
use Rattle.std.proofs.Common.{◌≡◌, ◌≢◌, refl, ap, ◌∙◌, ◌⊎◌, inl, inr, false, List, ℕ, ◌+◌, ◌-◌, ◌/◌, ◌^◌, ◌≤◌, ◌<◌, length, get_or, arith}
use lib.Bits.{bit_and}
use lib.ListN.{set, length-set}
use Rattle.std.proofs.lemmas.Grind.{common_steps}
use Rattle.base.proofs.Bools.{not-T-of, lt-or-le}
use Rattle.base.proofs.Sets.{any_none, below_next}
use Rattle.twins.specs.Keys.{same_key, repeated, spread_at, class_at, home_at, StandsIn, Table}
use Rattle.twins.proofs.Twins.{one-key}

-- slot s is taken, by a block with another key than b
abbrev pub Other : List ℕ → List ℕ → List ℕ → List ℕ → ℕ → ℕ → Type 0
Other kinds ids fields table b s = (get_or table s 0 ≡ 0 → ⊥) × (same_key kinds ids fields (get_or table s 0 - 1) b ≡ false)

-- and so is each from the home of b up to s
pub record Walked (kinds ids fields table : List ℕ) (last-slot b s : ℕ) : Type 0 where
  pub from : home_at kinds ids fields last-slot b ≤ s
  pub others : (k : ℕ) → home_at kinds ids fields last-slot b ≤ k → k < s → Other kinds ids fields table b k

pub walk_next : (kinds ids fields table : List ℕ) (last-slot b s : ℕ) → Walked kinds ids fields table last-slot b s → Other kinds ids fields table b s → Walked kinds ids fields table last-slot b (s + 1)
walk_next kinds ids fields table last-slot b s w n = record {
  from = omega (arith, w.from);
  others = λ k f l. below_next (λ i. home_at kinds ids fields last-slot b ≤ i → Other kinds ids fields table b i) s (λ i u v. w.others i v u) (λ v. n) k l f;
}

module _ (kinds ids fields table : List ℕ) (last-class class last-slot b : ℕ) (t : Table kinds ids fields table last-class class last-slot b) where
  -- a free slot is reached: no earlier block has the key
  pub fresh : (s : ℕ) → class_at kinds ids fields last-class b ≡ class → Walked kinds ids fields table last-slot b s → s < length table → get_or table s 0 ≡ 0 → repeated kinds ids fields b ≡ false
  fresh s c w l e =
      any_none b (λ a. same_key kinds ids fields a b)
      (λ a h same.
      let k = one-key kinds ids fields a b same in
      let p : spread_at kinds ids fields a ≡ spread_at kinds ids fields b = rw (k.0, k.1, k.2) refl in
      let q : home_at kinds ids fields last-slot a ≡ home_at kinds ids fields last-slot b = ap (λ (x : ℕ). bit_and (x / 2 ^ 17) last-slot) p in
      let st = t.each a h (ap (λ (x : ℕ). bit_and (x / 2 ^ 32) last-class) p ∙ c) s (omega (arith, w.from)) l e in
      let d : a ≡ get_or table st.slot 0 - 1 = omega (arith, st.named) in
      not-T-of _ (ap (λ (x : ℕ). same_key kinds ids fields x b) d ∙ (w.others st.slot (omega (arith, st.at_least)) st.below).1) same)

  -- the blocks up to b, where the table is l: what is to be shown of b
  abbrev Stands : List ℕ → ℕ → Type 0
  Stands l a =
      class_at kinds ids fields last-class a ≡ class → (s : ℕ) → home_at kinds ids fields last-slot a ≤ s → s < length l → get_or l s 0 ≡ 0
      → StandsIn l a (home_at kinds ids fields last-slot a) s

  -- the free slot is taken
  pub taken_in : (s : ℕ) → Walked kinds ids fields table last-slot b s → s < length table → get_or table s 0 ≡ 0 → Table kinds ids fields (set table s (b + 1)) last-class class last-slot (b + 1)
  taken_in s w l e = record {
    earlier = λ k h. grind (arith, common_steps, t.earlier k);
    each = below_next (Stands (set table s (b + 1))) b old (λ c k f u z. record { slot = s; at_least = w.from; below = after k f z (lt-or-le k s); named = grind (arith, common_steps) });
  }
    where
      -- a slot that is still free is another, and was free
      free : (k : ℕ) → get_or (set table s (b + 1)) k 0 ≡ 0 → (k ≢ s) × (get_or table k 0 ≡ 0)
      free k z = grind (arith, common_steps)

      old : (a : ℕ) → a < b → Stands (set table s (b + 1)) a
      old a h c k f u z =
          let st = t.each a h c k f (omega (arith, length-set table s (b + 1))) (free k z).1 in
          record { slot = st.slot; at_least = st.at_least; below = st.below; named = grind (arith, common_steps, st.named) }

      after : (k : ℕ) → home_at kinds ids fields last-slot b ≤ k → get_or (set table s (b + 1)) k 0 ≡ 0 → (k < s) ⊎ (s ≤ k) → s < k
      after k f z (inl h) = absurd ((w.others k f h).0 (free k z).1)
      after k f z (inr h) = omega (arith, free k z)
