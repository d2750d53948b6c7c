-- The word that a merge takes next, in one of its rows. Assumes nothing.
use mathlib.Core.Path.{◌≡◌, refl, sym, ap, ◌∙◌, subst}
use mathlib.Core.Logic.{◌⊎◌, inl, inr, ◌≢◌}
use mathlib.Core.Bool.{Bool}
use mathlib.Core.List.{List}
use Prim.Native.Nat.{ℕ, ◌+◌, ◌*◌, ◌/◌, ◌≤◌, ◌<◌}
use native.Mathlib.Omega.{arith}
use native.Mathlib.Nat.{le_refl}
use lib.Dec.{T}
use lib.ListN.{get_or}
use borrow.Author.Tests.{lt-ltb, le-ltb, eq-eqb, ne_eqb}
use Rattle.base.proofs.Bools.{lt-or-le, eq-or-ne}
use Rattle.word.specs.Bits.{word_of}
use Rattle.word.proofs.Words.{word_none}
use Rattle.side.specs.Row.{Lower, Row}
use Rattle.side_sets.specs.declared.inner.Taken.{Taken}
use Rattle.side_sets.specs.Merge.{taken_at}

-- ---- what is taken

module _ (idx masks : List ℕ) (k to v : ℕ) where
  pub taken_here : k < to → get_or idx k 0 ≡ v → taken_at idx masks k to v ≡ record { mask = get_or masks k 0; next = k + 1 }
  unfolding taken_at
  taken_here h e = rw (lt-ltb k to h, eq-eqb (get_or idx k 0) v e) refl

  pub taken-past : to ≤ k → taken_at idx masks k to v ≡ record { mask = 0; next = k }
  unfolding taken_at
  taken-past h = rw (le-ltb k to h) refl

  pub taken-other : k < to → get_or idx k 0 ≢ v → taken_at idx masks k to v ≡ record { mask = 0; next = k }
  unfolding taken_at
  taken-other h n = rw (lt-ltb k to h, ne_eqb (get_or idx k 0) v n) refl

-- ---- in a row: the words before k are below the bound w, the others are not, and none of those is below v

pub record Took (q : ℕ → Bool) (idx : List ℕ) (from to k v : ℕ) (t : Taken) : Type 0 where
  pub mask_is : t.mask ≡ word_of q v
  pub lower : Lower idx from to (v + 1) t.next
  pub least : k ≤ t.next
  pub most : t.next ≤ k + 1
  pub moved : k < to → get_or idx k 0 ≡ v → t.next ≡ k + 1

module _ {q : ℕ → Bool} {idx masks : List ℕ} {from to w k : ℕ} (r : Row q idx masks from to) (lo : Lower idx from to w k) where
  -- a column at or past the bound is in one of the words from k on
  ahead : (c : ℕ) → T (q c) → w ≤ c / 64 → (j : ℕ) × (k ≤ j) × (j < to) × (get_or idx j 0 ≡ c / 64)
  ahead c t h = go (r.every c t)
    where
      go : (j : ℕ) × (from ≤ j) × (j < to) × (get_or idx j 0 ≡ c / 64) → (j : ℕ) × (k ≤ j) × (j < to) × (get_or idx j 0 ≡ c / 64)
      go f = pick (lt-or-le f.0 k)
        where
          pick : (f.0 < k) ⊎ (k ≤ f.0) → (j : ℕ) × (k ≤ j) × (j < to) × (get_or idx j 0 ≡ c / 64)
          pick (inl l) = absurd (omega (arith, lo.below f.0 f.1 l, f.3))
          pick (inr l) = (f.0, l, f.2, f.3)

  -- where no word is left there is none
  pub none_left : to ≤ k → (c : ℕ) → T (q c) → c < 64 * w
  none_left h c t = go (lt-or-le c (64 * w))
    where
      go : (c < 64 * w) ⊎ (64 * w ≤ c) → c < 64 * w
      go (inl l) = l
      go (inr l) = let f : (j : ℕ) × (k ≤ j) × (j < to) × (get_or idx j 0 ≡ c / 64) = ahead c t (omega arith) in absurd (omega (arith, f.1, f.2))

  module _ (v : ℕ) (h : w ≤ v) (low : k < to → v ≤ get_or idx k 0) where
    from-v : (j : ℕ) → k ≤ j → j < to → v ≤ get_or idx j 0
    from-v j a b = go (eq-or-ne j k)
      where
        go : (j ≡ k) ⊎ (j ≡ k → ⊥) → v ≤ get_or idx j 0
        go (inl e) = subst (λ (x : ℕ). v ≤ get_or idx x 0) (sym e) (low (omega arith))
        go (inr n) = omega (arith, low (omega arith), r.rising k j lo.low (omega arith) b)

    -- no column between the bound and v
    pub no-between : (c : ℕ) → T (q c) → 64 * w ≤ c → 64 * v ≤ c
    no-between c t l =
        let f : (j : ℕ) × (k ≤ j) × (j < to) × (get_or idx j 0 ≡ c / 64) = ahead c t (omega arith) in
        omega (arith, f.3, from-v f.0 f.1 f.2)

    here : k < to → get_or idx k 0 ≡ v → Took q idx from to k v (record { mask = get_or masks k 0; next = k + 1 })
    here l e = record {
      mask_is = r.mask k lo.low l ∙ ap (word_of q) e;
      lower = record {
        low = omega (arith, lo.low);
        high = omega arith;
        below = λ j a b. under j a b (lt-or-le j k);
        above = λ j a b. omega (arith, e, r.rising k j lo.low (omega arith) b);
      };
      least = omega arith;
      most = le_refl (k + 1);
      moved = λ a b. refl;
    }
      where
        under : (j : ℕ) → from ≤ j → j < k + 1 → (j < k) ⊎ (k ≤ j) → get_or idx j 0 < v + 1
        under j a b (inl u) = omega (arith, lo.below j a u)
        under j a b (inr u) = let s : k ≡ j = omega arith in subst (λ (x : ℕ). get_or idx x 0 < v + 1) s (omega (arith, e))

    not-here : (k < to → get_or idx k 0 ≢ v) → Took q idx from to k v (record { mask = 0; next = k })
    not-here n = record {
      mask_is = sym (word_none q 64 (64 * v) (λ c a b t. none c a b t));
      lower = record {
        low = lo.low;
        high = lo.high;
        below = λ j a b. omega (arith, lo.below j a b);
        above = λ j a b. past j a b (eq-or-ne (get_or idx j 0) v);
      };
      least = le_refl k;
      most = omega arith;
      moved = λ a b. absurd (n a b);
    }
      where
        other : (j : ℕ) → k ≤ j → j < to → get_or idx j 0 ≢ v
        other j a b e = go (eq-or-ne j k)
          where
            go : (j ≡ k) ⊎ (j ≡ k → ⊥) → ⊥
            go (inl s) = n (omega arith) (ap (λ (x : ℕ). get_or idx x 0) (sym s) ∙ e)
            go (inr s) = omega (arith, e, low (omega arith), r.rising k j lo.low (omega arith) b)

        none : (c : ℕ) → 64 * v ≤ c → c < 64 * v + 64 → T (q c) → ⊥
        none c a b t =
            let f : (j : ℕ) × (k ≤ j) × (j < to) × (get_or idx j 0 ≡ c / 64) = ahead c t (omega arith) in
            let e : c / 64 ≡ v = omega arith in
            other f.0 f.1 f.2 (f.3 ∙ e)

        past : (j : ℕ) → k ≤ j → j < to → (get_or idx j 0 ≡ v) ⊎ (get_or idx j 0 ≡ v → ⊥) → v + 1 ≤ get_or idx j 0
        past j a b (inl e) = absurd (other j a b e)
        past j a b (inr e) = omega (arith, from-v j a b)

    pub took : (t : Taken) → t ≡ taken_at idx masks k to v → Took q idx from to k v t
    took t e = go (lt-or-le k to) (eq-or-ne (get_or idx k 0) v)
      where
        go : (k < to) ⊎ (to ≤ k) → (get_or idx k 0 ≡ v) ⊎ (get_or idx k 0 ≡ v → ⊥) → Took q idx from to k v t
        go (inl l) (inl s) = subst (λ (x : Taken). Took q idx from to k v x) (sym (e ∙ taken_here idx masks k to v l s)) (here l s)
        go (inl l) (inr s) = subst (λ (x : Taken). Took q idx from to k v x) (sym (e ∙ taken-other idx masks k to v l s)) (not-here (λ a. s))
        go (inr l) s = subst (λ (x : Taken). Took q idx from to k v x) (sym (e ∙ taken-past idx masks k to v l)) (not-here (λ a. absurd (omega arith)))
