-- Laws of the parts between bytes c: a search from the front, where the first part ends, and what is behind it. Assumes nothing.
use mathlib.Core.Path.{◌≡◌, refl, sym, ap, ◌∙◌}
use mathlib.Core.Bool.{Bool, true, false, cond, not, ◌||◌}
use mathlib.Core.List.{List, [], ◌∷◌}
use Prim.Native.Nat.{ℕ, suc, ◌+◌, ◌<◌}
use native.Mathlib.Omega.{arith}
use borrow.Author.Tests.{lt-ltb, ltb-true}
use lib.Dec.{eqb, ltb, leb-suc-suc}
use lib.ListN.{length, take, drop, length-drop}
use Rattle.std.specs.Prelude.{Option, Some, None}
use Rattle.std.specs.List.{position_or_len}
use Rattle.base.specs.Lists.{is_in}
use Rattle.base.proofs.Bools.{both_ways}
use Rattle.text_reading.specs.Reading.{before, behind, on_first, parts}

-- ---- the first part, and what is behind it

module _ (c : ℕ) where
  -- the first c stands behind it
  pub length-before : (t : List ℕ) → length (before c t) ≡ position_or_len (λ b. eqb b c) t
  unfolding before
  length-before [] = refl
  length-before (b ∷ t) = go (eqb b c) (length-before t)
    where
      go : (e : Bool) → length (before c t) ≡ position_or_len (λ b. eqb b c) t → length (cond e [] (b ∷ before c t)) ≡ cond (not e) (1 + position_or_len (λ b. eqb b c) t) 0
      go true ih = refl
      go false ih = omega (arith, ih)

  pub take-before : (t : List ℕ) → take (length (before c t)) t ≡ before c t
  unfolding before
  take-before [] = refl
  take-before (b ∷ t) = go (eqb b c) (take-before t)
    where
      go : (e : Bool) → take (length (before c t)) t ≡ before c t → take (length (cond e [] (b ∷ before c t))) (b ∷ t) ≡ cond e [] (b ∷ before c t)
      go true ih = refl
      go false ih = ap (λ (l : List ℕ). b ∷ l) ih

  pub behind-drop : (t : List ℕ) → behind c t ≡ drop (suc (length (before c t))) t
  unfolding before behind
  behind-drop [] = refl
  behind-drop (b ∷ t) = go (eqb b c) (behind-drop t)
    where
      go : (e : Bool) → behind c t ≡ drop (suc (length (before c t))) t → cond e t (behind c t) ≡ drop (suc (length (cond e [] (b ∷ before c t)))) (b ∷ t)
      go true ih = refl
      go false ih = ih

  pub in-before : (t : List ℕ) → is_in c t ≡ ltb (length (before c t)) (length t)
  unfolding before is_in
  in-before [] = refl
  in-before (b ∷ t) = go (eqb b c) (in-before t)
    where
      go : (e : Bool) → is_in c t ≡ ltb (length (before c t)) (length t) → (e || is_in c t) ≡ ltb (length (cond e [] (b ∷ before c t))) (suc (length t))
      go true ih = sym (lt-ltb 0 (suc (length t)) (omega arith))
      go false ih = ih ∙ sym (leb-suc-suc (suc (length (before c t))) (length t))

  pub parts_first : (t : List ℕ) → parts c t ≡ before c t ∷ cond (is_in c t) (parts c (behind c t)) []
  unfolding before behind is_in parts
  parts_first [] = refl
  parts_first (b ∷ t) = go (eqb b c) (parts_first t)
    where
      go :
          (e : Bool) → parts c t ≡ before c t ∷ cond (is_in c t) (parts c (behind c t)) []
          → cond e ([] ∷ parts c t) (on_first b (parts c t)) ≡ cond e [] (b ∷ before c t) ∷ cond (e || is_in c t) (parts c (cond e t (behind c t))) []
      go true ih = refl
      go false ih = ap (on_first b) ih

  -- without a c the first part is all, and nothing is behind it
  pub before-all : (t : List ℕ) → is_in c t ≡ false → t ≡ before c t
  unfolding before is_in
  before-all [] h = refl
  before-all (b ∷ t) h = go (eqb b c) (before-all t) h
    where
      go : (e : Bool) → (is_in c t ≡ false → t ≡ before c t) → (e || is_in c t) ≡ false → b ∷ t ≡ cond e [] (b ∷ before c t)
      go true ih h = absurd (both_ways true refl h)
      go false ih h = ap (λ (l : List ℕ). b ∷ l) (ih h)

  pub behind-none : (t : List ℕ) → is_in c t ≡ false → behind c t ≡ []
  unfolding behind is_in
  behind-none [] h = refl
  behind-none (b ∷ t) h = go (eqb b c) (behind-none t) h
    where
      go : (e : Bool) → (is_in c t ≡ false → behind c t ≡ []) → (e || is_in c t) ≡ false → cond e t (behind c t) ≡ []
      go true ih h = absurd (both_ways true refl h)
      go false ih h = ih h

  pub behind-shorter : (t : List ℕ) → is_in c t ≡ true → length (behind c t) < length t
  behind-shorter t h = omega (arith, ap length (behind-drop t), length-drop (suc (length (before c t))) t, ltb-true (length (before c t)) (length t) (sym (in-before t) ∙ h))

  -- what a search for the first c finds
  module _ (t : List ℕ) where
    abbrev pub found_at : ℕ
    found_at = position_or_len (λ b. eqb b c) t

    there : ltb found_at (length t) ≡ is_in c t
    there = ap (λ (k : ℕ). ltb k (length t)) (sym (length-before t)) ∙ sym (in-before t)

    pub search-found : (n : ℕ) → ◌≡◌ {A = Option ℕ} (Some n) (cond (ltb found_at (length t)) (Some found_at) None) → (n ≡ length (before c t)) × (is_in c t ≡ true)
    search-found n e = go (is_in c t) refl (e ∙ ap (λ (b : Bool). cond b (Some found_at) None) there)
      where
        go : (b : Bool) → is_in c t ≡ b → ◌≡◌ {A = Option ℕ} (Some n) (cond b (Some found_at) None) → (n ≡ length (before c t)) × (is_in c t ≡ true)
        go true h e = (cc (e, length-before t), h)
        go false h e = absurd cc

    pub search-missing : ◌≡◌ {A = Option ℕ} None (cond (ltb found_at (length t)) (Some found_at) None) → is_in c t ≡ false
    search-missing e = go (is_in c t) refl (e ∙ ap (λ (b : Bool). cond b (Some found_at) None) there)
      where
        go : (b : Bool) → is_in c t ≡ b → ◌≡◌ {A = Option ℕ} None (cond b (Some found_at) None) → is_in c t ≡ false
        go true h e = absurd cc
        go false h e = h
