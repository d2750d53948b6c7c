-- The mask of a field, a run of blocks at a time. Assumes nothing.
use mathlib.Core.Path.{◌≡◌, refl, sym, ap, ap₂, ◌∙◌}
use mathlib.Core.Logic.{◌⊎◌, inl, inr}
use mathlib.Core.Bool.{Bool, true, false, not, ◌&&◌, ◌||◌}
use mathlib.Core.List.{List}
use Prim.Native.Nat.{ℕ, suc, ◌+◌, ◌≤◌, ◌<◌}
use native.Mathlib.Omega.{arith}
use borrow.Author.Tests.{eq-eqb, ne_eqb, lt-ltb, le-ltb, le-leb, lt-leb}
use lib.Dec.{ltb, leb, eqb}
use lib.ListN.{length, get_or}
use Rattle.base.specs.Sets.{between}
use Rattle.base.proofs.Bools.{not-below, lt-or-le, eq-or-ne}
use Rattle.mask.specs.Mask.{in_mask, mask_words}
use Rattle.mask.specs.Answers.{with_range}
use Rattle.mask.proofs.Masks.{mask-cong, mask-holds}
use Rattle.dof_layout.specs.Layout.{start_of, total_of, block_of}
use Rattle.dof_layout.specs.Answers.{has_field}
use Rattle.dof_layout.specs.Runs.{Run}
use Rattle.dof_layout.proofs.Layouts.{start-mono, block-holds, block-from, block-below}

module _ (components : List ℕ) (i : ℕ) (l : i < total_of components) where
  -- node i is before block b exactly if its block is
  pub before-block : (b : ℕ) → ltb i (start_of components b) ≡ ltb (block_of components i) b
  before-block b = go (lt-or-le (block_of components i) b)
    where
      go : (block_of components i < b) ⊎ (b ≤ block_of components i) → ltb i (start_of components b) ≡ ltb (block_of components i) b
      go (inl h) =
          lt-ltb i (start_of components b) (omega (arith, block-below components (block_of components i) i (block-holds components i l).1, start-mono components (suc (block_of components i)) b h))
          ∙ sym (lt-ltb (block_of components i) b h)
      go (inr h) =
          le-ltb i (start_of components b) (omega (arith, block-from components (block_of components i) i (block-holds components i l).1, start-mono components b (block_of components i) h))
          ∙ sym (le-ltb (block_of components i) b h)

  pub past-block : (a : ℕ) → leb (start_of components a) i ≡ leb a (block_of components i)
  past-block a = sym (not-below i (start_of components a)) ∙ ap not (before-block a) ∙ not-below (block_of components i) a

module _ (fields components : List ℕ) (field : ℕ) where
  -- the nodes taken before block b: those in a block before b that has the field
  abbrev pub taken : ℕ → ℕ → Bool
  taken b i = ltb (block_of components i) b && has_field fields components field i

  pub taken_none : (len : ℕ) → mask_words len (λ i. false) ≡ mask_words len (taken 0)
  taken_none len = mask-cong len (λ i. false) (taken 0) (λ i l. sym (ap (λ (t : Bool). t && has_field fields components field i) (le-ltb (block_of components i) 0 (omega arith))))

  -- a run of blocks of the field, and the block after it
  pub taken-run : (a b : ℕ) → length fields ≡ length components → Run fields field a b
      → with_range (total_of components) (mask_words (total_of components) (taken a)) (start_of components a) (start_of components b) ≡ mask_words (total_of components) (taken (b + 1))
  taken-run a b e run =
      mask-cong (total_of components) (λ i. in_mask (mask_words (total_of components) (taken a)) i || between (start_of components a) (start_of components b) i) (taken (b + 1))
      (λ i l. ap₂ ◌||◌ (mask-holds (total_of components) (taken a) i l) (ap₂ ◌&&◌ (past-block components i l a) (before-block components i l b)) ∙ go i l (lt-or-le (block_of components i) a) (lt-or-le (block_of components i) b))
    where
      first : (h : Bool) → ((true && h) || (false && true)) ≡ (true && h)
      first true = refl
      first false = refl

      second : (h : Bool) → h ≡ true → ((false && h) || (true && true)) ≡ (true && h)
      second h e = ap (λ (t : Bool). true && t) (sym e)

      tests : (i : ℕ) {s f t : Bool} → ltb (block_of components i) a ≡ s → leb a (block_of components i) ≡ f → ltb (block_of components i) b ≡ t
          → (taken a i || (leb a (block_of components i) && ltb (block_of components i) b)) ≡ ((s && has_field fields components field i) || (f && t))
      tests i p q r = ap₂ (λ (x y : Bool). (x && has_field fields components field i) || y) p (ap₂ ◌&&◌ q r)

      go : (i : ℕ) → i < total_of components → (block_of components i < a) ⊎ (a ≤ block_of components i) → (block_of components i < b) ⊎ (b ≤ block_of components i)
          → (taken a i || (leb a (block_of components i) && ltb (block_of components i) b)) ≡ taken (b + 1) i
      go i l (inl h) (inr k) = absurd (omega (arith, run.from))
      go i l (inl h) (inl k) =
          tests i (lt-ltb (block_of components i) a h) (lt-leb a (block_of components i) h) (lt-ltb (block_of components i) b k)
          ∙ first (has_field fields components field i) ∙ ap (λ (t : Bool). t && has_field fields components field i) (sym (lt-ltb (block_of components i) (b + 1) (omega arith)))
      go i l (inr h) (inl k) =
          tests i (le-ltb (block_of components i) a h) (le-leb a (block_of components i) h) (lt-ltb (block_of components i) b k)
          ∙ second (has_field fields components field i) (eq-eqb (get_or fields (block_of components i) 0) field (run.all (block_of components i) h k))
          ∙ ap (λ (t : Bool). t && has_field fields components field i) (sym (lt-ltb (block_of components i) (b + 1) (omega arith)))
      go i l (inr h) (inr k) =
          tests i (le-ltb (block_of components i) a h) (le-leb a (block_of components i) h) (le-ltb (block_of components i) b k) ∙ at (eq-or-ne (block_of components i) b)
        where
          at : (block_of components i ≡ b) ⊎ (block_of components i ≡ b → ⊥) → ((false && has_field fields components field i) || (true && false)) ≡ taken (b + 1) i
          at (inl d) =
              let inside : b < length fields = omega (arith, e, (block-holds components i l).0) in
              sym
              (ap₂ ◌&&◌ (lt-ltb (block_of components i) (b + 1) (omega arith))
              (ap (λ (c : ℕ). eqb (get_or fields c 0) field) d ∙ ne_eqb (get_or fields b 0) field (run.ends inside)))
          at (inr d) = sym (ap (λ (t : Bool). t && has_field fields components field i) (le-ltb (block_of components i) (b + 1) (omega arith)))

  pub taken-all : (b : ℕ) → length components ≤ b → mask_words (total_of components) (taken b) ≡ mask_words (total_of components) (has_field fields components field)
  taken-all b e =
      mask-cong (total_of components) (taken b) (has_field fields components field)
      (λ i l. ap (λ (t : Bool). t && has_field fields components field i) (lt-ltb (block_of components i) b (omega (arith, (block-holds components i l).0))))
