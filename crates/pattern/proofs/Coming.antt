-- A list written from the front on: what is still to come, over the list as it stands, makes the answer. Assumes nothing.
use mathlib.Core.Path.{◌≡◌, refl, sym, ap, ap₂, ◌∙◌}
use mathlib.Core.List.{List, [], ◌∷◌, ◌++◌}
use Prim.Native.Nat.{ℕ, ◌+◌, ◌≤◌, ◌<◌}
use native.Mathlib.Nat.{add-zero, zero-add}
use native.Mathlib.Omega.{arith}
use lib.ListN.{length, set, drop, length-append}
use Rattle.base.specs.Lists.{over, placed}
use Rattle.base.proofs.Lists.{placed-none, placed-next, placed-more}

-- X is still to come, in the places from k up to `end`
pub record Coming {A : Type 0} (end : ℕ) (answer : List A) (k : ℕ) (X out : List A) : Type 0 where
  pub ends : k + length X ≡ end
  pub makes : placed k X out ≡ answer

module _ {A : Type 0} where
  -- at first it is the answer
  pub coming_over : (X out : List A) (end : ℕ) → length X ≡ end → Coming end (over X out) 0 X out
  unfolding placed
  coming_over X out end e = record { ends = zero-add (length X) ∙ e; makes = ap (λ (k : ℕ). X ++ drop k out) (zero-add (length X)) }

  module _ {end : ℕ} {answer : List A} {k : ℕ} {R out : List A} (c : Coming end answer k R out) where
    -- and at last nothing
    pub coming_none : R ≡ [] → (k ≡ end) × (out ≡ answer)
    coming_none e = (omega (arith, c.ends, ap length e), sym (placed-none k out) ∙ ap (λ (X : List A). placed k X out) (sym e) ∙ c.makes)

    -- there is room for a part of it, which is written
    module _ (Y X : List A) (e : R ≡ Y ++ X) (room : end ≤ length out) where
      pub coming_room : k + length Y ≤ length out
      coming_room = omega (arith, c.ends, ap length e, length-append Y X)

      pub coming_part : (k' : ℕ) (out' : List A) → k' ≡ k + length Y → out' ≡ placed k Y out → Coming end answer k' X out'
      coming_part k' out' p q =
          record {
            ends = omega (arith, p, c.ends, ap length e, length-append Y X);
            makes =
                ap₂ (λ (i : ℕ) (l : List A). placed i X l) p q ∙ placed-more k Y X out coming_room ∙ ap (λ (Z : List A). placed k Z out) (sym e) ∙ c.makes;
          }

    -- and for an element of it
    module _ (x : A) (X : List A) (e : R ≡ x ∷ X) (room : end ≤ length out) where
      pub coming_in : k < length out
      coming_in = omega (arith, c.ends, ap length e)

      pub coming_next : Coming end answer (k + 1) X (set out k x)
      coming_next =
          coming_part (x ∷ []) X e room (k + 1) (set out k x) refl
          (ap₂ (λ (l : List A) (i : ℕ). set l i x) (sym (placed-none k out)) (sym (add-zero k)) ∙ placed-next k [] out x x (omega (arith, coming_in)))
