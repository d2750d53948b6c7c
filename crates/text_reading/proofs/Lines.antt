-- Laws of lines: whether the first one has its key, its value, and whether there is a text behind it. Assumes nothing.
use mathlib.Core.Path.{◌≡◌, refl, sym, ap, ap₂, ◌∙◌}
use mathlib.Core.Bool.{Bool, true, false, ◌&&◌}
use mathlib.Core.List.{List, [], ◌∷◌}
use mathlib.Core.Logic.{◌⊎◌, inl, inr}
use Prim.Native.Nat.{ℕ, ◌-◌, ◌≤◌, ◌<◌, min}
use native.Mathlib.Omega.{arith}
use lib.Dec.{eqb}
use lib.ListN.{length, take, drop, length-drop, drop_of_length-le}
use lib.Seq.{take_all}
use Rattle.std.specs.Prelude.{Option, Some, None, is_some, option_map}
use Rattle.std.specs.Option.{UnwrapsOrElse}
use Rattle.std.specs.Bool.{then_some}
use Rattle.std.specs.List.{starts_with}
use Rattle.std.specs.Cmp.Lexicographic.{pointwise}
use Rattle.base.specs.Lists.{same_list}
use Rattle.base.proofs.Bools.{lt-or-le, eqb_swap}
use Rattle.text_reading.specs.Reading.{told, held}

-- the library's word for a text that begins with the key
pub same_start : (t key : List ℕ) → starts_with eqb t key ≡ same_list (take (length key) t) key
unfolding same_list
same_start t key = same key (take (length key) t)
  where
    same : (xs ys : List ℕ) → pointwise eqb xs ys ≡ same_list ys xs
    same [] [] = refl
    same [] (y ∷ ys) = refl
    same (x ∷ xs) [] = refl
    same (x ∷ xs) (y ∷ ys) = ap₂ ◌&&◌ (eqb_swap x y) (same xs ys)

-- a part from a place on, or from the end where that comes before it
pub rest-from : (n from : ℕ) (l : List ℕ) → from ≡ min n (length l) → take (length l - from) (drop from l) ≡ drop n l
rest-from n from l m = take_all (length l - from) (drop from l) (omega (arith, length-drop from l)) ∙ same (lt-or-le n (length l))
  where
    same : (n < length l) ⊎ (length l ≤ n) → drop from l ≡ drop n l
    same (inl h) = let k : from ≡ n = omega arith in ap (λ (i : ℕ). drop i l) k
    same (inr h) = let a : length l ≤ from = omega arith in drop_of_length-le l a ∙ sym (drop_of_length-le l h)

-- what is seen of a value that is there under a condition
module _ {A B : Type 0} (f : A → B) where
  pub seen-some : (o : Option A) (b : Bool) (x : B) → option_map f o ≡ then_some b x → is_some o ≡ b
  seen-some None true x e = absurd cc
  seen-some None false x e = refl
  seen-some (Some y) true x e = refl
  seen-some (Some y) false x e = absurd cc

  pub seen-or : (o : Option A) (b : Bool) (x d : B) (r : A) → option_map f o ≡ then_some b x → (b ≡ false → x ≡ d) → UnwrapsOrElse o (λ y. f y ≡ d) r → f r ≡ x
  seen-or None true x d r e h u = absurd cc
  seen-or None false x d r e h u = u ∙ sym (h refl)
  seen-or (Some y) true x d r e h u = cc
  seen-or (Some y) false x d r e h u = absurd cc

-- what was read of the value of a line is what was read of the line
pub held-told : {A : Type 0} (line read : Bool) (x : A) → held line (told read x) ≡ told (line && read) x
held-told true true x = refl
held-told true false x = refl
held-told false true x = refl
held-told false false x = refl
