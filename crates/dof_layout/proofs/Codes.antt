-- The kinds and their numbers. Assumes nothing.
use mathlib.Core.Path.{◌≡◌, refl, sym, ap, ◌∙◌}
use mathlib.Core.Bool.{true, false}
use mathlib.Core.Logic.{◌⊎◌, inl, inr}
use Prim.Native.Nat.{ℕ, zero, suc}
use native.Mathlib.Omega.{arith}
use borrow.Author.Tests.{eqb-true, ltb-true}
use lib.Dec.{T, leb, ltb, eqb}
use Rattle.base.proofs.Bools.{and_right, or-e, T_true, T_of}
use Rattle.base.specs.Sets.{between}
use Rattle.dof_layout.specs.Layout.{is_kind_code}
use Rattle.dof_layout.specs.Answers.{code_of, kind_named}

-- the number of the kind of a number is that number
pub code-named : (k : ℕ) → is_kind_code k ≡ true → code_of (kind_named k) ≡ k
unfolding is_kind_code code_of kind_named
code-named zero e = absurd (or-none e)
  where
    or-none : false ≡ true → ⊥
    or-none e = T_of false e
code-named (suc zero) e = refl
code-named (suc (suc zero)) e = refl
code-named (suc (suc (suc zero))) e = refl
code-named (suc (suc (suc (suc zero)))) e = refl
code-named (suc (suc (suc (suc (suc zero))))) e = refl
code-named (suc (suc (suc (suc (suc (suc zero)))))) e = refl
code-named (suc (suc (suc (suc (suc (suc (suc k))))))) e = go (or-e (between 1 7 n) (eqb n 255) (T_of (is_kind_code n) e))
  where
    n : ℕ
    n = suc (suc (suc (suc (suc (suc (suc k))))))

    go : T (between 1 7 n) ⊎ T (eqb n 255) → code_of (kind_named n) ≡ n
    go (inl t) = absurd (omega (arith, ltb-true n 7 (and_right (leb 1 n) (ltb n 7) (T_true (between 1 7 n) t))))
    go (inr t) = let d : n ≡ 255 = eqb-true n 255 (T_true (eqb n 255) t) in ap (λ (x : ℕ). code_of (kind_named x)) d ∙ sym d
