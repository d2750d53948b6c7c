-- A list that holds an answer and is written with it again. Assumes nothing.
use mathlib.Core.Path.{◌≡◌, refl, sym, ap, ◌∙◌}
use Rattle.std.specs.Prelude.{Ok, Err}
use Rattle.base.specs.Checks.{Check}
use mathlib.Core.Bool.{Bool}
use mathlib.Core.List.{List, ◌++◌}
use Prim.Native.Nat.{ℕ}
use native.Mathlib.Omega.{arith}
use lib.ListN.{length, drop}
use lib.Seq.{drop-append_seam}
use Rattle.base.specs.Checks.{leaves}
use Rattle.base.specs.Lists.{over}
use Rattle.field_region.specs.Closure.{close_answer}
use Rattle.gather.specs.Gather.{gather_answer}
use Rattle.pattern.specs.Pattern.{pattern_answer}
use Rattle.pattern.specs.declared.AbtmLocalSubmatrixPatternStats.{AbtmLocalSubmatrixPatternStats}

module _ {A : Type 0} where
  pub over-over : (X l : List A) → over X (over X l) ≡ over X l
  over-over X l = ap (λ (r : List A). X ++ r) (drop-append_seam X (drop (length X) l))

  -- a list that a call left, accepted
  pub holds : (check : Check) (X lent x : List A) → check ≡ Ok tt → x ≡ leaves check (over X lent) lent → over X x ≡ x
  holds check X lent x e h =
      let left : x ≡ over X lent = h ∙ ap (λ (t : Check). leaves t (over X lent) lent) e in
      ap (over X) left ∙ over-over X lent ∙ sym left

-- ---- an answer that is no refusal was accepted

pub pattern-accepted : (check : Check) (n : ℕ) (p : ℕ → Bool) (s : ℕ → ℕ → Bool) (stats : AbtmLocalSubmatrixPatternStats) → pattern_answer check n p s ≡ Ok stats → check ≡ Ok tt
pattern-accepted (Ok tt) n p s stats e = refl
pattern-accepted (Err r) n p s stats e = let z : ◌≡◌ {A = ℕ} 0 1 = cc in absurd (omega arith)

pub gather-accepted : (check : Check) (ptr : List ℕ) (pairs : ℕ) → gather_answer check ptr ≡ Ok pairs → check ≡ Ok tt
gather-accepted (Ok tt) ptr pairs e = refl
gather-accepted (Err r) ptr pairs e = let z : ◌≡◌ {A = ℕ} 0 1 = cc in absurd (omega arith)

pub close-accepted : (check : Check) (len nodes : ℕ) → close_answer check len ≡ Ok nodes → check ≡ Ok tt
close-accepted (Ok tt) len nodes e = refl
close-accepted (Err r) len nodes e = let z : ◌≡◌ {A = ℕ} 0 1 = cc in absurd (omega arith)
