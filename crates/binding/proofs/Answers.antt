-- What the answers of a row's and of a region's binding say of their checks. Assumes nothing.
use mathlib.Core.Path.{◌≡◌, refl}
use Rattle.std.specs.Prelude.{Ok, Err}
use Rattle.base.specs.Checks.{Check, answer}
use Prim.Native.Nat.{ℕ}
use native.Mathlib.Omega.{arith}
use Rattle.base.specs.declared.Refusal.{Refusal}
use Rattle.binding.specs.declared.Counts.{Counts}
use Rattle.binding.specs.declared.RowCounts.{RowCounts}

pub row-passes : (check : Check) (a row : RowCounts) → Ok row ≡ answer check a → (check ≡ Ok tt) × (row ≡ a)
row-passes (Ok tt) a row e = (refl, cc)
row-passes (Err r) a row e = let z : ◌≡◌ {A = ℕ} 0 1 = cc in absurd (omega arith)

pub row-stops : (check : Check) (a : RowCounts) (r : Refusal) → Err r ≡ answer check a → check ≡ Err r
row-stops (Ok tt) a r e = let z : ◌≡◌ {A = ℕ} 0 1 = cc in absurd (omega arith)
row-stops (Err x) a r e = cc

pub bound-passes : (check : Check) (a counts : Counts) → Ok counts ≡ answer check a → (check ≡ Ok tt) × (counts ≡ a)
bound-passes (Ok tt) a counts e = (refl, cc)
bound-passes (Err r) a counts e = let z : ◌≡◌ {A = ℕ} 0 1 = cc in absurd (omega arith)

pub refused-stops : (check : Check) (a : Counts) (r : Refusal) → Err r ≡ answer check a → check ≡ Err r
refused-stops (Ok tt) a r e = let z : ◌≡◌ {A = ℕ} 0 1 = cc in absurd (omega arith)
refused-stops (Err x) a r e = cc
