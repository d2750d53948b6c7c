-- What the search for a word says of a column. Assumes nothing.
use mathlib.Core.Path.{◌≡◌, sym, ap, ap₂, ◌∙◌}
use Rattle.std.specs.Prelude.{Result, Ok, Err}
use mathlib.Core.Logic.{◌≢◌, ◌⊎◌, inl, inr}
use mathlib.Core.List.{List}
use Prim.Native.Nat.{ℕ, ◌+◌, ◌-◌, ◌/◌, ◌≤◌, ◌<◌}
use native.Mathlib.Omega.{arith}
use native.Mathlib.Decide.{ℕ_discrete, dec_lt}
use borrow.Author.Tests.{lt-ltb, eq-eqb, eqb-true}
use lib.Dec.{T, leb, ltb, eqb, leb→le, le→leb, ltb→lt}
use lib.ListN.{length, get_or}
use Rattle.base.specs.Sets.{first_below}
use Rattle.base.proofs.Bools.{lt-or-le, and_l, and_r, T_true, T_false}
use Rattle.base.proofs.Sets.{first-from, none_from}
use mathlib.Core.Bool.{Bool, false, cond, ◌&&◌}
use Rattle.side.specs.Side.{row_holds}
use Rattle.side.specs.Check.{Rising}
use Rattle.side.specs.Row.{lower_in, search_in, Lower}
use Rattle.side.proofs.Holding.{holds_not}

-- the place is the first
pub lower-is : (l : List ℕ) (from to x r : ℕ) → Lower l from to x r → r ≡ lower_in l from to x
unfolding lower_in
lower-is l from to x r w = go (lt-or-le r to)
  where
    under : (k : ℕ) → from ≤ k → k < r → T (leb x (get_or l k 0)) → ⊥
    under k a b t = omega (arith, w.below k a b, leb→le x (get_or l k 0) t)

    go : (r < to) ⊎ (to ≤ r) → r ≡ from + first_below (to - from) (λ j. leb x (get_or l (from + j) 0))
    go (inl h) = first-from (λ k. leb x (get_or l k 0)) from to r w.low h (le→leb x (get_or l r 0) (w.above r (omega arith) h)) under
    go (inr h) = let e : r ≡ to = omega (arith, w.high) in e ∙ none_from (λ k. leb x (get_or l k 0)) from to (omega (arith, w.low)) (λ k a b. under k a (omega arith))

-- the place that a search answers: the word is there, or it is not
module _ (idx : List ℕ) (from to w r : ℕ) (e : r ≡ lower_in idx from to w) where
  abbrev answer : ℕ → Result ℕ ℕ
  answer x = cond (ltb x to && eqb (get_or idx x 0) w) (Ok x) (Err x)

  pub search-found : r < to → get_or idx r 0 ≡ w → Ok r ≡ search_in idx from to w
  search-found h q = sym (ap₂ {C = Result ℕ ℕ} (λ (s t : Bool). cond (s && t) (Ok r) (Err r)) (lt-ltb r to h) (eq-eqb (get_or idx r 0) w q)) ∙ ap answer e

  pub search-missing : (r < to → get_or idx r 0 ≢ w) → Err r ≡ search_in idx from to w
  search-missing f =
      sym (ap {B = Result ℕ ℕ} (λ (t : Bool). cond t (Ok r) (Err r)) (T_false (ltb r to && eqb (get_or idx r 0) w) (λ t. f (ltb→lt r to (and_l (ltb r to) (eqb (get_or idx r 0) w) t)) (eqb-true (get_or idx r 0) w (T_true (eqb (get_or idx r 0) w) (and_r (ltb r to) (eqb (get_or idx r 0) w) t))))))
      ∙ ap answer e

-- a column whose word is not at the place is not held
pub lower-none : (idx masks : List ℕ) (from to c r : ℕ) → from ≤ to → to ≤ length idx → to ≤ length masks → Rising idx from to → Lower idx from to (c / 64) r
    → (r < to → get_or idx r 0 ≢ c / 64) → row_holds idx masks from to c ≡ false
lower-none idx masks from to c r h hi hm ris lo ne = holds_not idx masks from to h hi hm ris c no-k
  where
    no-k : (k : ℕ) → from ≤ k → k < to → get_or idx k 0 ≢ c / 64
    no-k k a b e = go (dec_lt k r) (ℕ_discrete k r)
      where
        go : Dec (k < r) → Dec (k ≡ r) → ⊥
        go (yes l) d = omega (arith, lo.below k a l)
        go (no l) (yes f) = ne (omega arith) (ap (λ (n : ℕ). get_or idx n 0) (sym f) ∙ e)
        go (no l) (no f) = omega (arith, lo.above r (omega arith) (omega arith), ris r k lo.low (omega arith) b, e)
