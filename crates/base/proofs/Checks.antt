-- Laws of the chain of checks: for a function that returns at each check that fails, for its caller, and for whoever hands a refusal on.
-- Assumes nothing.
use mathlib.Core.Path.{◌≡◌, refl, sym, ap, ◌∙◌}
use mathlib.Core.Bool.{Bool, true, false, not}
use Prim.Native.Nat.{ℕ, zero, suc, ◌+◌, ◌<◌}
use native.Mathlib.Nat.{not-suc-le-zero}
use native.Mathlib.Numerals.{add-one}
use native.Mathlib.Decide.{ℕ_discrete}
use native.Mathlib.Omega.{arith}
use lib.Dec.{eqb}
use borrow.Author.Tests.{not-true, not-false, lt-ltb, le-ltb, le-leb, lt-leb, eq-eqb, ne_eqb, eqb-true}
use Rattle.base.specs.declared.Refusal.{Refusal}
use Rattle.base.specs.declared.Refusal.TheVariants.{WrongLength}
use Rattle.std.specs.Prelude.{Result, Ok, Err}
use Rattle.std.specs.Result.{IsErrAnd}
use Rattle.std.proofs.lemmas.Result.{err_from_is_err_and}
use Rattle.base.specs.Checks.{Check, must, must_be, ◌then◌, checks_below, after, leaves}

-- ---- a return: the answer r is what the chain says

-- the check passes, and what comes after it answers
pub pass : (b : Bool) (n : Refusal) (r next : Check) → b ≡ true → r ≡ next → r ≡ (must b n then next)
unfolding must ◌then◌
pass b n r next e h = h ∙ ap (λ (x : Bool). must x n then next) (sym e)

-- the check fails
pub stop : (b : Bool) (n : Refusal) (r next : Check) → b ≡ false → r ≡ Err n → r ≡ (must b n then next)
unfolding must ◌then◌
stop b n r next e h = h ∙ ap (λ (x : Bool). must x n then next) (sym e)

-- the same of the last check
pub last-pass : (b : Bool) (n : Refusal) (r : Check) → b ≡ true → r ≡ Ok tt → r ≡ must b n
unfolding must
last-pass b n r e h = h ∙ ap (λ (x : Bool). must x n) (sym e)

pub last-stop : (b : Bool) (n : Refusal) (r : Check) → b ≡ false → r ≡ Err n → r ≡ must b n
unfolding must
last-stop b n r e h = h ∙ ap (λ (x : Bool). must x n) (sym e)

-- a length
pub length-pass : (e a : ℕ) (r next : Check) → eqb a e ≡ true → r ≡ next → r ≡ (must_be e a then next)
unfolding must_be must ◌then◌
length-pass e a r next t h = h ∙ ap (λ (b : Bool). must b (WrongLength e a) then next) (sym t)

pub length-stop : (e a : ℕ) (r next : Check) → eqb a e ≡ false → r ≡ Err (WrongLength e a) → r ≡ (must_be e a then next)
unfolding must_be must ◌then◌
length-stop e a r next t h = h ∙ ap (λ (b : Bool). must b (WrongLength e a) then next) (sym t)

-- a group of checks
pub group-pass : (g r next : Check) → g ≡ Ok tt → r ≡ next → r ≡ (g then next)
unfolding ◌then◌
group-pass g r next e h = h ∙ ap (λ (x : Check). x then next) (sym e)

pub group-stop : (g next : Check) (q : Refusal) → g ≡ Err q → Err q ≡ (g then next)
unfolding ◌then◌
group-stop g next q e = ap (λ (x : Check). x then next) (sym e)

-- what a `?` hands on is the refusal that it met
pub handed : {A : Type 0} (r : Result A Refusal) (q : Refusal) → IsErrAnd r (λ y. y ≡ q) → r ≡ Err q
handed r q h = let p = err_from_is_err_and r h in p.1 ∙ ap Err p.2

pub group-refuses : (g r next : Check) (q : Refusal) → g ≡ Err q → r ≡ Err q → r ≡ (g then next)
group-refuses g r next q e h = h ∙ group-stop g next q e

-- a call of `must_be` whose refusal a `?` hands on
pub length-refuses : (x e a : ℕ) (g r next : Check) (q : Refusal) → g ≡ must_be x a → x ≡ e → g ≡ Err q → IsErrAnd r (λ y. y ≡ q) → r ≡ (must_be e a then next)
length-refuses x e a g r next q h s k t = group-refuses (must_be e a) r next q (sym (h ∙ ap (λ (n : ℕ). must_be n a) s) ∙ k) (handed r q t)

-- an accepted group leaves the next to decide
pub then_next : (g next : Check) → g ≡ Ok tt → (g then next) ≡ next
then_next g next e = sym (group-pass g next next e refl)

-- nothing more to check
pub then-none : (g : Check) → (g then Ok tt) ≡ g
unfolding ◌then◌
then-none (Ok tt) = refl
then-none (Err r) = refl

pub both-pass : (g next : Check) → g ≡ Ok tt → next ≡ Ok tt → (g then next) ≡ Ok tt
both-pass g next e f = then_next g next e ∙ f

-- how a chain is grouped is no matter
pub then-assoc : (a b next : Check) → ((a then b) then next) ≡ (a then b then next)
unfolding ◌then◌
then-assoc (Ok tt) b next = refl
then-assoc (Err r) b next = refl

-- what a call's answer r says of what its contract equates it with
pub call-no : (r b : Bool) → r ≡ b → not r ≡ true → b ≡ false
call-no r b e h = sym e ∙ not-true r h

pub call-yes : (r b : Bool) → r ≡ b → not r ≡ false → b ≡ true
call-yes r b e h = sym e ∙ not-false r h

pub call-eq : (r x y : ℕ) → r ≡ x → r ≡ y → eqb x y ≡ true
call-eq r x y e h = eq-eqb x y (sym e ∙ h)

pub call-ne : (r x y : ℕ) → r ≡ x → (r ≡ y → ⊥) → eqb x y ≡ false
call-ne r x y e h = ne_eqb x y (λ k. h (e ∙ k))

-- ---- what an accepted chain has passed

pub refused-not-accepted : (r : Refusal) → ◌≡◌ {A = Check} (Err r) (Ok tt) → ⊥
refused-not-accepted r e = cc

pub passed : (b : Bool) (n : Refusal) → must b n ≡ Ok tt → b ≡ true
unfolding must
passed true n e = refl
passed false n e = absurd (refused-not-accepted n e)

pub length-passed : (e a : ℕ) → must_be e a ≡ Ok tt → a ≡ e
unfolding must_be must
length-passed e a h = go (eqb a e) refl h
  where
    go : (b : Bool) → eqb a e ≡ b → must b (WrongLength e a) ≡ Ok tt → a ≡ e
    go true t h = eqb-true a e t
    go false t h = absurd (refused-not-accepted (WrongLength e a) h)

pub both-passed : (g next : Check) → (g then next) ≡ Ok tt → (g ≡ Ok tt) × (next ≡ Ok tt)
unfolding ◌then◌
both-passed (Ok tt) next e = (refl, e)
both-passed (Err r) next e = absurd (refused-not-accepted r e)

-- ---- checks one after the other

pub checks-none : (check : ℕ → Check) → checks_below 0 check ≡ Ok tt
unfolding checks_below
checks-none check = refl

pub checks-next : (k : ℕ) (check : ℕ → Check) → checks_below k check ≡ Ok tt → check k ≡ Ok tt → checks_below (k + 1) check ≡ Ok tt
unfolding checks_below ◌then◌
checks-next k check e h = ap (λ (n : ℕ). checks_below n check) (add-one k) ∙ ap (λ (x : Check). x then check k) e ∙ h

pub checks-all : (n : ℕ) (check : ℕ → Check) → ((k : ℕ) → k < n → check k ≡ Ok tt) → checks_below n check ≡ Ok tt
checks-all zero check h = checks-none check
checks-all (suc n) check h =
    ap (λ (k : ℕ). checks_below k check) (sym (add-one n)) ∙ checks-next n check (checks-all n check (λ k l. h k (omega arith))) (h n (omega arith))

-- those before k pass and k refuses
pub checks-stop : (n k : ℕ) (check : ℕ → Check) (r : Refusal) → k < n → checks_below k check ≡ Ok tt → check k ≡ Err r → checks_below n check ≡ Err r
unfolding checks_below ◌then◌
checks-stop zero k check r l e h = absurd (not-suc-le-zero l)
checks-stop (suc n) k check r l e h = go (ℕ_discrete k n) (λ b. checks-stop n k check r b e h)
  where
    go : Dec (k ≡ n) → (k < n → checks_below n check ≡ Err r) → (checks_below n check then check n) ≡ Err r
    go (yes d) ih =
        ap (λ (x : Check). x then check n) (ap (λ (j : ℕ). checks_below j check) (sym d) ∙ e) ∙ ap check (sym d) ∙ h
    go (no d) ih = ap (λ (x : Check). x then check n) (ih (omega arith))

pub checks-passed : (n : ℕ) (check : ℕ → Check) → checks_below n check ≡ Ok tt → (k : ℕ) → k < n → check k ≡ Ok tt
unfolding checks_below
checks-passed zero check e k l = absurd (not-suc-le-zero l)
checks-passed (suc n) check e k l = go (ℕ_discrete k n) (checks-passed n check (both-passed _ _ e).0 k)
  where
    go : Dec (k ≡ n) → (k < n → check k ≡ Ok tt) → check k ≡ Ok tt
    go (yes d) ih = ap check d ∙ (both-passed _ _ e).1
    go (no d) ih = ih (omega arith)

-- ---- the ways out of `after`: the answer, or the refusal handed on

module _ {A : Type 0} where
  pub on-accepted : (c : Check) (a x : A) (f : Refusal → A) → c ≡ Ok tt → x ≡ a → x ≡ after c a f
  on-accepted c a x f e h = h ∙ ap (λ (t : Check). after t a f) (sym e)

  pub on-refused : (c : Check) (r : Refusal) (a : A) (f : Refusal → A) → c ≡ Err r → f r ≡ after c a f
  on-refused c r a f e = ap (λ (t : Check). after t a f) (sym e)

  -- the same of an answer x that is known to be what the refusal becomes, as a `?` hands it on
  pub handed-on : (c : Check) (r : Refusal) (a x : A) (f : Refusal → A) → c ≡ Err r → x ≡ f r → x ≡ after c a f
  handed-on c r a x f e h = h ∙ on-refused c r a f e

  -- a refusal changes no lent list
  pub kept : (c : Check) (r : Refusal) (new old : A) → c ≡ Err r → old ≡ leaves c new old
  kept c r new old e = ap (λ (t : Check). leaves t new old) (sym e)

-- each return of a function that is one chain: `search checks depth 20`, with the chain's name unfolded
pub ruleset checks = (handed, group-pass, group-stop, group-refuses, on-accepted, on-refused, handed-on, kept, pass, stop, last-pass, last-stop, length-pass, length-stop, le-leb, lt-leb, lt-ltb, le-ltb, eq-eqb, ne_eqb, call-no, call-yes, call-eq, call-ne)
