-- Owners of blocks: what each check of a block says. Assumes nothing.
use Rattle.std.proofs.Common.{◌≡◌, refl, sym, ap, ap₂, ◌∙◌, subst, ◌⊎◌, inl, inr, T, Bool, true, false, List, ℕ, ◌+◌, ◌-◌, ◌≤◌, ◌<◌, arith, lt-ltb, le-ltb, leb-true, eqb, ltb, length, get_or, take, drop, length-drop, length-take-le, get_or-take, get_or-drop}
use Rattle.std.specs.Prelude.{Ok, Err}
use Rattle.base.specs.declared.Refusal.TheVariants.{OwnerOutOfRange, OwnersDiffer}
use Rattle.base.specs.Checks.{must, ◌then◌}
use Rattle.base.specs.Lists.{every}
use Rattle.base.specs.Sets.{every_below}
use Rattle.base.proofs.Bools.{bool-ext, T_of, T_true, lt-or-le}
use Rattle.base.proofs.Checks.{pass, stop, last-pass, last-stop, passed, length-passed, both-passed}
use Rattle.base.proofs.Lists.{every-at, every-all}
use Rattle.base.proofs.Sets.{every-i, every-e}
use Rattle.dof_layout.specs.Layout.{total_of, IsLayout}
use Rattle.dof_layout.proofs.Layouts.{accepted-layout}
use Rattle.field_region.proofs.Blocks.{Block}
use Rattle.field_region.specs.Owners.{same_owner, owner_check, owned_check, owners_check}

-- ---- a block's owners

-- all of a part of a list
pub every-part : (f : ℕ → Bool) (s : List ℕ) (from to : ℕ) → to ≤ length s → every f (take (to - from) (drop from s)) ≡ every_below (to - from) (λ j. f (get_or s (from + j) 0))
every-part f s from to h =
    bool-ext (every f part) (every_below (to - from) (λ j. f (get_or s (from + j) 0)))
    (λ t. every-i (to - from) (λ j. f (get_or s (from + j) 0)) (λ j l. T_of _ (ap f (sym (at j l)) ∙ every-at f 0 part j (T_true _ t) (omega (arith, long)))))
    (λ t. T_of _ (every-all f 0 part (λ j l. let u : j < to - from = omega (arith, long) in ap f (at j u) ∙ T_true _ (every-e (to - from) (λ j. f (get_or s (from + j) 0)) t j u))))
  where
    part : List ℕ
    part = take (to - from) (drop from s)

    long : length part ≡ to - from
    long = length-take-le (to - from) (drop from s) (omega (arith, length-drop from s))

    at : (j : ℕ) → j < to - from → get_or part j 0 ≡ get_or s (from + j) 0
    at j l = get_or-take (to - from) (drop from s) j 0 l ∙ get_or-drop from s j 0

-- where the first of them is known, the others decide
pub first-held : (f : ℕ → Bool) (s : List ℕ) (from to : ℕ) → from < to → f (get_or s from 0) ≡ true
    → every_below (to - (from + 1)) (λ j. f (get_or s (from + 1 + j) 0)) ≡ every_below (to - from) (λ j. f (get_or s (from + j) 0))
first-held f s from to h first =
    bool-ext (every_below (to - (from + 1)) (λ j. p (from + 1 + j))) (every_below (to - from) (λ j. p (from + j)))
    (λ t. every-i (to - from) (λ j. p (from + j)) (λ j l. one t j l (lt-or-le j 1)))
    (λ t. every-i (to - (from + 1)) (λ j. p (from + 1 + j)) (λ j l. let e : from + (j + 1) ≡ from + 1 + j = omega arith in subst (λ (x : ℕ). T (p x)) e (every-e (to - from) (λ j. p (from + j)) t (j + 1) (omega arith))))
  where
    p : ℕ → Bool
    p i = f (get_or s i 0)

    one : T (every_below (to - (from + 1)) (λ j. p (from + 1 + j))) → (j : ℕ) → j < to - from → (j < 1) ⊎ (1 ≤ j) → T (p (from + j))
    one t j l (inl u) = let e : from ≡ from + j = omega arith in subst (λ (x : ℕ). T (p x)) e (T_of _ first)
    one t j l (inr u) = let e : from + 1 + (j - 1) ≡ from + j = omega arith in subst (λ (x : ℕ). T (p x)) e (every-e (to - (from + 1)) (λ j. p (from + 1 + j)) t (j - 1) (omega arith))

module _ (components owners : List ℕ) (b start end : ℕ) (k : Block components b start end) (ranks : ℕ) where
  check-is : owner_check components owners ranks b
      ≡ (must (ltb (get_or owners start 0) ranks) OwnerOutOfRange then must (every_below (end - start) (λ j. eqb (get_or owners (start + j) 0) (get_or owners start 0))) OwnersDiffer)
  unfolding owner_check same_owner
  check-is =
      let d : get_or components b 0 ≡ end - start = omega (arith, k.size) in
      ap₂ (λ (z s : ℕ). must (ltb (get_or owners s 0) ranks) OwnerOutOfRange then must (every_below z (λ j. eqb (get_or owners (s + j) 0) (get_or owners s 0))) OwnersDiffer) d k.starts

  pub owner-20 : ranks ≤ get_or owners start 0 → owner_check components owners ranks b ≡ Err OwnerOutOfRange
  owner-20 h = check-is ∙ sym (stop _ _ _ _ (le-ltb _ _ h) refl)

  pub owner-21 : get_or owners start 0 < ranks → every_below (end - start) (λ j. eqb (get_or owners (start + j) 0) (get_or owners start 0)) ≡ false → owner_check components owners ranks b ≡ Err OwnersDiffer
  owner-21 h e = check-is ∙ sym (pass _ _ _ _ (lt-ltb _ _ h) (last-stop _ _ _ e refl))

  pub owner-ok : get_or owners start 0 < ranks → every_below (end - start) (λ j. eqb (get_or owners (start + j) 0) (get_or owners start 0)) ≡ true → owner_check components owners ranks b ≡ Ok tt
  owner-ok h e = check-is ∙ sym (pass _ _ _ _ (lt-ltb _ _ h) (last-pass _ _ _ e refl))

-- ---- what acceptance gives

pub accepted-owned : (components owners : List ℕ) (ranks room : ℕ) → owned_check components owners ranks room ≡ Ok tt → (length owners ≡ total_of components) × (length components ≤ room)
unfolding owned_check
accepted-owned components owners ranks room e =
    let q = both-passed _ _ e in
    let r = both-passed _ _ q.1 in
    let s = both-passed _ _ r.1 in
    (length-passed _ _ q.0, leb-true _ _ (passed _ _ s.1))

pub accepted-owners : (kinds ids fields components offsets owners : List ℕ) (ranks : ℕ) (out : List ℕ)
    → owners_check kinds ids fields components offsets owners ranks out ≡ Ok tt
    → IsLayout kinds ids fields components offsets × (length owners ≡ total_of components) × (length components ≤ length out)
unfolding owners_check
accepted-owners kinds ids fields components offsets owners ranks out e =
    let p = both-passed _ _ e in
    let q = accepted-owned components owners ranks (length out) p.1 in
    (accepted-layout kinds ids fields components offsets p.0, q.0, q.1)
