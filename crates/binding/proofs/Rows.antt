-- The faults of one row, from the mask that its entries filled, and of the members' rows one after the other. Assumes nothing.
use mathlib.Core.Path.{◌≡◌, refl, sym, ap, ◌∙◌, subst}
use Rattle.std.specs.Prelude.{Ok, Err}
use Rattle.base.specs.Checks.{Check}
use Rattle.base.specs.declared.Refusal.TheVariants.{PairWithoutEntry, EntryWithoutPair}
use mathlib.Core.Bool.{Bool, true, false, not, ◌&&◌, ◌||◌, and_assoc}
use mathlib.Core.List.{List}
use Prim.Native.Nat.{ℕ, ◌+◌, ◌-◌, ◌≤◌, ◌<◌}
use native.Mathlib.Omega.{arith}
use lib.Dec.{T, T_not}
use lib.ListN.{length, get_or, drop, length-drop}
use lib.Seq.{slice, length-take-le}
use Rattle.base.specs.Checks.{side_limit, checks_below}
use Rattle.base.specs.Lists.{is_in}
use Rattle.base.specs.Sets.{any_below, count_below}
use Rattle.base.specs.declared.Refusal.{Refusal}
use Rattle.base.proofs.Bools.{and_l, and_r}
use Rattle.base.proofs.Checks.{pass, stop, last-pass, last-stop, checks-none, checks-next, checks-all, checks-stop}
use Rattle.base.proofs.Lists.{part_slice, get_or-slice}
use Rattle.base.proofs.Sets.{any-cong, any_none, count-member, get_or-count}
use Rattle.mask.specs.Mask.{in_mask, mask_words, IsMask}
use Rattle.mask.proofs.Masks.{mask-holds, is-of}
use Rattle.mask.proofs.Nexts.{Next}
use Rattle.csr32.specs.Matrix.{row_of, stored, IsMatrix}
use Rattle.csr32.proofs.Matrix.{ptr_le}
use Rattle.pattern.specs.Pattern.{member_at}
use Rattle.pattern.proofs.Walks.{count-first, count_turn}
use Rattle.binding.specs.Binding.{row_faults, binding_check}
use Rattle.binding.specs.Steps.{Entries}

-- a matrix's row
pub row-entries : (n : ℕ) (ptr cols : List ℕ) → IsMatrix n n ptr cols → (r : ℕ) → r < n → Entries n cols (get_or ptr r 0) (get_or ptr (r + 1) 0)
row-entries n ptr cols m r h = record { few = m.few_entries; up = m.rises r h; within = ptr_le n n ptr cols m (r + 1) (omega arith); inside = m.inside }

-- its columns, by its entries
module _ (n : ℕ) (ptr cols : List ℕ) (m : IsMatrix n n ptr cols) (r : ℕ) (h : r < n) where
  pub row-long : length (row_of ptr cols r) ≡ get_or ptr (r + 1) 0 - get_or ptr r 0
  row-long =
      let row = row-entries n ptr cols m r h in
      sym (ap length (part_slice (get_or ptr r 0) (get_or ptr (r + 1) 0) cols))
      ∙ length-take-le _ (drop (get_or ptr r 0) cols) (omega (arith, row.up, row.within, length-drop (get_or ptr r 0) cols))

  pub row_column : (i : ℕ) → i < length (row_of ptr cols r) → get_or (row_of ptr cols r) i 0 ≡ get_or cols (get_or ptr r 0 + i) 0
  row_column i l = get_or-slice (get_or ptr r 0) (get_or ptr (r + 1) 0) cols i (omega (arith, row-long))

-- ---- a row's mask: empty, then filled by the entries of row r, then without the row's pairs

module _ (n : ℕ) (ptr cols : List ℕ) (r : ℕ) (pairs : ℕ → Bool) (empty filled : List ℕ) (none : empty ≡ mask_words n (λ i. false))
    (joins : filled ≡ mask_words n (λ c. in_mask empty c || is_in c (slice (get_or ptr r 0) (get_or ptr (r + 1) 0) cols))) where
  filled_is : (c : ℕ) → c < n → in_mask filled c ≡ stored ptr cols r c
  unfolding stored
  filled_is c h =
      ap (λ (x : List ℕ). in_mask x c) joins
      ∙ mask-holds n (λ c. in_mask empty c || is_in c (slice (get_or ptr r 0) (get_or ptr (r + 1) 0) cols)) c h
      ∙ ap (λ (t : Bool). t || is_in c (slice (get_or ptr r 0) (get_or ptr (r + 1) 0) cols)) (ap (λ (x : List ℕ). in_mask x c) none ∙ mask-holds n (λ i. false) c h)

  pub missing-is : (p : ℕ → Bool) (missing : Bool) → missing ≡ any_below n (λ c. p c && pairs c && not (in_mask filled c)) → missing ≡ any_below n (λ c. p c && pairs c && not (stored ptr cols r c))
  missing-is p missing e =
      e
      ∙ any-cong n (λ c. p c && pairs c && not (in_mask filled c)) (λ c. p c && pairs c && not (stored ptr cols r c))
      (λ c h. ap (λ (t : Bool). p c && pairs c && not t) (filled_is c h))

  module _ (left : List ℕ) (takes : left ≡ mask_words n (λ c. in_mask filled c && not (pairs c))) where
    left_is : (c : ℕ) → c < n → in_mask left c ≡ (stored ptr cols r c && not (pairs c))
    left_is c h =
        ap (λ (x : List ℕ). in_mask x c) takes
        ∙ mask-holds n (λ c. in_mask filled c && not (pairs c)) c h
        ∙ ap (λ (t : Bool). t && not (pairs c)) (filled_is c h)

    pub left-mask : n ≤ side_limit → IsMask n left
    left-mask h = is-of n (λ c. in_mask filled c && not (pairs c)) left h takes

    pub left-entry : (c : ℕ) → c < n → T (in_mask left c) → T (is_in c (slice (get_or ptr r 0) (get_or ptr (r + 1) 0) cols))
    unfolding stored
    left-entry c h t = and_l (stored ptr cols r c) (not (pairs c)) (subst (λ (b : Bool). T b) (left_is c h) t)

    pub extra-is : (p : ℕ → Bool) (extra : Bool) → extra ≡ any_below n (λ c. p c && in_mask left c) → extra ≡ any_below n (λ c. p c && stored ptr cols r c && not (pairs c))
    extra-is p extra e =
        e
        ∙ any-cong n (λ c. p c && in_mask left c) (λ c. p c && stored ptr cols r c && not (pairs c))
        (λ c h. ap (λ (t : Bool). p c && t) (left_is c h) ∙ sym (and_assoc (p c) (stored ptr cols r c) (not (pairs c))))

-- ---- what a row's two tests answer

module _ (n : ℕ) (p pairs entries : ℕ → Bool) (missing extra : Bool) (m : missing ≡ any_below n (λ c. p c && pairs c && not (entries c)))
    (e : extra ≡ any_below n (λ c. p c && entries c && not (pairs c))) (x : Check) where
  pub row-23 : missing ≡ true → x ≡ Err PairWithoutEntry → x ≡ row_faults n p pairs entries
  unfolding row_faults
  row-23 t h = stop _ _ x _ (ap not (sym m ∙ t)) h

  pub row-24 : missing ≡ false → extra ≡ true → x ≡ Err EntryWithoutPair → x ≡ row_faults n p pairs entries
  unfolding row_faults
  row-24 f t h = pass _ _ x _ (ap not (sym m ∙ f)) (last-stop _ _ x (ap not (sym e ∙ t)) h)

  pub row_fine : missing ≡ false → extra ≡ false → x ≡ Ok tt → x ≡ row_faults n p pairs entries
  unfolding row_faults
  row_fine f g h = pass _ _ x _ (ap not (sym m ∙ f)) (last-pass _ _ x (ap not (sym e ∙ g)) h)

-- ---- a row whose pairs are its entries

none-lacks : (n : ℕ) (p a b : ℕ → Bool) → ((c : ℕ) → c < n → a c ≡ b c) → not (any_below n (λ c. p c && a c && not (b c))) ≡ true
none-lacks n p a b same =
    ap not (any_none n (λ c. p c && a c && not (b c))
    (λ c l t. T_not (b c) (and_r (p c && a c) (not (b c)) t) (subst (λ (x : Bool). T x) (same c l) (and_r (p c) (a c) (and_l (p c && a c) (not (b c)) t)))))

pub row-agrees : (n : ℕ) (p a b : ℕ → Bool) → ((c : ℕ) → c < n → a c ≡ b c) → row_faults n p a b ≡ Ok tt
unfolding row_faults
row-agrees n p a b same = sym (pass _ _ (Ok tt) _ (none-lacks n p a b same) (last-pass _ _ (Ok tt) (none-lacks n p b a (λ c l. sym (same c l))) refl))

-- and so every row, where the pairs are the entries
pub binds-itself : (n : ℕ) (p : ℕ → Bool) (s : ℕ → ℕ → Bool) → binding_check n p s s ≡ Ok tt
unfolding binding_check
binds-itself n p s =
    checks-all (count_below n p) (λ k. row_faults n p (s (member_at n p k)) (s (member_at n p k))) (λ k h. row-agrees n p (s (member_at n p k)) (s (member_at n p k)) (λ c l. refl))

-- ---- the members' rows

module _ (n : ℕ) (region : List ℕ) (s entries : ℕ → ℕ → Bool) where
  abbrev p : ℕ → Bool
  p = in_mask region

  abbrev check : ℕ → Check
  check k = row_faults n p (s (member_at n p k)) (entries (member_at n p k))

  -- the rows of the members below r pass
  pub record Checking (r : ℕ) : Type 0 where
    pub within : r ≤ n
    pub member : r < n → T (in_mask region r)
    pub passed : checks_below (count_below r p) check ≡ Ok tt

  pub check_first : (r : ℕ) → Next n region 0 r → Checking r
  check_first r next =
      record { within = next.within; member = next.member; passed = ap (λ (k : ℕ). checks_below k check) (sym (count-first n region r next)) ∙ checks-none check }

  module _ (r : ℕ) (inv : Checking r) (l : r < n) where
    -- r is member number `count_below r p`
    own : row_faults n p (s r) (entries r) ≡ check (count_below r p)
    own = ap (λ (i : ℕ). row_faults n p (s i) (entries i)) (sym (get_or-count n p r l (inv.member l)))

    pub check_stop : (f : Refusal) → row_faults n p (s r) (entries r) ≡ Err f → binding_check n p s entries ≡ Err f
    unfolding binding_check
    check_stop f h = checks-stop (count_below n p) (count_below r p) check f (count-member n p r l (inv.member l)) inv.passed (sym own ∙ h)

    pub check_turn : row_faults n p (s r) (entries r) ≡ Ok tt → (r' : ℕ) → Next n region (r + 1) r' → Checking r'
    check_turn h r' next =
        record {
          within = next.within;
          member = next.member;
          passed = ap (λ (k : ℕ). checks_below k check) (sym (count_turn n region r r' (inv.member l) next)) ∙ checks-next (count_below r p) check inv.passed (sym own ∙ h);
        }

  pub check_last : (r : ℕ) → Checking r → n ≤ r → binding_check n p s entries ≡ Ok tt
  unfolding binding_check
  check_last r inv l = let e : r ≡ n = omega (arith, inv.within) in sym (ap (λ (k : ℕ). checks_below (count_below k p) check) e) ∙ inv.passed
