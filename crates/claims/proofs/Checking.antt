-- The checks of a run: 23 and 24 over all rows, and what acceptance gives. Assumes nothing.
use mathlib.Core.Path.{◌≡◌, refl, sym, ap, ap₂, ◌∙◌}
use Rattle.std.specs.Prelude.{Ok, Err}
use Rattle.base.specs.Checks.{Check}
use Rattle.base.specs.declared.Refusal.TheVariants.{PairWithoutEntry, EntryWithoutPair, WrongLength}
use mathlib.Core.Bool.{Bool, true, false, not, ◌&&◌, ◌||◌}
use mathlib.Core.List.{List}
use Prim.Native.Nat.{ℕ, zero, suc, ◌≤◌, ◌<◌}
use native.Mathlib.Omega.{arith}
use borrow.Author.Tests.{eqb-true, lt-ltb, le-leb}
use lib.Dec.{eqb}
use lib.ListN.{length, get_or}
use Rattle.base.specs.Checks.{must, must_be, ◌then◌, checks_below, side_limit}
use Rattle.base.specs.Sets.{between, count_below}
use Rattle.base.proofs.Checks.{both-passed, passed, length-passed}
use Rattle.base.proofs.Sets.{any-cong, count-cong, members-ext}
use Rattle.mask.specs.Mask.{in_mask, length_check, IsMask}
use Rattle.mask.specs.Answers.{with_range}
use Rattle.mask.proofs.Masks.{mask-holds, is-of}
use Rattle.csr32.specs.declared.Csr32Matrix.{Csr32Matrix}
use Rattle.csr32.specs.declared.inner.Matrix.{Matrix}
use Rattle.csr32.specs.Views.{entries as held, AcceptedFrom as AcceptedMatrix}
use Rattle.side.specs.declared.inner.Side.{Side}
use Rattle.side.specs.Views.{pairs, AcceptedFrom as AcceptedSide}
use Rattle.dual_topology.specs.declared.AbtmDualTopology.{AbtmDualTopology}
use Rattle.pattern.specs.Pattern.{member_at}
use Rattle.binding.specs.Binding.{row_faults, binding_check}
use Rattle.numeric_plan.specs.Plan.{sides_check}
use Rattle.claims.specs.Run.{sided_topology, pairs_check, arrays_check, run_check, field_run_check}
use Rattle.claims.specs.Views.{check_arrays}

-- ---- a length as the last check

pub last-length : (e a : ℕ) (r : Check) → eqb a e ≡ true → r ≡ Ok tt → r ≡ must_be e a
unfolding must_be must
last-length e a r t h = h ∙ ap (λ (b : Bool). must b (WrongLength e a)) (sym t)

pub last-wrong : (e a : ℕ) (r : Check) → eqb a e ≡ false → r ≡ Err (WrongLength e a) → r ≡ must_be e a
unfolding must_be must
last-wrong e a r t h = h ∙ ap (λ (b : Bool). must b (WrongLength e a)) (sym t)

-- ---- 23 and 24 go by the members below the side alone

checks-cong : (n : ℕ) (f g : ℕ → Check) → ((k : ℕ) → f k ≡ g k) → checks_below n f ≡ checks_below n g
unfolding checks_below
checks-cong zero f g e = refl
checks-cong (suc n) f g e = ap₂ ◌then◌ (checks-cong n f g e) (e n)

module _ (n : ℕ) (p q : ℕ → Bool) (same : (i : ℕ) → i < n → p i ≡ q i) where
  faults-cong : (a b : ℕ → Bool) → row_faults n p a b ≡ row_faults n q a b
  unfolding row_faults
  faults-cong a b =
      ap₂ (λ (x y : Bool). must (not x) PairWithoutEntry then must (not y) EntryWithoutPair)
      (any-cong n (λ c. p c && a c && not (b c)) (λ c. q c && a c && not (b c)) (λ c l. ap (λ (t : Bool). t && a c && not (b c)) (same c l)))
      (any-cong n (λ c. p c && b c && not (a c)) (λ c. q c && b c && not (a c)) (λ c l. ap (λ (t : Bool). t && b c && not (a c)) (same c l)))

  member-cong : (k : ℕ) → member_at n p k ≡ member_at n q k
  member-cong k = ap (λ (l : List ℕ). get_or l k 0) (members-ext p q 0 n (λ i a b. same i (omega arith)))

  binding-cong : (s entries : ℕ → ℕ → Bool) → binding_check n p s entries ≡ binding_check n q s entries
  unfolding binding_check
  binding-cong s entries =
      ap (λ (m : ℕ). checks_below m (λ k. row_faults n p (s (member_at n p k)) (entries (member_at n p k)))) (count-cong n p q same)
      ∙ checks-cong (count_below n q) (λ k. row_faults n p (s (member_at n p k)) (entries (member_at n p k))) (λ k. row_faults n q (s (member_at n q k)) (entries (member_at n q k)))
      (λ k. ap (λ (m : ℕ). row_faults n p (s m) (entries m)) (member-cong k) ∙ faults-cong (s (member_at n q k)) (entries (member_at n q k)))

-- a mask that was empty, with all nodes put in
module _ (n : ℕ) (none all : List ℕ) (e : all ≡ with_range n none 0 n) where
  pub all-mask : n ≤ side_limit → IsMask n all
  all-mask l = is-of n (λ i. in_mask none i || between 0 n i) all l e

  all_in : (i : ℕ) → i < n → in_mask all i ≡ true
  all_in i l =
      ap (λ (w : List ℕ). in_mask w i) e ∙ mask-holds n (λ i. in_mask none i || between 0 n i) i l
      ∙ ap₂ (λ (a b : Bool). in_mask none i || (a && b)) (le-leb 0 i (omega arith)) (lt-ltb i n l)
      ∙ or-true (in_mask none i)
    where
      or-true : (b : Bool) → (b || true) ≡ true
      or-true true = refl
      or-true false = refl

  pub all-pairs : (s entries : ℕ → ℕ → Bool) → binding_check n (in_mask all) s entries ≡ pairs_check n s entries
  all-pairs s entries = binding-cong n (in_mask all) (λ i. true) all_in s entries

-- ---- what acceptance gives

pub record Sides (topology : Check) (nrows ncols rows cols : ℕ) : Type 0 where
  pub topology_ok : topology ≡ Ok tt
  pub as_rows : nrows ≡ rows
  pub as_cols : nrows ≡ cols
  pub square : nrows ≡ ncols

pub accepted-sides : (topology : Check) (nrows ncols rows cols : ℕ) → sided_topology topology nrows ncols rows cols ≡ Ok tt → Sides topology nrows ncols rows cols
unfolding sided_topology sides_check
accepted-sides topology nrows ncols rows cols e =
    let a = both-passed _ _ e in
    let b = both-passed _ _ a.0 in
    let d = both-passed _ _ b.1 in
    let square : nrows ≡ ncols = eqb-true _ _ (passed _ _ a.1) in
    record { topology_ok = b.0; as_rows = eqb-true _ _ (passed _ _ d.0); as_cols = square ∙ eqb-true _ _ (passed _ _ d.1); square = square }

-- the arrays of what was accepted are those of what was lent
pub same-arrays : (t : AbtmDualTopology) (m : Csr32Matrix) (s : Side) (a : Matrix) → AcceptedSide t.rows s → AcceptedMatrix m a → (len : ℕ) (seeds hops rooms : List ℕ)
    → arrays_check s.nrows len seeds (pairs s) (held a) hops rooms ≡ check_arrays t m len seeds hops rooms
same-arrays t m s a e f len seeds hops rooms =
    let n = e.0 in
    let starts = e.2 in
    let words = e.3 in
    let masks = e.4 in
    let row_ptr = f.2 in
    let col_idx = f.3 in
    cc

pub record Arrays (n len : ℕ) (seeds : List ℕ) (s entries : ℕ → ℕ → Bool) (hops rooms : List ℕ) : Type 0 where
  pub mask : length_check n len seeds ≡ Ok tt
  pub pairs : pairs_check n s entries ≡ Ok tt
  pub one_each : length rooms ≡ length hops

pub accepted-arrays : (n len : ℕ) (seeds : List ℕ) (s entries : ℕ → ℕ → Bool) (hops rooms : List ℕ) → arrays_check n len seeds s entries hops rooms ≡ Ok tt → Arrays n len seeds s entries hops rooms
unfolding arrays_check
accepted-arrays n len seeds s entries hops rooms e =
    let a = both-passed _ _ e in
    let b = both-passed _ _ a.1 in
    record { mask = a.0; pairs = b.0; one_each = length-passed (length hops) (length rooms) b.1 }

pub accepted-run : (matrix sides arrays : Check) → run_check matrix sides arrays ≡ Ok tt → (matrix ≡ Ok tt) × (sides ≡ Ok tt) × (arrays ≡ Ok tt)
unfolding run_check
accepted-run matrix sides arrays e =
    let a = both-passed _ _ e in
    let b = both-passed _ _ a.1 in
    (a.0, b.0, b.1)

pub accepted-field-run : (matrix sides square arrays : Check) → field_run_check matrix sides square arrays ≡ Ok tt → (matrix ≡ Ok tt) × (sides ≡ Ok tt) × (square ≡ Ok tt) × (arrays ≡ Ok tt)
unfolding field_run_check
accepted-field-run matrix sides square arrays e =
    let a = both-passed _ _ e in
    let b = both-passed _ _ a.1 in
    let d = both-passed _ _ b.1 in
    (a.0, b.0, d.0, d.1)
