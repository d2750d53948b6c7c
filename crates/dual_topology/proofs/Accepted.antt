-- What the check of a topology accepts: exactly two sides of one set of pairs. Assumes nothing.
use mathlib.Core.Path.{◌≡◌, refl, sym, ap, ◌∙◌, fun_ext}
use Rattle.std.specs.Prelude.{Result, Ok, Err}
use Rattle.std.specs.Result.{IsErrAnd}
use Rattle.std.proofs.lemmas.Result.{err_from_is_err_and}
use mathlib.Core.Logic.{◌⊎◌, inl, inr}
use mathlib.Core.Bool.{Bool, true, false, cond, ◌&&◌}
use mathlib.Core.List.{List}
use Prim.Native.Nat.{ℕ, ◌^◌, ◌≤◌, ◌<◌}
use native.Mathlib.Omega.{arith}
use borrow.Author.Tests.{eqb-true, eq-eqb}
use lib.Dec.{T, eqb}
use lib.ListN.{length, get_or}
use Rattle.base.specs.Checks.{◌then◌, side_limit, entry_limit}
use Rattle.base.proofs.Bools.{and_left, and_right, T_true, T_false, lt-or-le}
use Rattle.base.proofs.Checks.{both-passed}
use Rattle.side.specs.Side.{flip, side_words, side_masks, side_ptr, pair_count, side_holds}
use Rattle.side.specs.Check.{bits_in, IsSide}
use Rattle.side.specs.declared.Fault.{Fault}
use Rattle.side.proofs.Sides.{held-row, held-col, side-holds, side-is, side-count, as_many, pairs-flip, own-words, own-masks, own-ptr}
use Rattle.side.proofs.Accepted.{limits_passed, limits_pass, sound-only, sound-accepted, fault-not-sound, sound-side, side-sound, side-as}
use Rattle.agreement.specs.Agreement.{turned}
use Rattle.agreement.proofs.Turned.{turned_pair, pair-turned}
use Rattle.dual_topology.specs.Check.{first_fault, sides_agree, topology_fault, topology_check, IsTopology}

-- ---- the first of two faults

pub first-sound : (a b : Result Unit Fault) → first_fault a b ≡ Ok tt → (a ≡ Ok tt) × (b ≡ Ok tt)
unfolding first_fault
first-sound (Ok tt) b e = (refl, e)
first-sound (Err f) b e = absurd (fault-not-sound f e)

pub first_next : (a b : Result Unit Fault) → a ≡ Ok tt → first_fault a b ≡ b
unfolding first_fault
first_next a b e = ap (λ (r : Result Unit Fault). first_fault r b) e

pub first_handed : (a b r : Result Unit Fault) (f : Fault) → a ≡ Err f → IsErrAnd r (λ y. y ≡ f) → r ≡ first_fault a b
unfolding first_fault
first_handed a b r f e h = let p = err_from_is_err_and r h in p.1 ∙ ap Err p.2 ∙ sym (ap (λ (x : Result Unit Fault). first_fault x b) e)

-- ---- an accepted topology

pub record Accepts (nrows ncols : ℕ) (ptr idx masks : List ℕ) (pairs nrows2 ncols2 : ℕ) (ptr2 idx2 masks2 : List ℕ) (pairs2 : ℕ) : Type 0 where
  pub topology : IsTopology nrows ncols ptr idx masks ptr2 idx2 masks2
  pub as_rows : nrows2 ≡ ncols
  pub as_columns : ncols2 ≡ nrows
  pub as_pairs : pairs2 ≡ pairs
  pub counted : pairs ≡ bits_in masks 0 (length masks)

module _ (nrows ncols : ℕ) (ptr idx masks : List ℕ) (pairs nrows2 ncols2 : ℕ) (ptr2 idx2 masks2 : List ℕ) (pairs2 : ℕ) where
  abbrev one : Bool
  one = eqb nrows2 ncols

  abbrev two : Bool
  two = one && eqb ncols2 nrows

  abbrev three : Bool
  three = two && eqb pairs2 pairs

  abbrev pairs-turned : Bool
  pairs-turned = turned nrows ncols (side_holds ptr idx masks) (side_holds ptr2 idx2 masks2)

  -- the four parts of the agreement
  pub agreed : sides_agree nrows ncols ptr idx masks pairs nrows2 ncols2 ptr2 idx2 masks2 pairs2 ≡ true → (nrows2 ≡ ncols) × (ncols2 ≡ nrows) × (pairs2 ≡ pairs) × (pairs-turned ≡ true)
  unfolding sides_agree
  agreed e =
      let e3 : three ≡ true = and_left three pairs-turned e in
      let e2 : two ≡ true = and_left two (eqb pairs2 pairs) e3 in
      (eqb-true nrows2 ncols (and_left one (eqb ncols2 nrows) e2), eqb-true ncols2 nrows (and_right one (eqb ncols2 nrows) e2), eqb-true pairs2 pairs (and_right two (eqb pairs2 pairs) e3), and_right three pairs-turned e)

  pub agreeing : nrows2 ≡ ncols → ncols2 ≡ nrows → pairs2 ≡ pairs → pairs-turned ≡ true → sides_agree nrows ncols ptr idx masks pairs nrows2 ncols2 ptr2 idx2 masks2 pairs2 ≡ true
  unfolding sides_agree
  agreeing a b c t = rw (eq-eqb nrows2 ncols a, eq-eqb ncols2 nrows b, eq-eqb pairs2 pairs c, t) refl

  pub not-agreed : (sides_agree nrows ncols ptr idx masks pairs nrows2 ncols2 ptr2 idx2 masks2 pairs2 ≡ true → ⊥) → ◌≡◌ {A = Result Unit Fault} (Err Fault.Disagree) (cond (sides_agree nrows ncols ptr idx masks pairs nrows2 ncols2 ptr2 idx2 masks2 pairs2) (Ok tt) (Err Fault.Disagree))
  not-agreed f =
      sym (ap (λ (b : Bool). cond b (Ok tt) (Err Fault.Disagree)) (T_false (sides_agree nrows ncols ptr idx masks pairs nrows2 ncols2 ptr2 idx2 masks2 pairs2) (λ t. f (T_true (sides_agree nrows ncols ptr idx masks pairs nrows2 ncols2 ptr2 idx2 masks2 pairs2) t))))

  -- two sides without fault that agree
  pub agreed-topology : IsSide nrows ncols ptr idx masks → pairs ≡ bits_in masks 0 (length masks) → IsSide nrows2 ncols2 ptr2 idx2 masks2
      → ◌≡◌ {A = Result Unit Fault} (cond (sides_agree nrows ncols ptr idx masks pairs nrows2 ncols2 ptr2 idx2 masks2 pairs2) (Ok tt) (Err Fault.Disagree)) (Ok tt)
      → Accepts nrows ncols ptr idx masks pairs nrows2 ncols2 ptr2 idx2 masks2 pairs2
  agreed-topology r counted c e =
      let a = agreed (both (sides_agree nrows ncols ptr idx masks pairs nrows2 ncols2 ptr2 idx2 masks2 pairs2) e) in
      record {
        topology = record { rows = r; columns = side-as nrows2 ncols2 ncols nrows ptr2 idx2 masks2 a.0 a.1 c; flipped = a.3 };
        as_rows = a.0;
        as_columns = a.1;
        as_pairs = a.2;
        counted = counted;
      }
    where
      both : (b : Bool) → ◌≡◌ {A = Result Unit Fault} (cond b (Ok tt) (Err Fault.Disagree)) (Ok tt) → b ≡ true
      both true e = refl
      both false e = absurd (fault-not-sound Fault.Disagree e)

  pub accepted-topology : ((k : ℕ) → get_or masks k 0 < 2 ^ 64) → ((k : ℕ) → get_or masks2 k 0 < 2 ^ 64) → topology_check nrows ncols ptr idx masks pairs nrows2 ncols2 ptr2 idx2 masks2 pairs2 ≡ Ok tt
      → Accepts nrows ncols ptr idx masks pairs nrows2 ncols2 ptr2 idx2 masks2 pairs2
  unfolding topology_check topology_fault
  accepted-topology fits fits2 e =
      let e1 = both-passed _ _ e in
      let e2 = both-passed _ _ e1.1 in
      let f1 = first-sound _ _ (sound-only _ e2.1) in
      let f2 = first-sound _ _ f1.1 in
      let w = limits_passed nrows ncols idx masks pairs e1.0 in
      let w2 = limits_passed nrows2 ncols2 idx2 masks2 pairs2 e2.0 in
      let r = sound-side nrows ncols ptr idx masks pairs w.few_rows w.few_cols w.few_words w.few_pairs fits f1.0 in
      let c = sound-side nrows2 ncols2 ptr2 idx2 masks2 pairs2 w2.few_rows w2.few_cols w2.few_words w2.few_pairs fits2 f2.0 in
      agreed-topology r.0 r.1 c.0 f2.1

-- ---- a topology is a set of pairs

module _ (nrows ncols : ℕ) (ptr idx masks ptr2 idx2 masks2 : List ℕ) (m : IsTopology nrows ncols ptr idx masks ptr2 idx2 masks2) where
  abbrev rows : ℕ → ℕ → Bool
  rows = side_holds ptr idx masks

  abbrev columns : ℕ → ℕ → Bool
  columns = side_holds ptr2 idx2 masks2

  -- a column of the columns side is that column of the pairs
  pub column-is : (c : ℕ) → c < ncols → columns c ≡ flip rows c
  column-is c h = fun_ext (λ r. at r (lt-or-le r nrows))
    where
      at : (r : ℕ) → (r < nrows) ⊎ (nrows ≤ r) → columns c r ≡ rows r c
      at r (inl l) = turned_pair nrows ncols rows columns m.flipped r c l h
      at r (inr l) =
          T_false (columns c r) (λ t. absurd (omega (arith, held-col ncols nrows ptr2 idx2 masks2 m.columns c r h t)))
          ∙ sym (T_false (rows r c) (λ t. absurd (omega (arith, held-row nrows ptr idx masks m.rows.shape r c t))))

  -- outside both sides nothing is held
  pub columns-are : (c r : ℕ) → columns c r ≡ flip rows c r
  columns-are c r = at (lt-or-le c ncols)
    where
      at : (c < ncols) ⊎ (ncols ≤ c) → columns c r ≡ rows r c
      at (inl h) = ap (λ (f : ℕ → Bool). f r) (column-is c h)
      at (inr h) =
          T_false (columns c r) (λ t. absurd (omega (arith, held-row ncols ptr2 idx2 masks2 m.columns.shape c r t)))
          ∙ sym (T_false (rows r c) (λ t. absurd (omega (arith, held-col nrows ncols ptr idx masks m.rows r c (held-row nrows ptr idx masks m.rows.shape r c t) t))))

  pub flipped-are : columns ≡ flip rows
  flipped-are = fun_ext (λ c. fun_ext (λ r. columns-are c r))

  -- its six lists are those of the two sides of its own set of pairs
  pub record Own : Type 0 where
    pub row_ptr : ptr ≡ side_ptr nrows ncols rows
    pub row_words : idx ≡ side_words nrows ncols rows
    pub row_masks : masks ≡ side_masks nrows ncols rows
    pub column_ptr : ptr2 ≡ side_ptr ncols nrows (flip rows)
    pub column_words : idx2 ≡ side_words ncols nrows (flip rows)
    pub column_masks : masks2 ≡ side_masks ncols nrows (flip rows)

  pub own_topology : Own
  own_topology = record {
    row_ptr = own-ptr nrows ncols ptr idx masks m.rows;
    row_words = own-words nrows ncols ptr idx masks m.rows;
    row_masks = own-masks nrows ncols ptr idx masks m.rows;
    column_ptr = own-ptr ncols nrows ptr2 idx2 masks2 m.columns ∙ ap (side_ptr ncols nrows) flipped-are;
    column_words = own-words ncols nrows ptr2 idx2 masks2 m.columns ∙ ap (side_words ncols nrows) flipped-are;
    column_masks = own-masks ncols nrows ptr2 idx2 masks2 m.columns ∙ ap (side_masks ncols nrows) flipped-are;
  }

-- and the two sides of a set of pairs within the limits are an accepted topology
module _ (nrows ncols : ℕ) (s : ℕ → ℕ → Bool) (few_rows : nrows ≤ side_limit) (few_cols : ncols ≤ side_limit)
    (in_row : (r c : ℕ) → T (s r c) → r < nrows) (in-col : (r c : ℕ) → T (s r c) → c < ncols)
    (few_words : length (side_words nrows ncols s) ≤ entry_limit) (few-words2 : length (side_words ncols nrows (flip s)) ≤ entry_limit) (few_pairs : pair_count nrows ncols s ≤ entry_limit) where
  abbrev P : List ℕ
  P = side_ptr nrows ncols s

  abbrev W : List ℕ
  W = side_words nrows ncols s

  abbrev M : List ℕ
  M = side_masks nrows ncols s

  abbrev P2 : List ℕ
  P2 = side_ptr ncols nrows (flip s)

  abbrev W2 : List ℕ
  W2 = side_words ncols nrows (flip s)

  abbrev M2 : List ℕ
  M2 = side_masks ncols nrows (flip s)

  few-pairs2 : pair_count ncols nrows (flip s) ≤ entry_limit
  few-pairs2 = omega (arith, pairs-flip nrows ncols s)

  pub sides-are : IsTopology nrows ncols P W M P2 W2 M2
  sides-are = record {
    rows = side-is nrows ncols s (λ r c h t. in-col r c t) few_rows few_cols few_words few_pairs;
    columns = side-is ncols nrows (flip s) (λ c r h t. in_row r c t) few_cols few_rows few-words2 few-pairs2;
    flipped = pair-turned nrows ncols (side_holds P W M) (side_holds P2 W2 M2)
        (λ r c h l. side-holds ncols nrows (flip s) (λ c r h t. in_row r c t) c r l ∙ sym (side-holds nrows ncols s (λ r c h t. in-col r c t) r c h));
  }

  pub sides-accepted : topology_check nrows ncols P W M (pair_count nrows ncols s) ncols nrows P2 W2 M2 (pair_count nrows ncols s) ≡ Ok tt
  unfolding topology_check topology_fault first_fault ◌then◌
  sides-accepted =
      rw (
        limits_pass nrows ncols W M (pair_count nrows ncols s) (record {
          few_rows = few_rows;
          few_cols = few_cols;
          few_indices = few_words;
          few_words = omega (arith, as_many nrows ncols s (λ r c h t. in-col r c t) nrows);
          few_pairs = few_pairs;
        }),
        limits_pass ncols nrows W2 M2 (pair_count nrows ncols s) (record {
          few_rows = few_cols;
          few_cols = few_rows;
          few_indices = few-words2;
          few_words = omega (arith, as_many ncols nrows (flip s) (λ c r h t. in_row r c t) ncols);
          few_pairs = few_pairs;
        }),
        side-sound nrows ncols P W M (pair_count nrows ncols s) sides-are.rows (sym (side-count nrows ncols s (λ r c h t. in-col r c t))),
        side-sound ncols nrows P2 W2 M2 (pair_count nrows ncols s) sides-are.columns (sym (pairs-flip nrows ncols s) ∙ sym (side-count ncols nrows (flip s) (λ c r h t. in_row r c t))),
        agreeing nrows ncols P W M (pair_count nrows ncols s) ncols nrows P2 W2 M2 (pair_count nrows ncols s) refl refl refl sides-are.flipped,
      )
      (sound-accepted (Ok tt) refl)
