-- What the building of a topology and of a layout leaves meets the conditions of demand 3, so that the claim holds of it. Assumes nothing.
use mathlib.Core.Path.{◌≡◌, refl, sym, ap, ap₂, ◌∙◌, subst}
use Rattle.std.specs.Prelude.{Ok}
use Rattle.base.specs.Checks.{Check}
use mathlib.Core.Logic.{⊎_elim}
use mathlib.Core.Bool.{Bool, ◌&&◌}
use mathlib.Core.List.{List}
use Prim.Native.Nat.{ℕ, suc, ◌+◌, ◌^◌, ◌<◌}
use native.Mathlib.Omega.{arith}
use borrow.Author.Tests.{eq-eqb}
use lib.Ieee.{Float}
use lib.ListN.{length, get_or, take, get_or-eq_default}
use Rattle.base.specs.Checks.{leaves}
use Rattle.base.specs.Lists.{over, over_with_zeros}
use Rattle.base.proofs.Bools.{lt-or-le}
use Rattle.base.proofs.Checks.{group-pass, last-pass, both-passed}
use Rattle.base.proofs.Lists.{length-list_from, over-own, zeros-own}
use Rattle.csr32.specs.Matrix.{matrix_check, stored, IsMatrix}
use Rattle.csr32.proofs.Matrix.{accepted, stored_row, stored-col}
use Rattle.mask.specs.Mask.{length_check}
use Rattle.dof_layout.specs.Layout.{start_of, total_of, offsets_of, blocks_check}
use Rattle.dof_layout.specs.Answers.{new_check, new_offsets, square_check}
use Rattle.dof_layout.proofs.Layouts as layouts
use Rattle.side.specs.Side.{flip, side_ptr, side_words, side_masks, pair_count}
use Rattle.side.specs.Built.{built_ptr, built_words, built_masks}
use Rattle.side.specs.Check.{IsSide}
use Rattle.side.proofs.Sides.{side-holds, as_many}
use Rattle.dual_topology.specs.Answers.{build_check, counts_of}
use Rattle.dual_topology.specs.declared.TopologyCounts.{TopologyCounts}
use Rattle.dual_topology.proofs.Built.{built-topology, built-accepted}
use Rattle.growths.specs.Runs.{Growth, Ground, plain_ground, field_ground}
use Rattle.claims.specs.Demand.{CutSystem, Accepts, Kind, Claim, topology_of, pairs_of}
use Rattle.claims.proofs.Demand.{demand-3}

-- ---- topology

-- the matrix, the topology of its pairs, and the first seeds
abbrev pub built_of : ℕ → List ℕ → List ℕ → List Float → ℕ → List ℕ → CutSystem
built_of n ptr cols values len seeds =
    record {
      side = n;
      row_ptr = ptr;
      col_idx = cols;
      values = values;
      row_word_ptr = side_ptr n n (stored ptr cols);
      row_word_indices = side_words n n (stored ptr cols);
      row_masks = side_masks n n (stored ptr cols);
      row_pairs = pair_count n n (stored ptr cols);
      column_word_ptr = side_ptr n n (flip (stored ptr cols));
      column_word_indices = side_words n n (flip (stored ptr cols));
      column_masks = side_masks n n (flip (stored ptr cols));
      column_pairs = pair_count n n (stored ptr cols);
      len = len;
      seeds = seeds;
    }

-- the masks of a side have 64 bits
side-bits : (nrows ncols : ℕ) (ptr idx masks : List ℕ) → IsSide nrows ncols ptr idx masks → (w : ℕ) → get_or masks w 0 < 2 ^ 64
side-bits nrows ncols ptr idx masks s w =
    ⊎_elim (λ h. s.fits w h) (λ h. subst (λ (x : ℕ). x < 2 ^ 64) (sym (get_or-eq_default masks 0 h)) (omega arith)) (lt-or-le w (length masks))

module _ (n : ℕ) (ptr cols : List ℕ) (values : List Float) (len : ℕ) (seeds : List ℕ) where
  pub built : matrix_check n n ptr cols values ≡ Ok tt → length_check n len seeds ≡ Ok tt → ((w : ℕ) → get_or seeds w 0 < 2 ^ 64) → Accepts (built_of n ptr cols values len seeds)
  built matrix mask bits =
      let is : IsMatrix n n ptr cols = (accepted n n ptr cols values matrix).matrix in
      let t = built-topology n n ptr cols is in
      record {
        matrix = matrix;
        topology = built-accepted n n ptr cols is;
        same_pairs = λ r c h l. side-holds n n (stored ptr cols) (λ r c h t. stored-col n n ptr cols is r c t) r c h;
        seeds = mask;
        row_bits = side-bits n n _ _ _ t.rows;
        column_bits = side-bits n n _ _ _ t.columns;
        seed_bits = bits;
      }

  -- what from_csr32 leaves in the lists that it is lent, handed on with exactly its own pointers, words and masks
  module _ (rptr ridx rmasks cptr cidx cmasks starts order : List ℕ) where
    abbrev check : Check
    check = build_check n n ptr cols values rptr ridx rmasks cptr cidx cmasks starts order

    abbrev counts : TopologyCounts
    counts = counts_of n n (stored ptr cols)

    abbrev pub left_of : CutSystem
    left_of =
        record {
          side = n;
          row_ptr = ptr;
          col_idx = cols;
          values = values;
          row_word_ptr = take (n + 1) (built_ptr check n n (stored ptr cols) rptr);
          row_word_indices = take counts.row_words (built_words check n n (stored ptr cols) (length cols) ridx);
          row_masks = take counts.row_words (built_masks check n n (stored ptr cols) (length cols) rmasks);
          row_pairs = counts.pairs;
          column_word_ptr = take (n + 1) (built_ptr check n n (flip (stored ptr cols)) cptr);
          column_word_indices = take counts.column_words (built_words check n n (flip (stored ptr cols)) (length cols) cidx);
          column_masks = take counts.column_words (built_masks check n n (flip (stored ptr cols)) (length cols) cmasks);
          column_pairs = counts.pairs;
          len = len;
          seeds = seeds;
        }

    pub left-built : check ≡ Ok tt → left_of ≡ built_of n ptr cols values len seeds
    unfolding build_check
    left-built e =
        let is : IsMatrix n n ptr cols = (accepted n n ptr cols values (both-passed _ _ e).0).matrix in
        cc (
          pointers (stored ptr cols) rptr,
          own-part (side_words n n (stored ptr cols)) ridx counts.row_words refl,
          own-part (side_masks n n (stored ptr cols)) rmasks counts.row_words (as_many n n (stored ptr cols) (λ r c h t. stored-col n n ptr cols is r c t) n),
          pointers (flip (stored ptr cols)) cptr,
          own-part (side_words n n (flip (stored ptr cols))) cidx counts.column_words refl,
          own-part (side_masks n n (flip (stored ptr cols))) cmasks counts.column_words (as_many n n (flip (stored ptr cols)) (λ c r h t. stored_row n n ptr cols is r c t) n),
        )
      where
        pointers : (s : ℕ → ℕ → Bool) (out : List ℕ) → take (n + 1) (built_ptr check n n s out) ≡ side_ptr n n s
        pointers s out =
            ap (λ (t : Check). take (n + 1) (built_ptr t n n s out)) e
            ∙ over-own (side_ptr n n s) out (n + 1) (length-list_from (λ r. length (side_words r n s)) (n + 1) 0)

        own-part : (X out : List ℕ) (m : ℕ) → length X ≡ m → take m (leaves check (over_with_zeros X (length cols) out) out) ≡ X
        own-part X out m h =
            ap (λ (t : Check). take m (leaves t (over_with_zeros X (length cols) out) out)) e ∙ zeros-own X out m (length cols) h

-- ---- layout

module _ (kinds ids fields components : List ℕ) where
  -- its offsets are accepted with it, and 18 does not refuse it
  pub laid_out : (n : ℕ) → blocks_check kinds ids fields components ≡ Ok tt → total_of components ≡ n
      → square_check kinds ids fields components (offsets_of components) n n ≡ Ok tt
  unfolding square_check
  laid_out n e total =
      let both = eq-eqb n (total_of components) (sym total) in
      sym (group-pass _ _ _ (layouts.built-accepted kinds ids fields components e) (last-pass _ _ _ (ap₂ ◌&&◌ both both) refl))

  -- they are what `new` leaves in the list that it is lent, handed on with exactly its own
  pub left-offsets : (out : List ℕ) → new_check kinds ids fields components out ≡ Ok tt → take (length kinds + 1) (new_offsets kinds ids fields components out) ≡ offsets_of components
  unfolding new_check offsets_of
  left-offsets out e =
      let as_many : suc (length components) ≡ length kinds + 1 = omega (arith, (layouts.accepted-blocks kinds ids fields components (both-passed _ _ e).0).components_length) in
      ap (λ (t : Check). take (length kinds + 1) (leaves t (over (offsets_of components) out) out)) e
      ∙ over-own (offsets_of components) out (length kinds + 1) (length-list_from (start_of components) (suc (length components)) 0 ∙ as_many)

-- ---- the claim

module _ (n : ℕ) (ptr cols : List ℕ) (values : List Float) (len : ℕ) (seeds : List ℕ)
    (matrix : matrix_check n n ptr cols values ≡ Ok tt) (mask : length_check n len seeds ≡ Ok tt) (bits : (w : ℕ) → get_or seeds w 0 < 2 ^ 64) (cs : List Growth) where
  abbrev S : CutSystem
  S = built_of n ptr cols values len seeds

  pub demand-3-built : (k : Ground) → Kind S k → Claim S k cs
  demand-3-built k kind = demand-3 S (built n ptr cols values len seeds matrix mask bits) k kind cs

  pub demand-3-plain : Claim S (plain_ground (topology_of S) n (pairs_of S) len) cs
  demand-3-plain = demand-3-built _ Kind.plain

  pub demand-3-field : (kinds ids fields components : List ℕ) → blocks_check kinds ids fields components ≡ Ok tt → total_of components ≡ n
      → Claim S (field_ground (topology_of S) (square_check kinds ids fields components (offsets_of components) n n) components (pairs_of S) len) cs
  demand-3-field kinds ids fields components e total = demand-3-built _ (Kind.field kinds ids fields components (offsets_of components) (laid_out kinds ids fields components n e total))
