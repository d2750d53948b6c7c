-- The frontier's members one after the other: what their rows and columns reach, and the sums over them. Assumes nothing.
use mathlib.Core.Path.{◌≡◌, refl, sym, ap, ap₂, ◌∙◌}
use mathlib.Core.Bool.{Bool, true, false, cond, ◌&&◌, ◌||◌}
use mathlib.Core.List.{List}
use Prim.Native.Nat.{ℕ, ◌+◌, ◌≤◌, ◌<◌}
use native.Mathlib.Omega.{arith}
use lib.Dec.{T}
use lib.ListN.{length}
use Rattle.base.specs.Sets.{any_below, sum_below, sum_over, count_below, one_if}
use Rattle.base.proofs.Bools.{T_true, and_l}
use Rattle.base.proofs.Sets.{any-past, any_next, any_none, over-past, over-le, sum-zero, sum-suc, sum_mono, sum-add, count_past, count-le}
use Rattle.mask.specs.Mask.{in_mask, mask_words}
use Rattle.mask.proofs.Masks.{mask-holds, mask-cong}
use Rattle.mask.proofs.Nexts.{Next}
use Rattle.side.specs.Side.{flip, words_of_row, side_holds}
use Rattle.dual_topology.specs.Check.{IsTopology}
use Rattle.dual_topology.proofs.Accepted.{column-is, columns-are}
use Rattle.graph.specs.Network.{joined, touched}
use Rattle.growth.specs.Visits.{taken_of, visits_of, Small}
use Rattle.growth.specs.declared.Taken.{Taken}
use Rattle.growth.proofs.Visits.{counts, same-counts, words-within, bits-within, column-words-within, column-bits-within}

module _ (n : ℕ) (s : ℕ → ℕ → Bool) (frontier : List ℕ) where
  -- what the members below i reach
  unfoldable pub reach : ℕ → ℕ → Bool
  reach i j = any_below i (λ a. in_mask frontier a && joined s a j)

  none_between : (from to j : ℕ) → ((a : ℕ) → from ≤ a → a < to → T (in_mask frontier a) → ⊥)
      → (a : ℕ) → from ≤ a → a < to → T (in_mask frontier a && joined s a j) → ⊥
  none_between from to j none a l u t = none a l u (and_l (in_mask frontier a) (joined s a j) t)

  -- before the first member
  pub reach-none : (i : ℕ) → Next n frontier 0 i → mask_words n (λ j. false) ≡ mask_words n (reach i)
  unfolding reach
  reach-none i next = mask-cong n (λ j. false) (reach i) (λ j l. sym (any_none i (λ a. in_mask frontier a && joined s a j) (λ a u t. none_between 0 i j next.none a (omega arith) u t)))

  -- member i, and on to the next
  pub reach-turn : (i i' : ℕ) (columns : ℕ → Bool) (reached reached₁ reached₂ : List ℕ) → T (in_mask frontier i) → Next n frontier (i + 1) i'
      → ((j : ℕ) → columns j ≡ s j i)
      → reached ≡ mask_words n (reach i)
      → reached₁ ≡ mask_words n (λ j. in_mask reached j || s i j)
      → reached₂ ≡ mask_words n (λ j. in_mask reached₁ j || columns j)
      → reached₂ ≡ mask_words n (reach i')
  unfolding reach
  reach-turn i i' columns reached reached₁ reached₂ t next flipped e e₁ e₂ =
      e₂
      ∙ mask-cong n (λ j. in_mask reached₁ j || columns j) (reach i')
      (λ j l.
      ap₂ ◌||◌ (ap (λ (w : List ℕ). in_mask w j) e₁ ∙ mask-holds n (λ j. in_mask reached j || s i j) j l ∙ ap (λ (v : Bool). v || s i j) (ap (λ (w : List ℕ). in_mask w j) e ∙ mask-holds n (reach i) j l)) (flipped j)
      ∙ join (reach i j) (in_mask frontier i) (s i j) (s j i) (T_true (in_mask frontier i) t)
      ∙ sym (any_next i (λ a. in_mask frontier a && joined s a j))
      ∙ sym (any-past (i + 1) i' (λ a. in_mask frontier a && joined s a j) next.since (none_between (i + 1) i' j next.none)))
    where
      join : (x m y z : Bool) → m ≡ true → (x || y || z) ≡ (x || (m && (y || z)))
      join x m y z e = both x y z ∙ ap (λ (v : Bool). x || (v && (y || z))) (sym e)
        where
          both : (x y z : Bool) → (x || y || z) ≡ (x || (true && (y || z)))
          both true y z = refl
          both false true z = refl
          both false false z = refl

  -- after the last
  pub reach-all : (i : ℕ) → i ≡ n → mask_words n (reach i) ≡ mask_words n (touched n s (in_mask frontier))
  unfolding reach touched
  reach-all i e = ap (λ (k : ℕ). mask_words n (λ j. any_below k (λ a. in_mask frontier a && joined s a j))) e

  -- the sums
  pub sum_first : (i : ℕ) (f : ℕ → ℕ) → Next n frontier 0 i → 0 ≡ sum_over i (in_mask frontier) f
  sum_first i f next = sym (over-past 0 i (in_mask frontier) f (omega arith) next.none ∙ none f)
    where
      none : (f : ℕ → ℕ) → sum_over 0 (in_mask frontier) f ≡ 0
      none f = sum-zero (λ i. cond (in_mask frontier i) (f i) 0)

  pub sum-turn : (i i' : ℕ) (f : ℕ → ℕ) → T (in_mask frontier i) → Next n frontier (i + 1) i' → sum_over i (in_mask frontier) f + f i ≡ sum_over i' (in_mask frontier) f
  sum-turn i i' f t next =
      ap (λ (v : Bool). sum_over i (in_mask frontier) f + cond v (f i) 0) (sym (T_true (in_mask frontier i) t))
      ∙ sym (sum-suc i (λ a. cond (in_mask frontier a) (f a) 0))
      ∙ sym (over-past (i + 1) i' (in_mask frontier) f next.since next.none)

  pub count-first : (i : ℕ) → Next n frontier 0 i → 0 ≡ count_below i (in_mask frontier)
  count-first i next = sym (count_past 0 i (in_mask frontier) (omega arith) next.none ∙ sum-zero (λ i. one_if (in_mask frontier i)))

  pub count_turn : (i i' : ℕ) → T (in_mask frontier i) → Next n frontier (i + 1) i' → count_below i (in_mask frontier) + 1 ≡ count_below i' (in_mask frontier)
  count_turn i i' t next =
      ap (λ (v : Bool). count_below i (in_mask frontier) + one_if v) (sym (T_true (in_mask frontier i) t))
      ∙ sym (sum-suc i (λ a. one_if (in_mask frontier a)))
      ∙ sym (count_past (i + 1) i' (in_mask frontier) next.since next.none)

-- ---- the invariant of the walk: the members below i are visited

pub record Visiting (n : ℕ) (s : ℕ → ℕ → Bool) (frontier reached : List ℕ) (nodes row_words column_words bits i : ℕ) : Type 0 where
  pub within : i ≤ n
  pub member : i < n → T (in_mask frontier i)
  pub touching : reached ≡ mask_words n (reach n s frontier i)
  pub many : nodes ≡ count_below i (in_mask frontier)
  pub by_rows : row_words ≡ sum_over i (in_mask frontier) (λ a. length (words_of_row n (s a)))
  pub by_columns : column_words ≡ sum_over i (in_mask frontier) (λ a. length (words_of_row n (flip s a)))
  pub by_bits : bits ≡ sum_over i (in_mask frontier) (λ a. count_below n (s a) + count_below n (flip s a))

module _ (n : ℕ) (ptr idx masks ptr2 idx2 masks2 : List ℕ) (m : IsTopology n n ptr idx masks ptr2 idx2 masks2) (frontier : List ℕ) where
  abbrev rows : ℕ → ℕ → Bool
  rows = side_holds ptr idx masks

  abbrev columns : ℕ → ℕ → Bool
  columns = side_holds ptr2 idx2 masks2

  pub visit-first : (reached : List ℕ) (i : ℕ) → Next n frontier 0 i → reached ≡ mask_words n (λ j. false) → Visiting n rows frontier reached 0 0 0 0 i
  visit-first reached i next e =
      record {
        within = next.within;
        member = next.member;
        touching = e ∙ reach-none n rows frontier i next;
        many = count-first n rows frontier i next;
        by_rows = sum_first n rows frontier i (λ a. length (words_of_row n (rows a))) next;
        by_columns = sum_first n rows frontier i (λ a. length (words_of_row n (flip rows a))) next;
        by_bits = sum_first n rows frontier i (λ a. count_below n (rows a) + count_below n (flip rows a)) next;
      }

  pub visit-last : (reached : List ℕ) (nodes row_words column_words bits i : ℕ) → Visiting n rows frontier reached nodes row_words column_words bits i → n ≤ i
      → (counts nodes row_words column_words bits ≡ visits_of n rows (in_mask frontier)) × (reached ≡ mask_words n (touched n rows (in_mask frontier)))
  visit-last reached nodes row_words column_words bits i at l =
      let e : i ≡ n = omega (arith, at.within) in (
        same-counts nodes _ row_words _ column_words _ bits _
            (at.many ∙ ap (λ (k : ℕ). count_below k (in_mask frontier)) e)
            (at.by_rows ∙ ap (λ (k : ℕ). sum_over k (in_mask frontier) (λ a. length (words_of_row n (rows a)))) e)
            (at.by_columns ∙ ap (λ (k : ℕ). sum_over k (in_mask frontier) (λ a. length (words_of_row n (flip rows a)))) e)
            (at.by_bits ∙ ap (λ (k : ℕ). sum_over k (in_mask frontier) (λ a. count_below n (rows a) + count_below n (flip rows a))) e),
        at.touching ∙ reach-all n rows frontier i e,
      )

  module _ (reached : List ℕ) (nodes row_words column_words bits i : ℕ) (at : Visiting n rows frontier reached nodes row_words column_words bits i)
      (l : i < n) (row column : Taken) (er : row ≡ taken_of n (rows i)) (ec : column ≡ taken_of n (columns i)) where
    column-words-are : column.words ≡ length (words_of_row n (flip rows i))
    column-words-are = ap (λ (t : Taken). t.words) ec ∙ ap (λ (p : ℕ → Bool). length (words_of_row n p)) (column-is n n ptr idx masks ptr2 idx2 masks2 m i l)

    column-bits-are : column.bits ≡ count_below n (flip rows i)
    column-bits-are = ap (λ (t : Taken). t.bits) ec ∙ ap (λ (p : ℕ → Bool). count_below n p) (column-is n n ptr idx masks ptr2 idx2 masks2 m i l)

    -- a sum and the next number stay below the whole
    room : (f : ℕ → ℕ) → sum_over i (in_mask frontier) f + f i ≤ sum_below n f
    room f = omega (arith, over-le i (in_mask frontier) f, sum-suc i f, sum_mono (i + 1) n f (omega arith))

    pub turn-small : Small (counts nodes (row_words + row.words) (column_words + column.words) (bits + (row.bits + column.bits)))
    turn-small =
        let words : row.words ≡ length (words_of_row n (rows i)) = ap (λ (t : Taken). t.words) er in
        let set-bits : row.bits ≡ count_below n (rows i) = ap (λ (t : Taken). t.bits) er in
        record {
          few_nodes = omega (arith, at.many, count-le i (in_mask frontier), m.rows.few_cols);
          few_row_words = omega (arith, at.by_rows, words, room (λ a. length (words_of_row n (rows a))), words-within n ptr idx masks m.rows);
          few_column_words = omega (arith, at.by_columns, column-words-are, room (λ a. length (words_of_row n (flip rows a))), column-words-within n ptr idx masks ptr2 idx2 masks2 m);
          few_bits = omega (
            arith,
            at.by_bits,
            set-bits,
            column-bits-are,
            room (λ a. count_below n (rows a) + count_below n (flip rows a)),
            sum-add n (λ a. count_below n (rows a)) (λ a. count_below n (flip rows a)),
            bits-within n ptr idx masks m.rows,
            column-bits-within n ptr idx masks ptr2 idx2 masks2 m,
          );
        }

    pub visit-turn : (i' : ℕ) (reached₁ reached₂ : List ℕ) → Next n frontier (i + 1) i'
        → reached₁ ≡ mask_words n (λ j. in_mask reached j || rows i j) → reached₂ ≡ mask_words n (λ j. in_mask reached₁ j || columns i j)
        → Visiting n rows frontier reached₂ (nodes + 1) (row_words + row.words) (column_words + column.words) (bits + (row.bits + column.bits)) i'
    visit-turn i' reached₁ reached₂ next e₁ e₂ =
        record {
          within = next.within;
          member = next.member;
          touching = reach-turn n rows frontier i i' (columns i) reached reached₁ reached₂ (at.member l) next (λ j. columns-are n n ptr idx masks ptr2 idx2 masks2 m i j) at.touching e₁ e₂;
          many = ap (λ (x : ℕ). x + 1) at.many ∙ count_turn n rows frontier i i' (at.member l) next;
          by_rows = ap₂ ◌+◌ at.by_rows (ap (λ (t : Taken). t.words) er) ∙ sum-turn n rows frontier i i' (λ a. length (words_of_row n (rows a))) (at.member l) next;
          by_columns = ap₂ ◌+◌ at.by_columns column-words-are ∙ sum-turn n rows frontier i i' (λ a. length (words_of_row n (flip rows a))) (at.member l) next;
          by_bits = ap₂ ◌+◌ at.by_bits (ap₂ ◌+◌ (ap (λ (t : Taken). t.bits) er) column-bits-are) ∙ sum-turn n rows frontier i i' (λ a. count_below n (rows a) + count_below n (flip rows a)) (at.member l) next;
        }
