-- What a growth counts stays small. Assumes nothing.
use mathlib.Core.Path.{◌≡◌, sym, ap, ◌∙◌, subst}
use mathlib.Core.Bool.{Bool}
use mathlib.Core.List.{List}
use Prim.Native.Nat.{ℕ, ◌+◌, ◌≤◌}
use native.Mathlib.Omega.{arith}
use lib.ListN.{length}
use Rattle.base.specs.Checks.{entry_limit}
use Rattle.base.specs.Sets.{sum_below, count_below}
use Rattle.base.proofs.Joins.{join-count}
use Rattle.base.proofs.Sets.{over-le, sum-add, count-le}
use Rattle.side.specs.Side.{flip, words_of_row, side_holds}
use Rattle.side.specs.Check.{IsSide}
use Rattle.side.proofs.Sides.{own-words, own-pairs}
use Rattle.dual_topology.specs.Check.{IsTopology}
use Rattle.dual_topology.proofs.Accepted.{flipped-are}
use Rattle.growth.specs.Visits.{visits_of, Small}
use Rattle.growth.specs.declared.Visited.{Visited}

abbrev pub counts : ℕ → ℕ → ℕ → ℕ → Visited
counts a b c d = record { nodes = a; row_words = b; column_words = c; candidate_bits = d }

pub same-counts : (a a' b b' c c' d d' : ℕ) → a ≡ a' → b ≡ b' → c ≡ c' → d ≡ d' → counts a b c d ≡ counts a' b' c' d'
same-counts a a' b b' c c' d d' p q r s =
    ap (λ (x : ℕ). counts x b c d) p ∙ ap (λ (x : ℕ). counts a' x c d) q ∙ ap (λ (x : ℕ). counts a' b' x d) r ∙ ap (λ (x : ℕ). counts a' b' c' x) s

-- ---- one side

module _ (n : ℕ) (ptr idx masks : List ℕ) (m : IsSide n n ptr idx masks) where
  abbrev s : ℕ → ℕ → Bool
  s = side_holds ptr idx masks

  -- its rows' words are the stored ones
  words-stored : sum_below n (λ i. length (words_of_row n (s i))) ≡ length masks
  words-stored = sym (join-count n (λ i. words_of_row n (s i))) ∙ ap length (sym (own-words n n ptr idx masks m)) ∙ m.shape.as_many

  pub words-within : sum_below n (λ i. length (words_of_row n (s i))) ≤ entry_limit
  words-within = omega (arith, words-stored, m.shape.few_words)

  pub bits-within : sum_below n (λ i. count_below n (s i)) ≤ entry_limit
  bits-within = omega (arith, own-pairs n n ptr idx masks m, m.few_pairs)

-- ---- a topology

module _ (n : ℕ) (ptr idx masks ptr2 idx2 masks2 : List ℕ) (m : IsTopology n n ptr idx masks ptr2 idx2 masks2) where
  abbrev rows : ℕ → ℕ → Bool
  rows = side_holds ptr idx masks

  turned : side_holds ptr2 idx2 masks2 ≡ flip rows
  turned = flipped-are n n ptr idx masks ptr2 idx2 masks2 m

  pub column-words-within : sum_below n (λ i. length (words_of_row n (flip rows i))) ≤ entry_limit
  column-words-within = subst (λ (t : ℕ → ℕ → Bool). sum_below n (λ i. length (words_of_row n (t i))) ≤ entry_limit) turned (words-within n ptr2 idx2 masks2 m.columns)

  pub column-bits-within : sum_below n (λ i. count_below n (flip rows i)) ≤ entry_limit
  column-bits-within = subst (λ (t : ℕ → ℕ → Bool). sum_below n (λ i. count_below n (t i)) ≤ entry_limit) turned (bits-within n ptr2 idx2 masks2 m.columns)

  pub visits-small : (p : ℕ → Bool) → Small (visits_of n rows p)
  visits-small p =
      let w : ℕ → ℕ = λ i. length (words_of_row n (rows i)) in
      let v : ℕ → ℕ = λ i. length (words_of_row n (flip rows i)) in
      let a : ℕ → ℕ = λ i. count_below n (rows i) in
      let b : ℕ → ℕ = λ i. count_below n (flip rows i) in
      record {
        few_nodes = omega (arith, count-le n p, m.rows.few_cols);
        few_row_words = omega (arith, over-le n p w, words-within n ptr idx masks m.rows);
        few_column_words = omega (arith, over-le n p v, column-words-within);
        few_bits = omega (arith, over-le n p (λ i. a i + b i), sum-add n a b, bits-within n ptr idx masks m.rows, column-bits-within);
      }

  -- no more row words than are stored
  pub row-words-stored : (p : ℕ → Bool) → (visits_of n rows p).row_words ≤ length masks
  row-words-stored p = omega (arith, over-le n p (λ i. length (words_of_row n (rows i))), words-stored n ptr idx masks m.rows)
