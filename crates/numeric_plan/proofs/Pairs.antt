-- The entries of the pattern's pairs: how many lists there are, which pair each belongs to, and how long they are together. Assumes nothing.
use mathlib.Core.Path.{◌≡◌, refl, sym, ap, ◌∙◌, subst}
use Rattle.std.specs.Prelude.{Ok}
use mathlib.Core.Bool.{Bool}
use mathlib.Core.List.{List, [], map}
use Prim.Native.Nat.{ℕ, ◌+◌, ◌-◌, ◌≤◌, ◌<◌}
use native.Mathlib.Omega.{arith}
use borrow.Author.Tests.{eq-eqb}
use lib.Dec.{T, eqb}
use lib.ListN.{length, get_or, length-append, length-map}
use Rattle.base.specs.Checks.{entry_limit}
use Rattle.base.specs.Lists.{join_below}
use Rattle.base.specs.Sets.{sum_below, sum_over, count_below}
use Rattle.base.proofs.Bools.{and_l, and_r, T_of}
use Rattle.base.proofs.Lists.{step_of, get_or-mapped}
use Rattle.base.proofs.Joins.{join-none, join-next, join-count, join-at, join-sum}
use Rattle.base.proofs.Sets.{sum-cong, count-members, members-at, members-find, over-same, members-over, count-over}
use Rattle.csr32.specs.Matrix.{stored, IsMatrix}
use Rattle.csr32.proofs.Matrix.{ptr_le, stored-entry}
use Rattle.pattern.specs.Pattern.{member_at, inside, columns_of, local_row, pattern_columns, pairs_inside}
use Rattle.pattern.proofs.Writing.{row-length}
use Rattle.sources.specs.Sources.{entries_in, entries_of}
use Rattle.binding.specs.Binding.{binding_check}
use Rattle.binding.specs.Steps.{sources_inside}
use Rattle.gather.specs.Plan.{entry_list, plan_sources}
use Rattle.numeric_plan.specs.Plan.{pair_entries}
use Rattle.numeric_plan.proofs.Binding.{bound, row-sources, sources-few}

-- as many columns in the pattern as pairs
pub pattern-pairs : (n : ℕ) (p : ℕ → Bool) (s : ℕ → ℕ → Bool) → length (pattern_columns n p s) ≡ pairs_inside n p s
unfolding pattern_columns pairs_inside
pattern-pairs n p s =
    join-count (count_below n p) (local_row n p s)
    ∙ sum-cong (count_below n p) (λ k. length (local_row n p s k)) (λ k. count_below n (inside p s (member_at n p k))) (λ k h. row-length n s p k)
    ∙ count-over n p (λ r. count_below n (inside p s r))

-- list j is the entries of the pair (row, column), which is inside
pub record PairOf (n : ℕ) (p : ℕ → Bool) (s : ℕ → ℕ → Bool) (ptr cols : List ℕ) (j : ℕ) : Type 0 where
  pub row : ℕ
  pub column : ℕ
  pub row_below : row < n
  pub row_in : T (p row)
  pub column_below : column < n
  pub column_in : T (p column)
  pub paired : T (s row column)
  pub entries : entry_list (pair_entries n p s ptr cols) j ≡ entries_of ptr cols row column

module _ (n : ℕ) (p : ℕ → Bool) (s : ℕ → ℕ → Bool) (ptr cols : List ℕ) where
  abbrev lists : List (List ℕ)
  lists = pair_entries n p s ptr cols

  -- the lists of local row k
  abbrev pub row_lists : ℕ → List (List ℕ)
  row_lists k = map (entries_of ptr cols (member_at n p k)) (columns_of n p s (member_at n p k))

  pub lists-are : pair_entries n p s ptr cols ≡ join_below (count_below n p) row_lists
  unfolding pair_entries
  lists-are = refl

  pub row_count : (k : ℕ) → length (row_lists k) ≡ count_below n (inside p s (member_at n p k))
  row_count k = length-map (columns_of n p s (member_at n p k)) (entries_of ptr cols (member_at n p k)) ∙ count-members n (inside p s (member_at n p k))

  -- as many lists as pairs
  pub lists_length : length (pair_entries n p s ptr cols) ≡ pairs_inside n p s
  unfolding pairs_inside
  lists_length =
      ap length lists-are ∙ join-count (count_below n p) row_lists
      ∙ sum-cong (count_below n p) (λ k. length (row_lists k)) (λ k. count_below n (inside p s (member_at n p k))) (λ k h. row_count k)
      ∙ count-over n p (λ r. count_below n (inside p s r))

  -- a list of row k
  pub list_at : (j k : ℕ) → k < count_below n p → length (join_below k row_lists) ≤ j → j < length (join_below (k + 1) row_lists)
      → (j - length (join_below k row_lists) < length (columns_of n p s (member_at n p k)))
      × (entry_list lists j ≡ entries_of ptr cols (member_at n p k) (get_or (columns_of n p s (member_at n p k)) (j - length (join_below k row_lists)) 0))
  list_at j k l a b =
      let i : ℕ = j - length (join_below k row_lists) in
      let step : length (join_below (k + 1) row_lists) ≡ length (join_below k row_lists) + length (row_lists k) = ap length (join-next k row_lists) ∙ length-append (join_below k row_lists) (row_lists k) in
      let long : length (row_lists k) ≡ length (columns_of n p s (member_at n p k)) = length-map (columns_of n p s (member_at n p k)) (entries_of ptr cols (member_at n p k)) in
      let few : j - length (join_below k row_lists) < length (columns_of n p s (member_at n p k)) = omega arith in (
        few,
        ap (λ (x : List (List ℕ)). get_or x j []) lists-are ∙ join-at (count_below n p) k row_lists j [] l a b
            ∙ get_or-mapped (entries_of ptr cols (member_at n p k)) (columns_of n p s (member_at n p k)) (j - length (join_below k row_lists)) 0 [] few,
      )

  pub pair_of : (j : ℕ) → j < length (pair_entries n p s ptr cols) → PairOf n p s ptr cols j
  pair_of j h = go (step_of (λ k. length (join_below k row_lists)) (count_below n p) j (ap length (join-none row_lists)) (omega (arith, ap length lists-are)))
    where
      go : (k : ℕ) × (k < count_below n p) × (length (join_below k row_lists) ≤ j) × (j < length (join_below (k + 1) row_lists)) → PairOf n p s ptr cols j
      go q =
          let r : ℕ = member_at n p q.0 in
          let i : ℕ = j - length (join_below q.0 row_lists) in
          let a = list_at j q.0 q.1 q.2 q.3 in
          let m = members-at p 0 n q.0 (omega (arith, q.1, count-members n p)) in
          let d = members-at (inside p s r) 0 n i a.0 in
          record {
            row = r;
            column = get_or (columns_of n p s r) i 0;
            row_below = omega (arith, m.1);
            row_in = m.2;
            column_below = omega (arith, d.1);
            column_in = and_l (p (get_or (columns_of n p s r) i 0)) (s r (get_or (columns_of n p s r) i 0)) d.2;
            paired = and_r (p (get_or (columns_of n p s r) i 0)) (s r (get_or (columns_of n p s r) i 0)) d.2;
            entries = a.1;
          }

  module _ (m : IsMatrix n n ptr cols) where
    -- each is a list of entries of the matrix
    pub list_inside : (j i : ℕ) → j < length (pair_entries n p s ptr cols) → i < length (entry_list (pair_entries n p s ptr cols) j) → get_or (entry_list (pair_entries n p s ptr cols) j) i 0 < length cols
    unfolding entries_in
    list_inside j i h l =
        let q = pair_of j h in
        let lo : ℕ = get_or ptr q.row 0 in
        let hi : ℕ = get_or ptr (q.row + 1) 0 in
        let a = members-at (λ e. eqb (get_or cols e 0) q.column) (get_or ptr q.row 0) (get_or ptr (q.row + 1) 0 - get_or ptr q.row 0) i (subst (λ (x : List ℕ). i < length x) q.entries l) in
        subst (λ (x : List ℕ). get_or x i 0 < length cols) (sym q.entries)
        (omega (arith, a.1, m.rises q.row q.row_below, ptr_le n n ptr cols m (q.row + 1) (omega (arith, q.row_below))))

    module _ (accepted : binding_check n p s (stored ptr cols) ≡ Ok tt) where
      -- no list is empty
      pub list-some : (j : ℕ) → j < length (pair_entries n p s ptr cols) → 0 < length (entry_list (pair_entries n p s ptr cols) j)
      unfolding entries_in
      list-some j h = some
        where
          q : PairOf n p s ptr cols j
          q = pair_of j h

          entry : (k : ℕ) × (get_or ptr q.row 0 ≤ k) × (k < get_or ptr (q.row + 1) 0) × (get_or cols k 0 ≡ q.column)
          entry = stored-entry n n ptr cols m q.row q.column (subst (λ (b : Bool). T b) (bound n p s (stored ptr cols) accepted q.row q.column q.row_below q.row_in q.column_below q.column_in) q.paired)

          some : 0 < length (entry_list (pair_entries n p s ptr cols) j)
          some =
              let f = members-find (λ e. eqb (get_or cols e 0) q.column) (get_or ptr q.row 0) (get_or ptr (q.row + 1) 0 - get_or ptr q.row 0) entry.0 entry.1 (omega (arith, entry.1, entry.2)) (T_of (eqb (get_or cols entry.0 0) q.column) (eq-eqb _ _ entry.3)) in
              subst (λ (x : List ℕ). 0 < length x) (sym q.entries) (omega (arith, f.1))

      -- as many sources as entries inside
      pub sources-length : length (plan_sources (pair_entries n p s ptr cols)) ≡ sources_inside n p ptr cols
      unfolding plan_sources
      sources-length =
          join-count (length lists) (entry_list lists)
          ∙ ap (λ (l : List (List ℕ)). sum_below (length l) (λ j. length (get_or l j []))) lists-are
          ∙ join-sum (count_below n p) row_lists length []
          ∙ sum-cong (count_below n p) (λ k. sum_below (length (row_lists k)) (λ i. length (get_or (row_lists k) i []))) (λ k. by_row (member_at n p k)) (λ k h. row k)
          ∙ count-over n p by_row
          ∙ over-same n p by_row (λ r. count_below (get_or ptr (r + 1) 0 - get_or ptr r 0) (λ j. p (get_or cols (get_or ptr r 0 + j) 0)))
          (λ r l t. row-sources n p ptr cols m s r l (λ c h u. bound n p s (stored ptr cols) accepted r c l t h u))
        where
          by_row : ℕ → ℕ
          by_row r = sum_over n (inside p s r) (λ c. length (entries_of ptr cols r c))

          row : (k : ℕ) → sum_below (length (row_lists k)) (λ i. length (get_or (row_lists k) i [])) ≡ by_row (member_at n p k)
          row k =
              ap (λ (x : ℕ). sum_below x (λ i. length (get_or (row_lists k) i []))) (length-map (columns_of n p s (member_at n p k)) (entries_of ptr cols (member_at n p k)))
              ∙ sum-cong (length (columns_of n p s (member_at n p k))) (λ i. length (get_or (row_lists k) i [])) (λ i. length (entries_of ptr cols (member_at n p k) (get_or (columns_of n p s (member_at n p k)) i 0)))
              (λ i h. ap length (get_or-mapped (entries_of ptr cols (member_at n p k)) (columns_of n p s (member_at n p k)) i 0 [] h))
              ∙ members-over n (inside p s (member_at n p k)) (λ c. length (entries_of ptr cols (member_at n p k) c))

      pub sources-within : length (plan_sources (pair_entries n p s ptr cols)) ≤ entry_limit
      sources-within = omega (arith, sources-length, sources-few n p ptr cols m, m.few_entries)
