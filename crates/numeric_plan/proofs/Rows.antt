-- A plan written row after row: the pattern's pointers and columns, and the sources of its pairs. Assumes nothing.
use mathlib.Core.Path.{◌≡◌, refl, sym, ap, ap₂, ◌∙◌, subst}
use mathlib.Core.Bool.{Bool}
use mathlib.Core.List.{List, map, ◌++◌}
use Prim.Native.Nat.{ℕ, ◌+◌, ◌-◌, ◌≤◌, ◌<◌}
use native.Mathlib.Omega.{arith}
use lib.ListN.{length, set, length-set, length-append, length-map}
use Rattle.base.specs.Checks.{entry_limit}
use Rattle.base.specs.Lists.{join_below, written, over, placed}
use Rattle.base.specs.Sets.{count_below}
use Rattle.base.proofs.Joins.{join-none, join-next, join-length, join_up}
use Rattle.base.proofs.Lists.{put_next, put-put, put-end, placed-over, placed-length}
use Rattle.base.proofs.Sets.{count-members}
use Rattle.pattern.specs.Pattern.{member_at, number_of, inside, columns_of, local_row, pattern_ptr, pattern_columns, pairs_inside}
use Rattle.pattern.proofs.Writing.{ptr-length, ptr-at, row-length}
use Rattle.sources.specs.Steps.{ends_from, Put}
use Rattle.gather.specs.Plan.{entry_list, plan_sources, plan_ptr}
use Rattle.numeric_plan.specs.Plan.{pair_entries}
use Rattle.numeric_plan.specs.Steps.{row_entries, RowRoom}
use Rattle.numeric_plan.proofs.Pairs.{row_lists, row_count, lists_length, list_at, pattern-pairs}
use Rattle.numeric_plan.proofs.Sourcing.{Sourced, sourced-none, sourced-end, sourced-next, sourced-all}

module _ (n : ℕ) (p : ℕ → Bool) (s : ℕ → ℕ → Bool) (ptr cols : List ℕ) where
  abbrev lists : List (List ℕ)
  lists = pair_entries n p s ptr cols

  -- where local row k starts
  abbrev start : ℕ → ℕ
  start k = length (join_below k (local_row n p s))

  columns : (k : ℕ) → local_row n p s k ≡ map (number_of p) (columns_of n p s (member_at n p k))
  unfolding local_row
  columns k = refl

  start-next : (k : ℕ) → start (k + 1) ≡ start k + length (columns_of n p s (member_at n p k))
  start-next k =
      ap length (join-next k (local_row n p s)) ∙ length-append (join_below k (local_row n p s)) (local_row n p s k)
      ∙ ap (λ (x : ℕ). start k + x) (row-length n s p k ∙ sym (count-members n (inside p s (member_at n p k))))

  starts-same : (k : ℕ) → start k ≡ length (join_below k (row_lists n p s ptr cols))
  starts-same k = join-length k (local_row n p s) (row_lists n p s ptr cols) (λ r l. row-length n s p r ∙ sym (row_count n p s ptr cols r))

  all_columns : pattern_columns n p s ≡ join_below (count_below n p) (local_row n p s)
  unfolding pattern_columns
  all_columns = refl

  -- where the last ends
  all-pairs : start (count_below n p) ≡ pairs_inside n p s
  all-pairs = sym (ap length all_columns) ∙ pattern-pairs n p s

  start_up : (k : ℕ) → k ≤ count_below n p → start k ≤ pairs_inside n p s
  start_up k h = omega (arith, all-pairs, join_up (count_below n p) k (local_row n p s) h)

  -- the lists of row k
  same : (k : ℕ) → k < count_below n p → (j : ℕ) → j < length (columns_of n p s (member_at n p k)) → entry_list (pair_entries n p s ptr cols) (start k + j) ≡ row_entries n p s ptr cols (member_at n p k) j
  same k h j l =
      let a : length (join_below k (row_lists n p s ptr cols)) ≤ start k + j = omega (arith, starts-same k) in
      let b : start k + j < length (join_below (k + 1) (row_lists n p s ptr cols)) = omega (arith, starts-same (k + 1), start-next k) in
      let e : start k + j - length (join_below k (row_lists n p s ptr cols)) ≡ j = omega (arith, starts-same k) in
      (list_at n p s ptr cols (start k + j) k h a b).1 ∙ ap (row_entries n p s ptr cols (member_at n p k)) e

  sources-up : (k : ℕ) → k ≤ count_below n p → length (join_below (start k) (entry_list lists)) ≤ length (plan_sources lists)
  unfolding plan_sources
  sources-up k h = join_up (length lists) (start k) (entry_list lists) (omega (arith, start_up k h, lists_length n p s ptr cols))

  -- the first k rows are written
  pub record Rows (lptr₀ lcols₀ sptr₀ src₀ lptr lcols sptr src : List ℕ) (pair source k : ℕ) : Type 0 where
    pub within : k ≤ count_below n p
    pub pairs : pair ≡ start k
    pub lptr_done : lptr ≡ written (k + 1) (pattern_ptr n p s) lptr₀
    pub lcols_done : lcols ≡ over (join_below k (local_row n p s)) lcols₀
    pub lptr_long : length lptr ≡ length lptr₀
    pub lcols_long : length lcols ≡ length lcols₀
    pub sourced : Sourced (entry_list (pair_entries n p s ptr cols)) (length (pair_entries n p s ptr cols)) sptr₀ src₀ sptr src pair source

  module _ (lptr₀ lcols₀ sptr₀ src₀ : List ℕ) where
    pub rows_none : 0 < length lptr₀ → 0 < length sptr₀ → Rows (set lptr₀ 0 0) lcols₀ (set sptr₀ 0 0) src₀ (set lptr₀ 0 0) lcols₀ (set sptr₀ 0 0) src₀ 0 0 0
    rows_none l h =
        let X = pattern_ptr n p s in
        let one : 1 ≤ length X = omega (arith, ptr-length n s p) in
        let none : start 0 ≡ 0 = ap length (join-none (local_row n p s)) in
        let put : set lptr₀ 0 0 ≡ written 1 X lptr₀ = put_next X lptr₀ lptr₀ 0 0 0 one l refl (sym (ptr-at n s p 0 (omega arith) ∙ none)) in
        record {
          within = omega arith;
          pairs = sym none;
          lptr_done = put ∙ sym (put-put X lptr₀ 1 1 (omega arith) one l) ∙ ap (written 1 X) (sym put);
          lcols_done = sym (ap (λ (x : List ℕ). over x lcols₀) (join-none (local_row n p s)));
          lptr_long = refl;
          lcols_long = refl;
          sourced = sourced-none (entry_list lists) (length lists) sptr₀ src₀ h;
        }

    module _ (lptr lcols sptr src : List ℕ) (pair source k : ℕ) (w : Rows lptr₀ lcols₀ sptr₀ src₀ lptr lcols sptr src pair source k) where
      -- row r is member k's
      module _ (l : k < count_below n p) (r : ℕ) (m : r ≡ member_at n p k) (columns_room : pairs_inside n p s ≤ length lcols₀) (pointers_room : pairs_inside n p s < length sptr₀) (sources_room : length (plan_sources lists) ≤ length src₀) where
        abbrev C : List ℕ
        C = columns_of n p s r

        abbrev E : ℕ → List ℕ
        E = row_entries n p s ptr cols r

        here : (j : ℕ) → j < length C → entry_list lists (pair + j) ≡ E j
        here j h =
            ap (λ (x : ℕ). entry_list lists (x + j)) w.pairs ∙ same k l j (omega (arith, ap (λ (x : ℕ). length (columns_of n p s x)) m))
            ∙ ap (λ (x : ℕ). row_entries n p s ptr cols x j) (sym m)

        past : pair + length C ≡ start (k + 1)
        past = omega (arith, w.pairs, start-next k, ap (λ (x : ℕ). length (columns_of n p s x)) m)

        -- no more pairs than all
        pub rows_pairs : pair + length (columns_of n p s r) ≤ pairs_inside n p s
        rows_pairs = omega (arith, past, start_up (k + 1) (omega arith))

        end : source + length (join_below (length C) E) ≤ length (plan_sources lists)
        end = omega (arith, sourced-end (entry_list lists) E pair (length C) here (length lists) sptr₀ src₀ sptr src source w.sourced, ap (λ (x : ℕ). length (join_below x (entry_list lists))) past, sources-up (k + 1) (omega arith))

        -- the lists have room for row k
        pub rows_room : length (plan_sources lists) ≤ entry_limit → RowRoom (columns_of n p s r) (row_entries n p s ptr cols r) pair source (length (plan_sources lists)) lcols sptr src
        rows_room few =
            record {
              pairs = omega (arith, rows_pairs, w.lcols_long);
              pointers = omega (arith, rows_pairs, w.sourced.ptr_long);
              within = end;
              inside = omega (arith, w.sourced.src_long);
              small = few;
            }

        pub rows_next : count_below n p < length lptr₀ → (most : ℕ) → most ≡ length (plan_sources lists)
            → (lcols' sptr' src' : List ℕ) (pair' source' : ℕ) → pair' ≡ pair + length (columns_of n p s r) → source' ≡ source + length (join_below (length (columns_of n p s r)) (row_entries n p s ptr cols r))
            → lcols' ≡ placed pair (map (number_of p) (columns_of n p s r)) lcols → sptr' ≡ placed (pair + 1) (ends_from source (length (columns_of n p s r)) (row_entries n p s ptr cols r)) sptr → Put source most (join_below (length (columns_of n p s r)) (row_entries n p s ptr cols r)) src src'
            → Rows lptr₀ lcols₀ sptr₀ src₀ (set lptr (k + 1) pair') lcols' sptr' src' pair' source' (k + 1)
        unfolding plan_sources
        rows_next room most em lcols' sptr' src' pair' source' ep es gc gp gs =
            let long : length (map (number_of p) C) ≡ length C = length-map C (number_of p) in
            let grown : join_below (k + 1) (local_row n p s) ≡ join_below k (local_row n p s) ++ map (number_of p) C = join-next k (local_row n p s) ∙ ap (λ (x : List ℕ). join_below k (local_row n p s) ++ x) (columns k ∙ ap (λ (x : ℕ). map (number_of p) (columns_of n p s x)) (sym m)) in
            record {
              within = omega arith;
              pairs = ep ∙ past;
              lptr_done = put_next (pattern_ptr n p s) lptr₀ lptr (k + 1) pair' 0 (omega (arith, ptr-length n s p)) (omega arith) w.lptr_done (ep ∙ past ∙ sym (ptr-at n s p (k + 1) (omega arith)));
              lcols_done =
                  gc ∙ ap₂ (λ (x : ℕ) (y : List ℕ). placed x (map (number_of p) C) y) w.pairs w.lcols_done
                  ∙ placed-over (join_below k (local_row n p s)) (map (number_of p) C) lcols₀
                  ∙ ap (λ (x : List ℕ). over x lcols₀) (sym grown);
              lptr_long = length-set lptr (k + 1) pair' ∙ w.lptr_long;
              lcols_long = ap length gc ∙ placed-length pair (map (number_of p) C) lcols (omega (arith, long, rows_pairs, w.lcols_long)) ∙ w.lcols_long;
              sourced =
                  subst (λ (x : ℕ). Sourced (entry_list lists) (length lists) sptr₀ src₀ sptr' src' x source') (sym ep)
                  (sourced-next (entry_list lists) E pair (length C) here (length lists) sptr₀ src₀ sptr src source w.sourced (omega (arith, rows_pairs, lists_length n p s ptr cols)) (omega (arith, rows_pairs)) sptr' src' source' es gp (subst (λ (x : ℕ). Put source x (join_below (length C) E) src src') em gs));
            }

      pub rows_all : count_below n p ≤ k → length (plan_sources (pair_entries n p s ptr cols)) ≤ length src₀
          → (lptr ≡ over (pattern_ptr n p s) lptr₀) × (lcols ≡ over (pattern_columns n p s) lcols₀)
          × (sptr ≡ over (plan_ptr (pair_entries n p s ptr cols)) sptr₀) × (src ≡ over (plan_sources (pair_entries n p s ptr cols)) src₀)
      unfolding plan_sources plan_ptr
      rows_all h room =
          let e : k ≡ count_below n p = omega (arith, w.within) in
          let all : pair ≡ length lists = w.pairs ∙ ap start e ∙ all-pairs ∙ sym (lists_length n p s ptr cols) in
          let done = sourced-all (entry_list lists) (length lists) sptr₀ src₀ sptr src pair source w.sourced all room in (
            put-end (pattern_ptr n p s) lptr₀ lptr (k + 1) (ap (λ (x : ℕ). x + 1) e ∙ sym (ptr-length n s p)) w.lptr_done,
            w.lcols_done ∙ ap (λ (x : ℕ). over (join_below x (local_row n p s)) lcols₀) e ∙ ap (λ (x : List ℕ). over x lcols₀) (sym all_columns),
            done.0,
            done.1,
          )
