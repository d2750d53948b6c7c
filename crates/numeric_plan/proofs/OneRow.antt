-- One row: its columns are those of its entries, and where they were written from the topology's words, the entries found by them are the row's.
-- A row that is not marked has none. Assumes nothing.
use mathlib.Core.Path.{◌≡◌, sym, ap, ◌∙◌}
use mathlib.Core.Bool.{Bool, false, ◌&&◌}
use mathlib.Core.List.{List, [], ◌∷◌, map}
use Prim.Native.Nat.{ℕ, ◌+◌, ◌-◌, ◌≤◌, ◌<◌}
use native.Mathlib.Nat.{add-zero}
use native.Mathlib.Omega.{arith}
use borrow.Author.Tests.{ltb-false}
use lib.Dec.{T, ltb}
use lib.ListN.{length, get_or, length-map}
use lib.Seq.{slice}
use Rattle.base.specs.Checks.{side_limit}
use Rattle.base.specs.Lists.{is_in, list_from, join_below, over, placed}
use Rattle.base.specs.Sets.{count_below, members_below}
use Rattle.base.proofs.Bools.{T_true, and_l, and-under, not-T-of}
use Rattle.base.proofs.Joins.{join-none, join-cong, join-count}
use Rattle.base.proofs.Lists.{get_d_map, list_from-cong, over-at, over-room, placed-none, placed-length}
use Rattle.base.proofs.Placed.{get_or-placed}
use Rattle.base.proofs.Sets.{count-member, count-members, get_or-count, members-at, members-count, members-ext, members-over, members-rising}
use Rattle.mask.specs.Mask.{in_mask, mask_words, IsMask}
use Rattle.mask.proofs.Masks.{mask-holds, is-of}
use Rattle.csr32.specs.Matrix.{stored, IsMatrix}
use Rattle.pattern.specs.Pattern.{number_of, inside, columns_of}
use Rattle.pattern.specs.Steps.{ranks_of}
use Rattle.pattern.proofs.Writing.{ranks_long, ranks_at}
use Rattle.binding.specs.Steps.{has_pair}
use Rattle.sources.specs.Sources.{entries_in, entries_of}
use Rattle.sources.specs.Steps.{column_at, RisingColumns, pair_at, columns_in, inside_in, entries_at, ends_from, Put}
use Rattle.sources.proofs.Inside.{put-none, put_same}
use Rattle.numeric_plan.specs.Steps.{row_entries, Tables, Marked}
use Rattle.numeric_plan.proofs.Binding.{row-sources}

-- the region's tables, once they are written
pub tables : (n : ℕ) (region ranks₀ ranks nodes₀ nodes : List ℕ) → IsMask n region → ranks ≡ over (ranks_of n (in_mask region)) ranks₀ → nodes ≡ over (members_below n (in_mask region)) nodes₀
    → Tables n region ranks nodes
tables n region ranks₀ ranks nodes₀ nodes mask filled listed =
    record {
      mask = mask;
      ranks_at = ranks_at n (in_mask region) ranks₀ ranks filled;
      ranks_long = ranks_long n (in_mask region) ranks₀ ranks filled;
      nodes_at = λ k h. ap (λ (l : List ℕ). get_or l k 0) listed ∙ over-at (members_below n (in_mask region)) nodes₀ k 0 (omega (arith, count-members n (in_mask region)));
      nodes_long = omega (arith, ap length listed, over-room (members_below n (in_mask region)) nodes₀, count-members n (in_mask region));
    }

-- the region marks itself
pub marked-itself : (n : ℕ) (region : List ℕ) (s : ℕ → ℕ → Bool) → IsMask n region → Marked n region region s
marked-itself n region s mask = record { mask = mask; none = λ r h t f. absurd (not-T-of (in_mask region r) f t) }

-- and so does the mask of its rows that have a pair
pub marked_by : (n : ℕ) (region paired : List ℕ) (s : ℕ → ℕ → Bool) → n ≤ side_limit → paired ≡ mask_words n (has_pair n (in_mask region) s) → Marked n region paired s
marked_by n region paired s h e =
    record {
      mask = is-of n (has_pair n (in_mask region) s) paired h e;
      none = λ r l t f. let z : ltb 0 (pairs r) ≡ false = sym (ap (λ (b : Bool). b && ltb 0 (pairs r)) (T_true (in_mask region r) t)) ∙ sym (mask-holds n (has_pair n (in_mask region) s) r l) ∙ ap (λ (x : List ℕ). in_mask x r) (sym e) ∙ f in omega (arith, ltb-false 0 (pairs r) z);
    }
  where
    pairs : ℕ → ℕ
    pairs r = count_below n (inside (in_mask region) s r)

module _ (region : List ℕ) (first at most : ℕ) (lcols sptr src : List ℕ) where
  -- the lists as they are hold what a row with these columns and entries writes
  abbrev Left : List ℕ → (ℕ → List ℕ) → Type 0
  Left C E =
      ((first ≡ first + length C) × (at ≡ at + length (join_below (length C) E)))
      × ((lcols ≡ placed first (map (number_of (in_mask region)) C) lcols) × ((sptr ≡ placed (first + 1) (ends_from at (length C) E) sptr) × Put at most (join_below (length C) E) src src))

  nothing : (C : List ℕ) (E : ℕ → List ℕ) → length C ≡ 0 → Left C E
  unfolding list_from
  nothing [] E z = (
    (sym (add-zero first), sym (ap (λ (x : List ℕ). at + length x) (join-none E) ∙ add-zero at)),
    (sym (placed-none first lcols), (sym (placed-none (first + 1) sptr), put_same at most [] (join_below 0 E) src src (sym (join-none E)) (put-none at most src))),
  )
  nothing (x ∷ C) E z = absurd (omega arith)

  -- a member's row that is not marked
  pub row-empty : (n : ℕ) (paired : List ℕ) (s : ℕ → ℕ → Bool) (ptr cols : List ℕ) (r : ℕ) → Marked n region paired s → r < n → T (in_mask region r) → in_mask paired r ≡ false
      → Left (columns_of n (in_mask region) s r) (row_entries n (in_mask region) s ptr cols r)
  row-empty n paired s ptr cols r marked low member unmarked =
      nothing (columns_of n (in_mask region) s r) (row_entries n (in_mask region) s ptr cols r) (count-members n (inside (in_mask region) s r) ∙ marked.none r low member unmarked)

-- where the pairs inside are the entries, the row's columns are its entries'
pub columns-stored : (n : ℕ) (p : ℕ → Bool) (s : ℕ → ℕ → Bool) (ptr cols : List ℕ) (r : ℕ) → ((c : ℕ) → c < n → T (p c) → s r c ≡ stored ptr cols r c)
    → columns_in n p cols (get_or ptr r 0) (get_or ptr (r + 1) 0) ≡ columns_of n p s r
unfolding stored
columns-stored n p s ptr cols r same =
    members-ext (λ c. p c && is_in c (slice (get_or ptr r 0) (get_or ptr (r + 1) 0) cols)) (inside p s r) 0 n
    (λ c a b. and-under (p c) (is_in c (slice (get_or ptr r 0) (get_or ptr (r + 1) 0) cols)) (s r c) (λ t. sym (same c (omega arith) t)))

-- as many entries inside as its pairs have
pub inside-length : (n : ℕ) (p : ℕ → Bool) (s : ℕ → ℕ → Bool) (ptr cols : List ℕ) (r : ℕ) → IsMatrix n n ptr cols → r < n → ((c : ℕ) → c < n → T (p c) → s r c ≡ stored ptr cols r c)
    → length (inside_in p cols (get_or ptr r 0) (get_or ptr (r + 1) 0)) ≡ length (join_below (length (columns_of n p s r)) (row_entries n p s ptr cols r))
inside-length n p s ptr cols r m h same =
    members-count (λ e. p (get_or cols e 0)) (get_or ptr r 0) (get_or ptr (r + 1) 0 - get_or ptr r 0)
    ∙ sym (join-count (length (columns_of n p s r)) (row_entries n p s ptr cols r) ∙ members-over n (inside p s r) (λ c. length (entries_of ptr cols r c)) ∙ row-sources n p ptr cols m s r h same)

-- the entries inside, where they were put
module _ (p : ℕ → Bool) (cols : List ℕ) (start end at most next : ℕ) (before after : List ℕ) (up : start ≤ end) (within : end ≤ length cols)
    (put : Put at most (inside_in p cols start end) before after) (all : next ≡ at + length (inside_in p cols start end)) where
  abbrev chosen : List ℕ
  chosen = inside_in p cols start end

  pub chosen-low : (i : ℕ) → at ≤ i → i < next → get_or after i 0 < length cols
  chosen-low i a b =
      let s : at + (i - at) ≡ i = omega arith in
      omega (arith, ap (λ (k : ℕ). get_or after k 0) s, put.here (i - at) (omega arith), (members-at (λ e. p (get_or cols e 0)) start (end - start) (i - at) (omega arith)).1)

  pub chosen-rise : ((i : ℕ) → at ≤ i → i + 1 < next → get_or cols (get_or after i 0) 0 ≤ get_or cols (get_or after (i + 1) 0) 0)
      → (i : ℕ) → i + 1 < length (inside_in p cols start end) → get_or cols (get_or (inside_in p cols start end) i 0) 0 ≤ get_or cols (get_or (inside_in p cols start end) (i + 1) 0) 0
  chosen-rise rise i h =
      let s : at + i + 1 ≡ at + (i + 1) = omega arith in
      omega (
        arith,
        rise (at + i) (omega arith) (omega arith),
        ap (λ (e : ℕ). get_or cols e 0) (put.here i (omega arith)),
        ap (λ (k : ℕ). get_or cols (get_or after k 0) 0) s,
        ap (λ (e : ℕ). get_or cols e 0) (put.here (i + 1) h),
      )

module _ (n : ℕ) (region ranks nodes : List ℕ) (num : Tables n region ranks nodes) (s : ℕ → ℕ → Bool) (r first : ℕ) (before lcols : List ℕ)
    (fits : first + length (columns_of n (in_mask region) s r) ≤ length before) (put : lcols ≡ placed first (map (number_of (in_mask region)) (columns_of n (in_mask region) s r)) before) where
  abbrev p : ℕ → Bool
  p = in_mask region

  abbrev C : List ℕ
  C = columns_of n (in_mask region) s r

  column_in : (j : ℕ) → j < length C → (get_or C j 0 < n) × T (p (get_or C j 0))
  column_in j h =
      let a = members-at (inside p s r) 0 n j h in
      (omega (arith, a.1), and_l (p (get_or C j 0)) (s r (get_or C j 0)) a.2)

  number-at : (j : ℕ) → j < length C → get_or lcols (first + j) 0 ≡ number_of p (get_or C j 0)
  number-at j h =
      ap (λ (l : List ℕ). get_or l (first + j) 0) put
      ∙ get_or-placed first (map (number_of p) C) before j 0 (omega arith) (omega (arith, length-map C (number_of p)))
      ∙ get_d_map (number_of p) C j h

  column-at : (j : ℕ) → j < length C → column_at nodes lcols (first + j) ≡ get_or C j 0
  column-at j h =
      let c = column_in j h in
      ap (λ (i : ℕ). get_or nodes i 0) (number-at j h) ∙ num.nodes_at (number_of p (get_or C j 0)) (count-member n p (get_or C j 0) c.0 c.1) ∙ get_or-count n p (get_or C j 0) c.0 c.1

  module _ (last : ℕ) (all : last ≡ first + length (columns_of n (in_mask region) s r)) where
    pub row-local : RisingColumns nodes lcols first last
    row-local =
        record {
          order = omega arith;
          inside = omega (arith, ap length put, placed-length first (map (number_of p) C) before (omega (arith, length-map C (number_of p))));
          numbered = λ q a b.
              let c = column_in (q - first) (omega arith) in
              let e : first + (q - first) ≡ q = omega arith in
              omega (arith, ap (λ (i : ℕ). get_or lcols i 0) e, number-at (q - first) (omega arith), count-member n p (get_or C (q - first) 0) c.0 c.1, num.nodes_long);
          rising = λ i j a u b.
              let ei : first + (i - first) ≡ i = omega arith in
              let ej : first + (j - first) ≡ j = omega arith in
              omega (
                arith,
                ap (column_at nodes lcols) ei,
                ap (column_at nodes lcols) ej,
                column-at (i - first) (omega arith),
                column-at (j - first) (omega arith),
                members-rising (inside p s r) 0 n (i - first) (j - first) (omega arith) (omega arith),
              );
        }

    module _ (cols : List ℕ) (start end : ℕ) where
      row_same : (j : ℕ) → j < length C → pair_at cols start end nodes lcols first j ≡ entries_at cols start end C j
      row_same j h = ap (entries_in cols start end) (column-at j h)

      pub row-joined : join_below (last - first) (pair_at cols start end nodes lcols first) ≡ join_below (length (columns_of n (in_mask region) s r)) (entries_at cols start end (columns_of n (in_mask region) s r))
      row-joined =
          let m : last - first ≡ length C = omega arith in
          ap (λ (k : ℕ). join_below k (pair_at cols start end nodes lcols first)) m ∙ join-cong (length C) (pair_at cols start end nodes lcols first) (entries_at cols start end C) row_same

      pub row-ended : (at : ℕ) → ends_from at (last - first) (pair_at cols start end nodes lcols first) ≡ ends_from at (length (columns_of n (in_mask region) s r)) (entries_at cols start end (columns_of n (in_mask region) s r))
      row-ended at =
          let m : last - first ≡ length C = omega arith in
          ap (λ (k : ℕ). ends_from at k (pair_at cols start end nodes lcols first)) m
          ∙ list_from-cong (λ j. at + length (join_below (j + 1) (pair_at cols start end nodes lcols first))) (λ j. at + length (join_below (j + 1) (entries_at cols start end C))) (length C) 0
          (λ j a b. ap (λ (x : List ℕ). at + length x) (join-cong (j + 1) (pair_at cols start end nodes lcols first) (entries_at cols start end C) (λ i h. row_same i (omega arith))))
