-- The pattern written member by member. Assumes nothing.
use mathlib.Core.Path.{◌≡◌, refl, sym, ap, ap₂, ◌∙◌}
use mathlib.Core.Bool.{Bool, cond}
use mathlib.Core.List.{List, map, ◌++◌}
use Prim.Native.Nat.{ℕ, ◌+◌, ◌*◌, ◌≤◌, ◌<◌}
use native.Mathlib.Nat.{zero-add}
use native.Mathlib.Omega.{arith}
use lib.Dec.{T}
use lib.ListN.{length, get_or, set, drop, length-map, length-append, get_or-append}
use Rattle.base.specs.Lists.{join_below, written, over, placed}
use Rattle.base.specs.Sets.{sum_over, count_below, members_below}
use Rattle.base.proofs.Joins.{join-none, join-next}
use Rattle.base.proofs.Lists.{put_next, put-end, placed-over, length-list_from, get_or-list_from}
use Rattle.base.proofs.Sets.{count-members, count-member, get_or-count, sum_mono}
use Rattle.mask.specs.Mask.{in_mask, words_needed}
use Rattle.mask.proofs.Nexts.{Next}
use Rattle.pattern.specs.Pattern.{member_at, number_of, inside, columns_of, local_row, pattern_ptr, pattern_columns, pairs_inside}
use Rattle.pattern.specs.Steps.{ranks_of}
use Rattle.pattern.proofs.Walks.{sum_first, sum_one, sum-turn, count-first, count_turn}

-- the table of ranks as it stands after it was filled
module _ (n : ℕ) (p : ℕ → Bool) (lent ranks : List ℕ) (e : ranks ≡ over (ranks_of n p) lent) where
  many : length (ranks_of n p) ≡ words_needed n
  many = length-list_from (λ w. count_below (64 * w) p) (words_needed n) 0

  pub ranks_long : words_needed n ≤ length ranks
  ranks_long = omega (arith, ap length e, length-append (ranks_of n p) (drop (length (ranks_of n p)) lent), many)

  pub ranks_at : (w : ℕ) → w < words_needed n → get_or ranks w 0 ≡ count_below (64 * w) p
  ranks_at w h =
      ap (λ (l : List ℕ). get_or l w 0) e ∙ get_or-append (ranks_of n p) (drop (length (ranks_of n p)) lent) 0 w (omega (arith, many))
      ∙ get_or-list_from (λ w. count_below (64 * w) p) (words_needed n) 0 w 0 h ∙ ap (λ (x : ℕ). count_below (64 * x) p) (zero-add w)

module _ (n : ℕ) (s : ℕ → ℕ → Bool) (p : ℕ → Bool) where
  -- row k is that of the member that k members come before
  pub row_at : (r : ℕ) → r < n → T (p r) → local_row n p s (count_below r p) ≡ map (number_of p) (columns_of n p s r)
  unfolding local_row
  row_at r l t = ap (λ (x : ℕ). map (number_of p) (columns_of n p s x)) (get_or-count n p r l t)

  pub ptr-length : length (pattern_ptr n p s) ≡ count_below n p + 1
  unfolding pattern_ptr
  ptr-length = length-list_from (λ k. length (join_below k (local_row n p s))) (count_below n p + 1) 0

  pub ptr-at : (k : ℕ) → k ≤ count_below n p → get_or (pattern_ptr n p s) k 0 ≡ length (join_below k (local_row n p s))
  unfolding pattern_ptr
  ptr-at k h = get_or-list_from (λ k. length (join_below k (local_row n p s))) (count_below n p + 1) 0 k 0 (omega arith) ∙ ap (λ (x : ℕ). length (join_below x (local_row n p s))) (zero-add k)

  pub row-length : (k : ℕ) → length (local_row n p s k) ≡ count_below n (inside p s (member_at n p k))
  unfolding local_row
  row-length k = length-map (columns_of n p s (member_at n p k)) (number_of p) ∙ count-members n (inside p s (member_at n p k))

-- the members below r are written
pub record Writing (n : ℕ) (s : ℕ → ℕ → Bool) (region nodes₀ ptr₀ cols₀ nodes ptr cols : List ℕ) (next k r : ℕ) : Type 0 where
  pub within : r ≤ n
  pub member : r < n → T (in_mask region r)
  pub place : k ≡ count_below r (in_mask region)
  pub here : next ≡ sum_over r (in_mask region) (λ i. count_below n (inside (in_mask region) s i))
  pub long : next ≡ length (join_below k (local_row n (in_mask region) s))
  -- each list has a place for what comes next
  pub more : r < n → k < count_below n (in_mask region)
  pub room : r < n → next + count_below n (inside (in_mask region) s r) ≤ pairs_inside n (in_mask region) s
  pub nodes_done : nodes ≡ written k (members_below n (in_mask region)) nodes₀
  pub ptr_done : ptr ≡ written (k + 1) (pattern_ptr n (in_mask region) s) ptr₀
  pub cols_done : cols ≡ over (join_below k (local_row n (in_mask region) s)) cols₀

module _ (n : ℕ) (s : ℕ → ℕ → Bool) (region nodes₀ ptr₀ cols₀ : List ℕ) where
  abbrev p : ℕ → Bool
  p = in_mask region

  abbrev f : ℕ → ℕ
  f i = count_below n (inside p s i)

  more_members : (k r : ℕ) → k ≡ count_below r p → (r < n → T (p r)) → r < n → k < count_below n p
  more_members k r e member l = omega (arith, count-member n p r l (member l))

  more_pairs : (next r : ℕ) → next ≡ sum_over r p f → (r < n → T (p r)) → r < n → next + f r ≤ pairs_inside n p s
  unfolding pairs_inside
  more_pairs next r e member l = omega (arith, sum_one n region r f (member l), sum_mono (r + 1) n (λ i. cond (p i) (f i) 0) (omega arith))

  pub write-first : (r : ℕ) → Next n region 0 r → 0 < length ptr₀ → Writing n s region nodes₀ ptr₀ cols₀ nodes₀ (set ptr₀ 0 0) cols₀ 0 0 r
  write-first r next l =
      let none : 0 ≡ length (join_below 0 (local_row n p s)) = sym (ap length (join-none (local_row n p s))) in
      record {
        within = next.within;
        member = next.member;
        place = count-first n region r next;
        here = sum_first n region r f next;
        long = none;
        more = more_members 0 r (count-first n region r next) next.member;
        room = more_pairs 0 r (sum_first n region r f next) next.member;
        nodes_done = refl;
        ptr_done = put_next (pattern_ptr n p s) ptr₀ ptr₀ 0 0 0 (omega (arith, ptr-length n s p)) l refl (none ∙ sym (ptr-at n s p 0 (omega arith)));
        cols_done = sym (ap (λ (x : List ℕ). over x cols₀) (join-none (local_row n p s)));
      }

  module _ (nodes ptr cols : List ℕ) (next k r : ℕ) (w : Writing n s region nodes₀ ptr₀ cols₀ nodes ptr cols next k r) where
    module _ (l : r < n) (room : count_below n p ≤ length nodes₀) (pointers : count_below n p < length ptr₀) where
      abbrev row : List ℕ
      row = map (number_of p) (columns_of n p s r)

      few : k < count_below n p
      few = w.more l

      grown : join_below (k + 1) (local_row n p s) ≡ join_below k (local_row n p s) ++ row
      grown = join-next k (local_row n p s) ∙ ap (λ (x : List ℕ). join_below k (local_row n p s) ++ x) (ap (local_row n p s) w.place ∙ row_at n s p r l (w.member l))

      longer : next + f r ≡ length (join_below (k + 1) (local_row n p s))
      longer =
          omega (arith, w.long, ap length grown, length-append (join_below k (local_row n p s)) row, length-map (columns_of n p s r) (number_of p), count-members n (inside p s r))

      pub write-turn : (r' next' : ℕ) (cols' : List ℕ) → Next n region (r + 1) r' → next' ≡ next + f r → cols' ≡ placed next row cols
          → Writing n s region nodes₀ ptr₀ cols₀ (set nodes k r) (set ptr (k + 1) next') cols' next' (k + 1) r'
      write-turn r' next' cols' go e g =
          let place : k + 1 ≡ count_below r' p = ap (λ (x : ℕ). x + 1) w.place ∙ count_turn n region r r' (w.member l) go in
          let here : next' ≡ sum_over r' p f = e ∙ ap (λ (x : ℕ). x + f r) w.here ∙ sum-turn n region r r' f (w.member l) go in
          record {
            within = go.within;
            member = go.member;
            place = place;
            here = here;
            long = e ∙ longer;
            more = more_members (k + 1) r' place go.member;
            room = more_pairs next' r' here go.member;
            nodes_done = put_next (members_below n p) nodes₀ nodes k r 0 (omega (arith, few, count-members n p)) (omega (arith, few)) w.nodes_done (sym (ap (λ (x : ℕ). get_or (members_below n p) x 0) w.place ∙ get_or-count n p r l (w.member l)));
            ptr_done = put_next (pattern_ptr n p s) ptr₀ ptr (k + 1) next' 0 (omega (arith, few, ptr-length n s p)) (omega (arith, few)) w.ptr_done (e ∙ longer ∙ sym (ptr-at n s p (k + 1) (omega (arith, few))));
            cols_done =
                g ∙ ap₂ (λ (x : ℕ) (y : List ℕ). placed x row y) w.long w.cols_done
                ∙ placed-over (join_below k (local_row n p s)) row cols₀
                ∙ ap (λ (x : List ℕ). over x cols₀) (sym grown);
          }

    pub write-last : n ≤ r → (nodes ≡ over (members_below n p) nodes₀) × (ptr ≡ over (pattern_ptr n p s) ptr₀) × (cols ≡ over (pattern_columns n p s) cols₀)
    unfolding pattern_columns
    write-last l =
        let e : r ≡ n = omega (arith, w.within) in
        let all : k ≡ count_below n p = w.place ∙ ap (λ (x : ℕ). count_below x p) e in (
          put-end (members_below n p) nodes₀ nodes k (all ∙ sym (count-members n p)) w.nodes_done,
          put-end (pattern_ptr n p s) ptr₀ ptr (k + 1) (ap (λ (x : ℕ). x + 1) all ∙ sym (ptr-length n s p)) w.ptr_done,
          w.cols_done ∙ ap (λ (x : ℕ). over (join_below x (local_row n p s)) cols₀) all,
        )
