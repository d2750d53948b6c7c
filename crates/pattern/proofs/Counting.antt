-- What a pattern counts of its members' rows, and that it stays small. Assumes nothing.
use mathlib.Core.Path.{◌≡◌, refl, sym, ap, ap₂, ◌∙◌, subst}
use mathlib.Core.Bool.{Bool, true, false}
use mathlib.Core.List.{List}
use Prim.Native.Nat.{ℕ, ◌+◌, ◌≤◌, ◌<◌}
use native.Mathlib.Omega.{arith}
use lib.Dec.{T}
use lib.ListN.{length}
use mir.Val.{bool_byte}
use Rattle.base.specs.Checks.{side_limit, entry_limit}
use Rattle.base.specs.Sets.{sum_below, sum_over, count_below, one_if}
use Rattle.base.proofs.Bools.{and_r}
use Rattle.base.proofs.Joins.{join-count}
use Rattle.base.proofs.Sets.{over-le, sum-le, count-le, count-mono}
use Rattle.mask.specs.Mask.{in_mask}
use Rattle.mask.proofs.Nexts.{Next}
use Rattle.side.specs.Side.{words_of_row, side_holds}
use Rattle.side.specs.Check.{IsSide}
use Rattle.side.proofs.Sides.{own-words, own-pairs}
use Rattle.pattern.specs.Pattern.{inside, pairs_inside}
use Rattle.pattern.specs.Steps.{kept_of_row, together, region_kept, Few, Small}
use Rattle.pattern.specs.declared.RowKept.{RowKept}
use Rattle.pattern.proofs.Walks.{sum_first, sum-turn, count-first, count_turn, sum_room}

-- whether one is counted, as the code counts it
pub bool-number : (b : Bool) → bool_byte b ≡ one_if b
bool-number true = refl
bool-number false = refl

pub bool-small : (b : Bool) → bool_byte b ≤ 1
bool-small true = omega arith
bool-small false = omega arith

-- what the rows of the members below r hold
abbrev pub rows_kept : ℕ → (ℕ → ℕ → Bool) → (ℕ → Bool) → ℕ → RowKept
rows_kept n s p r =
    record {
      words = sum_over r p (λ i. length (words_of_row n (s i)));
      candidates = sum_over r p (λ i. count_below n (s i));
      kept = sum_over r p (λ i. count_below n (inside p s i));
    }

abbrev pub nothing : RowKept
nothing = record { words = 0; candidates = 0; kept = 0 }

-- the members below r are counted
pub record Walked (n : ℕ) (s : ℕ → ℕ → Bool) (region : List ℕ) (members : ℕ) (rows : RowKept) (r : ℕ) : Type 0 where
  pub within : r ≤ n
  pub member : r < n → T (in_mask region r)
  pub many : members ≡ count_below r (in_mask region)
  pub by_rows : rows ≡ rows_kept n s (in_mask region) r
  -- what comes next keeps them small
  pub few_members : r < n → members < side_limit
  pub few : r < n → Few (together rows (kept_of_row n (in_mask region) s r))

module _ (n : ℕ) (ptr idx masks : List ℕ) (m : IsSide n n ptr idx masks) where
  abbrev s : ℕ → ℕ → Bool
  s = side_holds ptr idx masks

  pub words-within : sum_below n (λ i. length (words_of_row n (s i))) ≤ entry_limit
  words-within = omega (arith, sym (join-count n (λ i. words_of_row n (s i))) ∙ ap length (sym (own-words n n ptr idx masks m)) ∙ m.shape.as_many, m.shape.few_words)

  pub bits-within : sum_below n (λ i. count_below n (s i)) ≤ entry_limit
  bits-within = omega (arith, own-pairs n n ptr idx masks m, m.few_pairs)

  pub kept-within : (p : ℕ → Bool) → sum_below n (λ i. count_below n (inside p s i)) ≤ entry_limit
  kept-within p = omega (arith, bits-within, sum-le n (λ i. count_below n (inside p s i)) (λ i. count_below n (s i)) (λ i l. count-mono n (inside p s i) (s i) (λ c h t. and_r (p c) (s i c) t)))

  pub kept_small : (p : ℕ → Bool) → Small (region_kept n p s)
  unfolding pairs_inside
  kept_small p =
      record {
        few_members = omega (arith, count-le n p, m.few_cols);
        rows = record {
          few_words = omega (arith, over-le n p (λ i. length (words_of_row n (s i))), words-within);
          few_candidates = omega (arith, over-le n p (λ i. count_below n (s i)), bits-within);
          few_kept = omega (arith, over-le n p (λ i. count_below n (inside p s i)), kept-within p);
        };
      }

  module _ (region : List ℕ) where
    abbrev p : ℕ → Bool
    p = in_mask region

    walked : (members : ℕ) (rows : RowKept) (r : ℕ) → r ≤ n → (r < n → T (p r)) → members ≡ count_below r p → rows ≡ rows_kept n s p r → Walked n s region members rows r
    walked members rows r within member a b =
        record {
          within = within;
          member = member;
          many = a;
          by_rows = b;
          few_members = λ l. omega (arith, count-le r p, m.few_cols);
          few = λ l. subst (λ (k : RowKept). Few (together k (kept_of_row n p s r))) (sym b)
              (record {
                few_words = omega (arith, sum_room n region r (λ i. length (words_of_row n (s i))) l, words-within);
                few_candidates = omega (arith, sum_room n region r (λ i. count_below n (s i)) l, bits-within);
                few_kept = omega (arith, sum_room n region r (λ i. count_below n (inside p s i)) l, kept-within p);
              });
        }

    pub walk_first : (rows : RowKept) (r : ℕ) → rows ≡ nothing → Next n region 0 r → Walked n s region 0 rows r
    walk_first rows r e next =
        walked 0 rows r next.within next.member (count-first n region r next)
        (e ∙ (λ i. record {
          words = sum_first n region r (λ i. length (words_of_row n (s i))) next i;
          candidates = sum_first n region r (λ i. count_below n (s i)) next i;
          kept = sum_first n region r (λ i. count_below n (inside p s i)) next i;
        }))

    module _ (members : ℕ) (rows : RowKept) (r : ℕ) (w : Walked n s region members rows r) where
      pub walk-last : n ≤ r → record { members = members; rows = rows } ≡ region_kept n p s
      unfolding pairs_inside
      walk-last l = let e : r ≡ n = omega (arith, w.within) in cc (w.many, w.by_rows)

      module _ (l : r < n) (row : RowKept) (e : row ≡ kept_of_row n p s r) where
        pub walk_room : Few (together rows row)
        walk_room = subst (λ (k : RowKept). Few (together rows k)) (sym e) (w.few l)

        pub walk_turn : (rows' : RowKept) → rows' ≡ together rows row → (r' : ℕ) → Next n region (r + 1) r' → Walked n s region (members + 1) rows' r'
        walk_turn rows' g r' next =
            walked (members + 1) rows' r' next.within next.member
            (ap (λ (x : ℕ). x + 1) w.many ∙ count_turn n region r r' (w.member l) next)
            (g ∙ ap₂ together w.by_rows e ∙ (λ i. record {
              words = sum-turn n region r r' (λ i. length (words_of_row n (s i))) (w.member l) next i;
              candidates = sum-turn n region r r' (λ i. count_below n (s i)) (w.member l) next i;
              kept = sum-turn n region r r' (λ i. count_below n (inside p s i)) (w.member l) next i;
            }))
