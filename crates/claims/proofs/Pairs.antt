-- The pattern's lists stand for each stored pair with both ends inside once, by row, then by rising column. Assumes nothing.
use mathlib.Core.Path.{◌≡◌, refl, sym, ap, ap₂, ◌∙◌}
use mathlib.Core.Bool.{Bool, true, false, cond, ◌&&◌}
use mathlib.Core.List.{List, [], map, ◌++◌}
use Prim.Native.Nat.{ℕ, zero, suc, ◌+◌, ◌*◌, ◌/◌, ◌%◌, ◌≤◌, ◌<◌}
use native.Mathlib.Omega.{arith}
use native.Mathlib.Nat.{zero-add, div-eq_of_lt, mod-eq_of_lt, suc-mul, add-mul-div_right, add-mul-mod_self_right}
use lib.ListN.{get_or}
use lib.Seq.{slice}
use Rattle.base.specs.Lists.{join_below}
use Rattle.base.specs.Sets.{count_below, members_from, members_below}
use Rattle.base.proofs.Bools.{and_l}
use Rattle.base.proofs.Lists.{map-two}
use Rattle.base.proofs.Joins.{join-none, join-next, join-cong, join-slice, join-members}
use Rattle.base.proofs.Sets.{map-alike, members-zero, members-ext, members-append, members-shift, members-none, count-members, get_or-count}
use Rattle.pattern.specs.Pattern.{member_at, number_of, inside, columns_of, local_row, pattern_ptr, pattern_columns}
use Rattle.pattern.proofs.Writing.{ptr-at}
use Rattle.claims.specs.Demand.{listed_pairs, stored_pairs}

-- ---- a square of numbers, row by row

module _ (n : ℕ) (q : ℕ → Bool) where
  rows : (m : ℕ) → members_below (m * n) q ≡ join_below m (λ r. map (λ (c : ℕ). r * n + c) (members_below n (λ c. q (r * n + c))))
  rows zero = ap (λ (x : ℕ). members_below x q) zero-rows ∙ members-zero q 0 ∙ sym (join-none (λ r. map (λ (c : ℕ). r * n + c) (members_below n (λ c. q (r * n + c)))))
    where
      zero-rows : 0 * n ≡ 0
      zero-rows = omega arith
  rows (suc m) =
      let more : suc m * n ≡ m * n + n = suc-mul m n in
      let one : suc m ≡ m + 1 = omega arith in
      let at : 0 + m * n ≡ m * n + 0 = omega arith in
      ap (λ (x : ℕ). members_below x q) more
      ∙ members-append q 0 (m * n) n
      ∙ ap₂ ◌++◌ (rows m) (ap (λ (x : ℕ). members_from q x n) at ∙ members-shift q (m * n) 0 n)
      ∙ sym (ap (λ (x : ℕ). join_below x (λ r. map (λ (c : ℕ). r * n + c) (members_below n (λ c. q (r * n + c))))) one ∙ join-next m (λ r. map (λ (c : ℕ). r * n + c) (members_below n (λ c. q (r * n + c)))))

module _ (n : ℕ) (p : ℕ → Bool) (s t : ℕ → ℕ → Bool) (same : (r c : ℕ) → r < n → c < n → s r c ≡ t r c) where
  abbrev q : ℕ → Bool
  q x = p (x / n) && p (x % n) && t (x / n) (x % n)

  -- the pairs of one row
  abbrev pairs_in : ℕ → List ℕ
  pairs_in r = map (λ (c : ℕ). r * n + c) (columns_of n p s r)

  row_of : (r c : ℕ) → c < n → (r * n + c) / n ≡ r
  row_of r c l =
      let pos : 0 < n = omega arith in
      let turn : r * n + c ≡ c + r * n = omega arith in
      let z : c / n ≡ 0 = div-eq_of_lt l in
      ap (λ (x : ℕ). x / n) turn ∙ add-mul-div_right c r pos ∙ ap (λ (x : ℕ). x + r) z ∙ zero-add r

  column-of : (r c : ℕ) → c < n → (r * n + c) % n ≡ c
  column-of r c l =
      let turn : r * n + c ≡ c + r * n = omega arith in
      ap (λ (x : ℕ). x % n) turn ∙ add-mul-mod_self_right c r n ∙ mod-eq_of_lt l

  stored_row : (r : ℕ) → r < n → map (λ (c : ℕ). r * n + c) (members_below n (λ c. q (r * n + c))) ≡ cond (p r) (pairs_in r) []
  stored_row r l = ap (map (λ (c : ℕ). r * n + c)) (members-ext (λ c. q (r * n + c)) (λ c. p r && p c && s r c) 0 n here) ∙ go (p r)
    where
      here : (c : ℕ) → 0 ≤ c → c < 0 + n → q (r * n + c) ≡ (p r && p c && s r c)
      here c a m =
          let small : c < n = omega arith in
          ap₂ (λ (x y : ℕ). p x && p y && t x y) (row_of r c small) (column-of r c small) ∙ ap (λ (b : Bool). p r && p c && b) (sym (same r c l small))

      go : (b : Bool) → map (λ (c : ℕ). r * n + c) (members_below n (λ c. b && p c && s r c)) ≡ cond b (pairs_in r) []
      go true = refl
      go false = ap (map (λ (c : ℕ). r * n + c)) (members-none (λ c. false) 0 n (λ i a m t. t))

  by_rows : stored_pairs n p t ≡ join_below n (λ r. cond (p r) (pairs_in r) [])
  unfolding stored_pairs
  by_rows = rows n q n ∙ join-cong n _ _ stored_row

  -- local row k of the pattern
  listed-row : (k : ℕ) → k < count_below n p
      → map (λ (c : ℕ). member_at n p k * n + member_at n p c) (slice (get_or (pattern_ptr n p s) k 0) (get_or (pattern_ptr n p s) (k + 1) 0) (pattern_columns n p s)) ≡ pairs_in (member_at n p k)
  unfolding pattern_columns local_row
  listed-row k l =
      let r = member_at n p k in
      ap (map (λ (c : ℕ). r * n + member_at n p c))
      (ap₂ (λ (a b : ℕ). slice a b (pattern_columns n p s)) (ptr-at n s p k (omega arith)) (ptr-at n s p (k + 1) (omega arith)) ∙ join-slice (count_below n p) k (local_row n p s) l)
      ∙ map-two (λ (c : ℕ). r * n + member_at n p c) (number_of p) (columns_of n p s r)
      ∙ map-alike (λ c. r * n + member_at n p (number_of p c)) (λ c. r * n + c) (inside p s r) 0 n
      (λ c a m u. ap (λ (x : ℕ). r * n + x) (get_or-count n p c (omega arith) (and_l (p c) (s r c) u)))

  pub listed-pairs : listed_pairs n p (pattern_ptr n p s) (pattern_columns n p s) ≡ stored_pairs n p t
  unfolding listed_pairs
  listed-pairs =
      join-cong (count_below n p) _ (λ k. pairs_in (member_at n p k)) listed-row
      ∙ ap (λ (x : ℕ). join_below x (λ k. pairs_in (member_at n p k))) (sym (count-members n p))
      ∙ join-members pairs_in p 0 n
      ∙ join-cong n _ _ (λ j l. ap (λ (x : ℕ). cond (p x) (pairs_in x) []) (zero-add j))
      ∙ sym by_rows
