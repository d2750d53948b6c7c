-- A plan: what an accepted check gives, what stands at a place of the gathered list, and the plan of a list of lists of entries. Assumes nothing.
use mathlib.Core.Path.{◌≡◌, refl, sym, ap, ap₂, subst, ◌∙◌}
use Rattle.std.specs.Prelude.{Ok}
use mathlib.Core.Bool.{Bool, true, false, cond, ◌&&◌, and-true, and_assoc}
use mathlib.Core.List.{List, [], ◌∷◌, ◌++◌, map}
use Prim.Native.Nat.{ℕ, zero, suc, ◌+◌, ◌-◌, ◌≤◌, ◌<◌}
use native.Mathlib.Numerals.{add-one}
use native.Mathlib.Omega.{arith}
use borrow.Author.Tests.{lt-ltb, leb-true, ltb-true, eqb-true, eq-eqb}
use lib.Dec.{T, leb, ltb, eqb}
use lib.ListN.{length, get_or, take, length-append, length-map, get_or-map}
use Rattle.std.proofs.lemmas.List.{map_more}
use lib.Seq.{slice, ext_get_or}
use lib.Ieee.{Float, nan, binary64, add}
use Rattle.base.specs.Checks.{entry_limit}
use Rattle.base.specs.Lists.{every, pairwise, rising, below, join_below}
use Rattle.base.proofs.Bools.{bool-ext, T_of, T_true}
use Rattle.base.proofs.Checks.{passed, length-passed, both-passed}
use Rattle.base.proofs.Lists.{every-all, every-at, pairwise-at, pairwise-i, rise-to, get_or-slice, length-list_from, get_or-list_from}
use Rattle.base.proofs.Joins.{join-none, join-next, join-slice}
use Rattle.csr32.specs.Matrix.{finite}
use Rattle.gather.specs.Plan.{entry_list, plan_sources, plan_ptr, direct}
use Rattle.gather.specs.Gather.{plus_zero, total, values_of, sum_of, sources_at, is_one_each, summed, gathered, gather_check}

-- ---- whether a list of pointers is empty

pub not-zero : (n : ℕ) → (n ≡ 0 → ⊥) → ltb 0 n ≡ true
not-zero n h = let above : 0 < n = omega arith in lt-ltb 0 n above

pub is_zero : (n : ℕ) → n ≡ 0 → ltb 0 n ≡ false
is_zero n h = ap (ltb 0) h

pub ruleset empties = (not-zero, is_zero)

-- ---- what an accepted check gives

pub record Accepts (ptr src : List ℕ) (value_len : ℕ) (values out : List Float) : Type 0 where
  pub few_sources : length src ≤ entry_limit
  pub few_values : length values ≤ entry_limit
  pub some : 0 < length ptr
  pub starts : get_or ptr 0 0 ≡ 0
  pub rises : rising ptr ≡ true
  pub ends : get_or ptr (length ptr - 1) 0 ≡ length src
  pub inside : every (below (length values)) src ≡ true
  pub as_many : length values ≡ value_len
  pub all_finite : every finite values ≡ true
  pub room : length ptr - 1 ≤ length out

pub accepted-gather : (ptr src : List ℕ) (value_len : ℕ) (values out : List Float) → gather_check ptr src value_len values out ≡ Ok tt → Accepts ptr src value_len values out
unfolding gather_check
accepted-gather ptr src value_len values out e =
    let e1 = both-passed _ _ e in
    let e2 = both-passed _ _ e1.1 in
    let e3 = both-passed _ _ e2.1 in
    let e4 = both-passed _ _ e3.1 in
    let e5 = both-passed _ _ e4.1 in
    let e6 = both-passed _ _ e5.1 in
    let e7 = both-passed _ _ e6.1 in
    let e8 = both-passed _ _ e7.1 in
    let e9 = both-passed _ _ e8.1 in
    record {
      few_sources = leb-true _ _ (passed _ _ e1.0);
      few_values = leb-true _ _ (passed _ _ e2.0);
      some = ltb-true _ _ (passed _ _ e3.0);
      starts = eqb-true _ _ (passed _ _ e4.0);
      rises = passed _ _ e5.0;
      ends = eqb-true _ _ (passed _ _ e6.0);
      inside = ap (λ (k : ℕ). every (below k) src) (length-passed _ _ e8.0) ∙ passed _ _ e7.0;
      as_many = length-passed _ _ e8.0;
      all_finite = passed _ _ e9.0;
      room = leb-true _ _ (passed _ _ e9.1);
    }

-- ---- pointers and sources

-- pointers that never fall: none is above a later one
pub ptr-rises : (ptr : List ℕ) (i j : ℕ) → rising ptr ≡ true → i ≤ j → j < length ptr → get_or ptr i 0 ≤ get_or ptr j 0
ptr-rises ptr i j e h l =
    rise-to ptr (length ptr - 1) (λ r b. leb-true _ _ (pairwise-at leb 0 ptr r e (omega arith))) i j h (omega arith)

-- with one source for each pair the pointers count up
pub one-each-at : (ptr : List ℕ) (i : ℕ) → is_one_each ptr ≡ true → i < length ptr → get_or ptr i 0 ≡ get_or ptr 0 0 + i
one-each-at ptr zero e h = omega arith
one-each-at ptr (suc i) e h =
    let b : get_or ptr (i + 1) 0 ≡ get_or ptr i 0 + 1 = eqb-true _ _ (pairwise-at (λ (from to : ℕ). eqb to (from + 1)) 0 ptr i e (omega arith)) in
    let n : get_or ptr (i + 1) 0 ≡ get_or ptr (suc i) 0 = ap (λ (k : ℕ). get_or ptr k 0) (add-one i) in
    omega (arith, one-each-at ptr i e (omega arith))

-- one more pointer passes with the one before it
pub pairwise_more : (f : ℕ → ℕ → Bool) (d : ℕ) (s : List ℕ) (i : ℕ) → 0 < i → i < length s → pairwise f (take (i + 1) s) ≡ (pairwise f (take i s) && f (get_or s (i - 1) d) (get_or s i d))
pairwise_more f d s i p h =
    let e : suc (i - 1) ≡ i = omega arith in
    rw add-one (subst (λ (k : ℕ). pairwise f (take (suc k) s) ≡ (pairwise f (take k s) && f (get_or s (i - 1) d) (get_or s k d))) e (go s (i - 1) (rw e h)))
  where
    go : (s : List ℕ) (i : ℕ) → suc i < length s → pairwise f (take (suc (suc i)) s) ≡ (pairwise f (take (suc i) s) && f (get_or s i d) (get_or s (suc i) d))
    go [] i h = absurd (omega arith)
    go (x ∷ []) i h = absurd (omega arith)
    go (x ∷ (y ∷ ys)) zero h = and-true (f x y)
    go (x ∷ (y ∷ ys)) (suc i) h =
        ap (λ (b : Bool). f x y && b) (go (y ∷ ys) i (omega arith)) ∙ sym (and_assoc (f x y) (pairwise f (take (suc i) (y ∷ ys))) (f (get_or (y ∷ ys) i d) (get_or (y ∷ ys) (suc i) d)))

-- ---- values and sums

pub summed-length : (ptr src : List ℕ) (values : List Float) → length (summed ptr src values) ≡ length ptr - 1
summed-length ptr src values = length-list_from (λ j. sum_of values (sources_at ptr src j)) (length ptr - 1) 0

pub summed_at : (ptr src : List ℕ) (values : List Float) (i : ℕ) (d : Float) → i + 1 < length ptr → get_or (summed ptr src values) i d ≡ sum_of values (sources_at ptr src i)
summed_at ptr src values i d h =
    let e : 0 + i ≡ i = omega arith in
    get_or-list_from (λ j. sum_of values (sources_at ptr src j)) (length ptr - 1) 0 i d (omega arith) ∙ ap (λ (j : ℕ). sum_of values (sources_at ptr src j)) e

-- one more entry of a sum
pub sum_more : (values : List Float) (src : List ℕ) (k : ℕ) → k < length src → sum_of values (take (k + 1) src) ≡ add binary64 (sum_of values (take k src)) (get_or values (get_or src k 0) nan)
sum_more values src k h = ap (total plus_zero) (map_more (λ (e : ℕ). get_or values e nan) src k 0 h) ∙ last plus_zero (values_of values (take k src))
  where
    last : (sum : Float) (xs : List Float) → total sum (xs ++ get_or values (get_or src k 0) nan ∷ []) ≡ add binary64 (total sum xs) (get_or values (get_or src k 0) nan)
    last sum [] = refl
    last sum (x ∷ xs) = last (add binary64 sum x) xs

-- ---- the plan of a list of lists: list i has the entries of pair i

module _ (lists : List (List ℕ)) where
  abbrev pub ends : ℕ → ℕ
  ends j = length (join_below j (entry_list lists))

  ends_next : (i : ℕ) → ends (i + 1) ≡ ends i + length (get_or lists i [])
  ends_next i = ap length (join-next i (entry_list lists)) ∙ length-append (join_below i (entry_list lists)) (get_or lists i [])

  pub pointers-length : length (plan_ptr lists) ≡ length lists + 1
  unfolding plan_ptr
  pointers-length = length-list_from ends (length lists + 1) 0

  pub pointer-at : (j : ℕ) → j ≤ length lists → get_or (plan_ptr lists) j 0 ≡ ends j
  unfolding plan_ptr
  pointer-at j h = let e : 0 + j ≡ j = omega arith in get_or-list_from ends (length lists + 1) 0 j 0 (omega arith) ∙ ap ends e

  -- the entries of pair i are list i
  pub sources-lists : (i : ℕ) → i < length lists → sources_at (plan_ptr lists) (plan_sources lists) i ≡ get_or lists i []
  unfolding plan_sources
  sources-lists i h =
      ap₂ (λ (f t : ℕ). slice f t (plan_sources lists)) (pointer-at i (omega arith)) (pointer-at (i + 1) (omega arith))
      ∙ join-slice (length lists) i (entry_list lists) h

  pub one-each-lists : is_one_each (plan_ptr lists) ≡ direct lists
  one-each-lists = bool-ext (is_one_each (plan_ptr lists)) (direct lists) there back
    where
      step : (i : ℕ) → i < length lists → eqb (get_or (plan_ptr lists) (i + 1) 0) (get_or (plan_ptr lists) i 0 + 1) ≡ true → eqb (length (get_or lists i [])) 1 ≡ true
      step i h e =
          let u : get_or (plan_ptr lists) (i + 1) 0 ≡ get_or (plan_ptr lists) i 0 + 1 = eqb-true _ _ e in
          let one : length (get_or lists i []) ≡ 1 = omega (arith, pointer-at i (omega arith), pointer-at (i + 1) (omega arith), ends_next i) in
          eq-eqb _ _ one

      turn : (i : ℕ) → i < length lists → eqb (length (get_or lists i [])) 1 ≡ true → eqb (get_or (plan_ptr lists) (i + 1) 0) (get_or (plan_ptr lists) i 0 + 1) ≡ true
      turn i h e =
          let u : length (get_or lists i []) ≡ 1 = eqb-true _ _ e in
          let one : get_or (plan_ptr lists) (i + 1) 0 ≡ get_or (plan_ptr lists) i 0 + 1 = omega (arith, pointer-at i (omega arith), pointer-at (i + 1) (omega arith), ends_next i) in
          eq-eqb _ _ one

      there : T (is_one_each (plan_ptr lists)) → T (direct lists)
      there t =
          T_of (direct lists)
          (every-all (λ (l : List ℕ). eqb (length l) 1) [] lists
          (λ i h. step i h (pairwise-at (λ (from to : ℕ). eqb to (from + 1)) 0 (plan_ptr lists) i (T_true _ t) (omega (arith, pointers-length)))))

      back : T (direct lists) → T (is_one_each (plan_ptr lists))
      back t =
          T_of (is_one_each (plan_ptr lists))
          (pairwise-i (λ (from to : ℕ). eqb to (from + 1)) 0 (plan_ptr lists)
          (λ i h. let b : i < length lists = omega (arith, pointers-length) in turn i b (every-at (λ (l : List ℕ). eqb (length l) 1) [] lists i (T_true _ t) b)))

  pub summed-lists : (values : List Float) → summed (plan_ptr lists) (plan_sources lists) values ≡ map (sum_of values) lists
  summed-lists values =
      ext_get_or (sum_of values []) (summed (plan_ptr lists) (plan_sources lists) values) (map (sum_of values) lists)
      (omega (arith, summed-length (plan_ptr lists) (plan_sources lists) values, pointers-length, length-map lists (sum_of values))) each
    where
      each : (i : ℕ) → i < length (summed (plan_ptr lists) (plan_sources lists) values) → get_or (summed (plan_ptr lists) (plan_sources lists) values) i (sum_of values []) ≡ get_or (map (sum_of values) lists) i (sum_of values [])
      each i h =
          let b : i < length lists = omega (arith, summed-length (plan_ptr lists) (plan_sources lists) values, pointers-length) in
          summed_at (plan_ptr lists) (plan_sources lists) values i (sum_of values []) (omega (arith, pointers-length)) ∙ ap (sum_of values) (sources-lists i b)
          ∙ sym (get_or-map (sum_of values) lists i [])

  -- where every list has one element the entries are those elements
  pub values-lists : (values : List Float) → direct lists ≡ true → values_of values (plan_sources lists) ≡ map (λ l. get_or values (get_or l 0 0) nan) lists
  unfolding plan_sources
  values-lists values one =
      ext_get_or (get_or values 0 nan) (values_of values (plan_sources lists)) (map (λ (l : List ℕ). get_or values (get_or l 0 0) nan) lists)
      (length-map (plan_sources lists) (λ (e : ℕ). get_or values e nan) ∙ counts (length lists) (omega arith) ∙ sym (length-map lists (λ (l : List ℕ). get_or values (get_or l 0 0) nan))) each
    where
      counts : (i : ℕ) → i ≤ length lists → ends i ≡ i
      counts i h =
          omega (arith, pointer-at i h, pointer-at 0 (omega arith), ap length (join-none (entry_list lists)), one-each-at (plan_ptr lists) i (one-each-lists ∙ one) (omega (arith, pointers-length)))

      entry : (i : ℕ) → i < length lists → get_or (plan_sources lists) i 0 ≡ get_or (get_or lists i []) 0 0
      entry i h =
          let z : i + 0 ≡ i = omega arith in
          ap (λ (k : ℕ). get_or (plan_sources lists) k 0) (sym z) ∙ sym (get_or-slice i (i + 1) (plan_sources lists) 0 (omega arith))
          ∙ ap₂ (λ (f t : ℕ). get_or (slice f t (plan_sources lists)) 0 0) (sym (counts i (omega arith))) (sym (counts (i + 1) (omega arith)))
          ∙ ap (λ (l : List ℕ). get_or l 0 0) (join-slice (length lists) i (entry_list lists) h)

      each : (i : ℕ) → i < length (values_of values (plan_sources lists)) → get_or (values_of values (plan_sources lists)) i (get_or values 0 nan) ≡ get_or (map (λ (l : List ℕ). get_or values (get_or l 0 0) nan) lists) i (get_or values 0 nan)
      each i h =
          let b : i < length lists = omega (arith, length-map (plan_sources lists) (λ (e : ℕ). get_or values e nan), counts (length lists) (omega arith)) in
          get_or-map (λ (e : ℕ). get_or values e nan) (plan_sources lists) i 0 ∙ ap (λ (k : ℕ). get_or values k nan) (entry i b)
          ∙ sym (get_or-map (λ (l : List ℕ). get_or values (get_or l 0 0) nan) lists i [])

  -- what a gather gives for each list: its one value where all have one, else its sum
  pub gathered-lists : (values : List Float) → gathered (plan_ptr lists) (plan_sources lists) values ≡ cond (direct lists) (map (λ l. get_or values (get_or l 0 0) nan) lists) (map (sum_of values) lists)
  unfolding gathered
  gathered-lists values =
      ap₂ (λ (b : Bool) (s : List Float). cond b (values_of values (plan_sources lists)) s) one-each-lists (summed-lists values) ∙ go (direct lists) (values-lists values)
    where
      go : (b : Bool) → (b ≡ true → values_of values (plan_sources lists) ≡ map (λ (l : List ℕ). get_or values (get_or l 0 0) nan) lists)
          → cond b (values_of values (plan_sources lists)) (map (sum_of values) lists) ≡ cond b (map (λ (l : List ℕ). get_or values (get_or l 0 0) nan) lists) (map (sum_of values) lists)
      go true h = h refl
      go false h = refl
