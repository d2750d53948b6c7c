-- What the members' rows hold inside the region, counted: the sources of a row, and all rows settled one after the other. Assumes nothing.
use Rattle.mask.proofs.Masks.{mask-length}
use Rattle.binding.proofs.Rows.{row-entries, row-long, row_column}
use mathlib.Core.Path.{◌≡◌, refl, sym, ap, ap₂, ◌∙◌, subst}
use Rattle.std.specs.Prelude.{Result, Ok, Err, Option, Some}
use Rattle.base.specs.Checks.{answer}
use mathlib.Core.Bool.{Bool, true, false, cond}
use Rattle.std.specs.List.{filter}
use Rattle.std.proofs.lemmas.List.Filters.{length-filter_more}
use mathlib.Core.List.{List}
use Prim.Native.Nat.{ℕ, zero, suc, ◌+◌, ◌-◌, ◌≤◌, ◌<◌}
use native.Mathlib.Omega.{arith}
use native.Mathlib.Nat.{le_refl}
use lib.Dec.{T}
use lib.ListN.{length, get_or, take}
use lib.Seq.{take-length}
use Rattle.base.specs.Checks.{entry_limit}
use Rattle.base.specs.Sets.{one_if, sum_below, sum_over, count_below}
use Rattle.base.specs.declared.Refusal.{Refusal}
use Rattle.base.proofs.Checks.{on-accepted, on-refused}
use Rattle.base.proofs.Sets.{sum-zero, sum-suc, sum-append, count-cong, count-le}
use Rattle.mask.specs.Mask.{in_mask}
use Rattle.mask.proofs.Nexts.{Next}
use Rattle.csr32.specs.Matrix.{row_of, stored, IsMatrix}
use Rattle.side.specs.Side.{side_holds}
use Rattle.side.specs.Check.{IsSide}
use Rattle.pattern.specs.Pattern.{inside, pairs_inside}
use Rattle.pattern.proofs.Walks.{sum_first, sum-turn, sum_room, count-first, count_turn}
use Rattle.pattern.proofs.Counting.{kept-within}
use Rattle.binding.specs.Binding.{row_faults, binding_check}
use Rattle.binding.specs.Steps.{row_sources, row_counts, together, Few, counts_of, Followed}
use Rattle.binding.specs.declared.RowCounts.{RowCounts}
use Rattle.binding.specs.declared.Counts.{Counts}
use Rattle.binding.proofs.Answers.{row-passes, row-stops}
use Rattle.binding.proofs.Rows.{row-agrees, Checking, check_first, check_stop, check_turn, check_last}

-- ---- a count over from.., one number a turn

module _ (p : ℕ → Bool) (from : ℕ) where
  abbrev pub counted : ℕ → ℕ
  counted e = count_below (e - from) (λ j. p (from + j))

  pub count-start : 0 ≡ counted from
  count-start = let e : 0 ≡ from - from = omega arith in sym (sum-zero (λ j. one_if (p (from + j)))) ∙ ap (λ (k : ℕ). count_below k (λ j. p (from + j))) e

  pub count_next : (e count : ℕ) (t : Bool) → from ≤ e → p e ≡ t → count ≡ counted e → count + one_if t ≡ counted (e + 1)
  count_next e count t h q i =
      let n : e - from + 1 ≡ e + 1 - from = omega arith in
      let s : e ≡ from + (e - from) = omega arith in
      ap (λ (k : ℕ). k + one_if t) i ∙ ap (λ (b : Bool). counted e + one_if b) (sym q ∙ ap p s)
      ∙ sym (sum-suc (e - from) (λ j. one_if (p (from + j)))) ∙ ap (λ (k : ℕ). count_below k (λ j. p (from + j))) n

  -- the numbers e..f at once
  pub count-more : (e f count more : ℕ) → from ≤ e → e ≤ f → count ≡ counted e → more ≡ count_below (f - e) (λ j. p (e + j)) → count + more ≡ counted f
  count-more e f count more h l i m =
      let n : (e - from) + (f - e) ≡ f - from = omega arith in
      ap₂ ◌+◌ i (m ∙ count-cong (f - e) (λ j. p (e + j)) (λ j. p (from + ((e - from) + j))) (λ j u. let s : e + j ≡ from + ((e - from) + j) = omega arith in ap p s))
      ∙ sym (sum-append (e - from) (f - e) (λ j. one_if (p (from + j)))) ∙ ap (λ (k : ℕ). count_below k (λ j. p (from + j))) n

-- how many of a list a filter keeps
module _ (p : ℕ → Bool) (xs : List ℕ) where
  one : (b : Bool) → cond b 1 0 ≡ one_if b
  one true = refl
  one false = refl

  -- of the first k
  kept : (k : ℕ) → k ≤ length xs → length (filter p (take k xs)) ≡ count_below k (λ j. p (get_or xs j 0))
  kept zero h = sym (sum-zero (λ j. one_if (p (get_or xs j 0))))
  kept (suc k) h =
      let next : suc k ≡ k + 1 = omega arith in
      ap (λ (j : ℕ). length (filter p (take j xs))) next
      ∙ length-filter_more p xs k 0 (omega arith)
      ∙ ap₂ ◌+◌ (kept k (omega arith)) (one (p (get_or xs k 0)))
      ∙ sym (sum-suc k (λ j. one_if (p (get_or xs j 0))))
      ∙ ap (λ (j : ℕ). count_below j (λ i. p (get_or xs i 0))) (sym next)

  kept-all : length (filter p xs) ≡ count_below (length xs) (λ j. p (get_or xs j 0))
  kept-all = ap (λ (l : List ℕ). length (filter p l)) (sym (take-length xs)) ∙ kept (length xs) (le_refl (length xs))

-- ---- a row

-- a row whose pairs are its entries
pub row-follows : (n : ℕ) (p : ℕ → Bool) (s : ℕ → ℕ → Bool) (ptr cols : List ℕ) (r : ℕ) (k : Option RowCounts) (counts : RowCounts) → Followed n p s ptr cols r k → k ≡ Some counts
    → Ok counts ≡ answer (row_faults n p (s r) (stored ptr cols r)) (row_counts n p s ptr cols r)
row-follows n p s ptr cols r k counts run was =
    let w = run counts was in
    on-accepted (row_faults n p (s r) (stored ptr cols r)) (Ok (row_counts n p s ptr cols r)) _ Err (row-agrees n p (s r) (stored ptr cols r) w.0) (ap Ok w.1)

-- how many of a row's columns are inside
pub row-inside : (n : ℕ) (p : ℕ → Bool) (ptr cols : List ℕ) → IsMatrix n n ptr cols → (r : ℕ) → r < n → length (filter p (row_of ptr cols r)) ≡ row_sources p ptr cols r
row-inside n p ptr cols m r h =
    kept-all p (row_of ptr cols r) ∙ ap (λ (k : ℕ). count_below k (λ j. p (get_or (row_of ptr cols r) j 0))) (row-long n ptr cols m r h)
    ∙ count-cong (get_or ptr (r + 1) 0 - get_or ptr r 0) (λ j. p (get_or (row_of ptr cols r) j 0)) (λ j. p (get_or cols (get_or ptr r 0 + j) 0))
    (λ j l. ap p (row_column n ptr cols m r h j (omega (arith, row-long n ptr cols m r h))))

-- ---- over the members' rows

abbrev pub nothing : RowCounts
nothing = record { pairs = 0; sources = 0 }

-- in the first k rows no more than there are
pub rows-within : (n : ℕ) (p : ℕ → Bool) (ptr cols : List ℕ) → IsMatrix n n ptr cols → (k : ℕ) → k ≤ n → sum_below k (row_sources p ptr cols) ≤ get_or ptr k 0
rows-within n p ptr cols matrix zero h = omega (arith, sum-zero (row_sources p ptr cols))
rows-within n p ptr cols matrix (suc k) h =
    let e : k + 1 ≡ suc k = omega arith in
    subst (λ (x : ℕ). sum_below x (row_sources p ptr cols) ≤ get_or ptr x 0) e
    (omega (arith, rows-within n p ptr cols matrix k (omega arith), sum-suc k (row_sources p ptr cols), count-le (get_or ptr (k + 1) 0 - get_or ptr k 0) (λ j. p (get_or cols (get_or ptr k 0 + j) 0)), matrix.rises k (omega arith)))

-- the entries of the members below r are counted
pub record Counting (n : ℕ) (region ptr cols : List ℕ) (sources r : ℕ) : Type 0 where
  pub within : r ≤ n
  pub member : r < n → T (in_mask region r)
  pub by_sources : sources ≡ sum_over r (in_mask region) (row_sources (in_mask region) ptr cols)

module _ (n : ℕ) (region ptr cols : List ℕ) where
  pub sources-first : (r : ℕ) → Next n region 0 r → Counting n region ptr cols 0 r
  sources-first r next = record { within = next.within; member = next.member; by_sources = sum_first n region r (row_sources (in_mask region) ptr cols) next }

  module _ (sources r row : ℕ) (w : Counting n region ptr cols sources r) (l : r < n) (e : row ≡ row_sources (in_mask region) ptr cols r) where
    pub sources_room : IsMatrix n n ptr cols → sources + row ≤ entry_limit
    sources_room m = omega (arith, w.by_sources, e, sum_room n region r (row_sources (in_mask region) ptr cols) l, rows-within n (in_mask region) ptr cols m n (le_refl n), m.ends, m.few_entries)

    pub sources-turn : (r' : ℕ) → Next n region (r + 1) r' → Counting n region ptr cols (sources + row) r'
    sources-turn r' next = record { within = next.within; member = next.member; by_sources = ap₂ ◌+◌ w.by_sources e ∙ sum-turn n region r r' (row_sources (in_mask region) ptr cols) (w.member l) next }

module _ (n : ℕ) (region word_ptr idx masks ptr cols : List ℕ) where
  abbrev p : ℕ → Bool
  p = in_mask region

  abbrev s : ℕ → ℕ → Bool
  s = side_holds word_ptr idx masks

  abbrev entries : ℕ → ℕ → Bool
  entries = stored ptr cols

  -- the pairs and the entries of row r that are inside
  abbrev pairs : ℕ → ℕ
  pairs r = count_below n (inside p s r)

  abbrev sources : ℕ → ℕ
  sources r = row_sources p ptr cols r

  abbrev bound : Result Counts Refusal
  bound = answer (binding_check n p s entries) (counts_of n p s ptr cols)

  -- what the rows of the members below r hold
  abbrev pub rows_hold : ℕ → RowCounts
  rows_hold r = record { pairs = sum_over r p pairs; sources = sum_over r p sources }

  -- the rows of the members below r pass and are counted
  pub record Settling (m : ℕ) (held : RowCounts) (r : ℕ) : Type 0 where
    pub checked : Checking n region s entries r
    pub members : m ≡ count_below r p
    pub by_rows : held ≡ rows_hold r

  pub settle_first : (held : RowCounts) (r : ℕ) → held ≡ nothing → Next n region 0 r → Settling 0 held r
  settle_first held r e next =
      record {
        checked = check_first n region s entries r next;
        members = count-first n region r next;
        by_rows = e ∙ (λ i. record { pairs = sum_first n region r pairs next i; sources = sum_first n region r sources next i });
      }

  pub settle_last : (m : ℕ) (held : RowCounts) (r : ℕ) → Settling m held r → n ≤ r → Ok (record { members = m; rows = held }) ≡ bound
  unfolding pairs_inside
  settle_last m held r inv l =
      let e : r ≡ n = omega (arith, inv.checked.within) in
      let counts : ◌≡◌ {A = Counts} (record { members = m; rows = held }) (counts_of n p s ptr cols) = cc (inv.members, inv.by_rows) in
      on-accepted (binding_check n p s entries) (Ok (counts_of n p s ptr cols)) _ Err (check_last n region s entries r inv.checked l) (ap Ok counts)

  -- what is said of row r
  abbrev pub row_answer : ℕ → Result RowCounts Refusal
  row_answer r = answer (row_faults n p (s r) (entries r)) (row_counts n p s ptr cols r)

  module _ (m : ℕ) (held : RowCounts) (r : ℕ) (inv : Settling m held r) (l : r < n) where
    pub stop_check : (f : Refusal) → Err f ≡ row_answer r → binding_check n p s entries ≡ Err f
    stop_check f is = check_stop n region s entries r inv.checked l f (row-stops _ (row_counts n p s ptr cols r) f is)

    pub settle_stop : (f : Refusal) → Err f ≡ row_answer r → Err f ≡ bound
    settle_stop f is = on-refused (binding_check n p s entries) f (Ok (counts_of n p s ptr cols)) Err (stop_check f is)

    module _ (row : RowCounts) (is : Ok row ≡ row_answer r) where
      fine : (row_faults n p (s r) (entries r) ≡ Ok tt) × (row ≡ row_counts n p s ptr cols r)
      fine = row-passes (row_faults n p (s r) (entries r)) (row_counts n p s ptr cols r) row is

      pub row_pairs : row.pairs ≡ pairs r
      row_pairs = ap (λ (t : RowCounts). t.pairs) fine.1

      together_is : together held row ≡ together (rows_hold r) (row_counts n p s ptr cols r)
      together_is = ap₂ together inv.by_rows fine.1

      -- no more pairs than the topology has, no more sources than the matrix has entries
      pub settle_room : IsSide n n word_ptr idx masks → IsMatrix n n ptr cols → Few (together held row)
      settle_room side matrix =
          subst Few (sym together_is)
          (record {
            few_pairs = omega (arith, sum_room n region r pairs l, kept-within n word_ptr idx masks side p);
            few_sources = omega (arith, sum_room n region r sources l, rows-within n p ptr cols matrix n (le_refl n), matrix.ends, matrix.few_entries);
          })

      pub settle_turn : (held' : RowCounts) → held' ≡ together held row → (r' : ℕ) → Next n region (r + 1) r' → Settling (m + 1) held' r'
      settle_turn held' e r' next =
          record {
            checked = check_turn n region s entries r inv.checked l fine.0 r' next;
            members = ap (λ (k : ℕ). k + 1) inv.members ∙ count_turn n region r r' (inv.checked.member l) next;
            by_rows = e ∙ together_is ∙ (λ i. record { pairs = sum-turn n region r r' pairs (inv.checked.member l) next i; sources = sum-turn n region r r' sources (inv.checked.member l) next i });
          }

-- ---- what a call on a row or on a mask asks for
pub ruleset rows = (row-entries, mask-length)
