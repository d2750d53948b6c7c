-- What the steps of a plan hand on to one another; no caller of the API needs it.
use Rattle.std.specs.Prelude.{◌≡◌, Bool, false, List, ℕ, ◌+◌, ◌-◌, ◌*◌, ◌≤◌, ◌<◌, T, eqb, leb, ltb, length, get_or}
use Rattle.base.specs.Checks.{Check}
use Rattle.base.specs.declared.Refusal.TheVariants.{ListTooShort}
use Rattle.base.specs.Checks.{must, ◌then◌, side_limit, entry_limit}
use Rattle.base.specs.Lists.{join_below}
use Rattle.base.specs.Sets.{count_below}
use Rattle.mask.specs.Mask.{in_mask, words_needed, IsMask}
use Rattle.pattern.specs.Pattern.{member_at, inside, columns_of, bytes_of_pattern}
use Rattle.pattern.specs.Steps.{room_for}
use Rattle.sources.specs.Steps.{entries_at}
use Rattle.binding.specs.declared.Counts.{Counts}
use Rattle.numeric_plan.specs.declared.AbtmLocalNumericPlanStats.{AbtmLocalNumericPlanStats}

-- the entries of pair j of row r
abbrev pub row_entries : ℕ → (ℕ → Bool) → (ℕ → ℕ → Bool) → List ℕ → List ℕ → ℕ → ℕ → List ℕ
row_entries n p s ptr cols r = entries_at cols (get_or ptr r 0) (get_or ptr (r + 1) 0) (columns_of n p s r)

-- the region's tables: members before each word, and the members in rising order
pub record Tables (n : ℕ) (region ranks nodes : List ℕ) : Type 0 where
  pub mask : IsMask n region
  pub ranks_at : (w : ℕ) → w < words_needed n → get_or ranks w 0 ≡ count_below (64 * w) (in_mask region)
  pub ranks_long : words_needed n ≤ length ranks
  pub nodes_at : (k : ℕ) → k < count_below n (in_mask region) → get_or nodes k 0 ≡ member_at n (in_mask region) k
  pub nodes_long : count_below n (in_mask region) ≤ length nodes

-- a row's pairs fit from `first` on, and its sources from `at` on, of `most` in all
pub record RowRoom (columns : List ℕ) (entries : ℕ → List ℕ) (first at most : ℕ) (local_cols source_ptr sources : List ℕ) : Type 0 where
  pub pairs : first + length columns ≤ length local_cols
  pub pointers : first + length columns < length source_ptr
  pub within : at + length (join_below (length columns) entries) ≤ most
  pub inside : most ≤ length sources
  pub small : most ≤ entry_limit

-- every member whose row has a pair inside is marked
pub record Marked (n : ℕ) (region paired : List ℕ) (s : ℕ → ℕ → Bool) : Type 0 where
  pub mask : IsMask n paired
  pub none : (r : ℕ) → r < n → T (in_mask region r) → in_mask paired r ≡ false → count_below n (inside (in_mask region) s r) ≡ 0

-- 25, by the counts
unfoldable pub plan_room_for : Counts → ℕ → ℕ → ℕ → ℕ → ℕ → Check
plan_room_for c nodes pointers columns source_pointers sources =
    room_for c.members c.rows.pairs nodes pointers columns then must (ltb c.rows.pairs source_pointers) ListTooShort then must (leb c.rows.sources sources) ListTooShort

-- the lists reach the lengths that so many members, pairs and sources need
pub record ListsFit (m pairs terms : ℕ) (nodes ptr cols source_ptr sources : List ℕ) : Type 0 where
  pub members : m ≤ length nodes
  pub pointers : m < length ptr
  pub columns : pairs ≤ length cols
  pub source_pointers : pairs < length source_ptr
  pub entry_sources : terms ≤ length sources

-- within what accepted inputs can give
pub record Small (c : Counts) : Type 0 where
  pub few_members : c.members ≤ side_limit
  pub few_sources : c.rows.sources ≤ entry_limit
  pub sourced : c.rows.pairs ≤ c.rows.sources

-- direct where there are as many sources as pairs
abbrev pub plan_by_counts : Counts → AbtmLocalNumericPlanStats
plan_by_counts c =
    record {
      local_nodes = c.members;
      local_nnz = c.rows.pairs;
      source_terms = c.rows.sources;
      duplicate_source_terms = c.rows.sources - c.rows.pairs;
      direct_source_map = eqb c.rows.sources c.rows.pairs;
      plan_bytes = bytes_of_pattern c.members c.rows.pairs + 4 * (c.rows.pairs + 1) + 4 * c.rows.sources;
    }
