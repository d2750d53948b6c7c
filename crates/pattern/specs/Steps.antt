-- What the steps of a pattern hand on to one another; no caller of the API needs it.
use Rattle.std.specs.Prelude.{Bool, List, ℕ, ◌+◌, ◌*◌, ◌≤◌, leb, ltb, length}
use Rattle.base.specs.Checks.{Check}
use Rattle.base.specs.declared.Refusal.TheVariants.{ListTooShort}
use Rattle.base.specs.Checks.{must, ◌then◌, side_limit, entry_limit}
use Rattle.base.specs.Lists.{list_from}
use Rattle.base.specs.Sets.{count_below, sum_over}
use Rattle.mask.specs.Mask.{words_needed}
use Rattle.side.specs.Side.{words_of_row}
use Rattle.pattern.specs.Pattern.{inside, pairs_inside, bytes_of_pattern}
use Rattle.pattern.specs.declared.RowKept.{RowKept}
use Rattle.pattern.specs.declared.RegionKept.{RegionKept}
use Rattle.pattern.specs.declared.AbtmLocalSubmatrixPatternStats.{AbtmLocalSubmatrixPatternStats}

abbrev pub kept_of_row : ℕ → (ℕ → Bool) → (ℕ → ℕ → Bool) → ℕ → RowKept
kept_of_row n p s r = record { words = length (words_of_row n (s r)); candidates = count_below n (s r); kept = count_below n (inside p s r) }

-- two together
abbrev pub together : RowKept → RowKept → RowKept
together a b = record { words = a.words + b.words; candidates = a.candidates + b.candidates; kept = a.kept + b.kept }

abbrev pub region_kept : ℕ → (ℕ → Bool) → (ℕ → ℕ → Bool) → RegionKept
region_kept n p s =
    record {
      members = count_below n p;
      rows = record { words = sum_over n p (λ r. length (words_of_row n (s r))); candidates = sum_over n p (λ r. count_below n (s r)); kept = pairs_inside n p s };
    }

-- 25, by the counts
unfoldable pub room_for : ℕ → ℕ → ℕ → ℕ → ℕ → Check
room_for members kept nodes pointers columns =
    must (leb members nodes) ListTooShort then must (ltb members pointers) ListTooShort then must (leb kept columns) ListTooShort

-- how many members come before each word
abbrev pub ranks_of : ℕ → (ℕ → Bool) → List ℕ
ranks_of n p = list_from (λ w. count_below (64 * w) p) (words_needed n) 0

-- within what an accepted topology can give
pub record Few (k : RowKept) : Type 0 where
  pub few_words : k.words ≤ entry_limit
  pub few_candidates : k.candidates ≤ entry_limit
  pub few_kept : k.kept ≤ entry_limit

pub record Small (c : RegionKept) : Type 0 where
  pub few_members : c.members ≤ side_limit
  pub rows : Few c.rows

abbrev pub stats_by_counts : ℕ → RegionKept → AbtmLocalSubmatrixPatternStats
stats_by_counts n c =
    record {
      global_nodes = n;
      local_nodes = c.members;
      local_nnz = c.rows.kept;
      topology_words_visited = c.rows.words;
      candidate_neighbor_bits = c.rows.candidates;
      kept_neighbor_bits = c.rows.kept;
      mapping_scratch_bytes = 4 * n;
      pattern_bytes = bytes_of_pattern c.members c.rows.kept;
    }
