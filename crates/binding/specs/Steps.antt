-- What the steps of the check hand on to one another; no caller of the API needs it.
use Rattle.std.specs.Prelude.{◌≡◌, Option, Some, Bool, ◌&&◌, List, ℕ, ◌+◌, ◌-◌, ◌/◌, ◌%◌, ◌≤◌, ◌<◌, ltb, length, get_or}
use Rattle.std.specs.Int.Bits.{bit_and}
use Rattle.std.proofs.Math.Seq.{slice}
use Rattle.base.specs.Checks.{entry_limit}
use Rattle.base.specs.Lists.{is_in}
use Rattle.base.specs.Sets.{count_below, sum_over}
use Rattle.word.specs.Bits.{bit_at, word_of}
use Rattle.csr32.specs.Matrix.{stored}
use Rattle.pattern.specs.Pattern.{inside, pairs_inside}
use Rattle.binding.specs.declared.Run.{Run}
use Rattle.binding.specs.declared.RowCounts.{RowCounts}
use Rattle.binding.specs.declared.Counts.{Counts}

-- from..to are entries, and each entry's column is a node
pub record Entries (n : ℕ) (cols : List ℕ) (from to : ℕ) : Type 0 where
  pub few : length cols ≤ entry_limit
  pub up : from ≤ to
  pub within : to ≤ length cols
  pub inside : (e : ℕ) → e < length cols → get_or cols e 0 < n

-- the entries from `from` to where the run ends lie in the word, its bits are theirs, and of both those that are inside are counted
pub record RunOf (cols : List ℕ) (from to word inside : ℕ) (r : Run) : Type 0 where
  pub since : from ≤ r.end
  pub within : r.end ≤ to
  pub bits : r.bits ≡ word_of (λ c. is_in c (slice from r.end cols)) word
  pub here : (e : ℕ) → from ≤ e → e < r.end → get_or cols e 0 / 64 ≡ word
  pub pairs : r.pairs ≡ count_below 64 (bit_at (bit_and r.bits inside))
  pub sources : r.sources ≡ count_below (r.end - from) (λ j. bit_at inside (get_or cols (from + j) 0 % 64))

-- how many entries of row r have their column inside
abbrev pub row_sources : (ℕ → Bool) → List ℕ → List ℕ → ℕ → ℕ
row_sources p ptr cols r = count_below (get_or ptr (r + 1) 0 - get_or ptr r 0) (λ j. p (get_or cols (get_or ptr r 0 + j) 0))

-- how many entries of the members' rows have their column inside
abbrev pub sources_inside : ℕ → (ℕ → Bool) → List ℕ → List ℕ → ℕ
sources_inside n p ptr cols = sum_over n p (λ r. row_sources p ptr cols r)

-- row r's pairs and entries inside
abbrev pub row_counts : ℕ → (ℕ → Bool) → (ℕ → ℕ → Bool) → List ℕ → List ℕ → ℕ → RowCounts
row_counts n p s ptr cols r = record { pairs = count_below n (inside p s r); sources = row_sources p ptr cols r }

-- two together
abbrev pub together : RowCounts → RowCounts → RowCounts
together a b = record { pairs = a.pairs + b.pairs; sources = a.sources + b.sources }

-- within what an accepted topology and matrix can give
pub record Few (c : RowCounts) : Type 0 where
  pub few_pairs : c.pairs ≤ entry_limit
  pub few_sources : c.sources ≤ entry_limit

-- what is said of a row whose words are its entries: its pairs are they, and what is inside is counted; none says nothing
abbrev pub Followed : ℕ → (ℕ → Bool) → (ℕ → ℕ → Bool) → List ℕ → List ℕ → ℕ → Option RowCounts → Type 0
Followed n p s ptr cols r k = (counts : RowCounts) → k ≡ Some counts → ((c : ℕ) → c < n → s r c ≡ stored ptr cols r c) × (counts ≡ row_counts n p s ptr cols r)

-- member r's row has a pair inside
abbrev pub has_pair : ℕ → (ℕ → Bool) → (ℕ → ℕ → Bool) → ℕ → Bool
has_pair n p s r = p r && ltb 0 (count_below n (inside p s r))

-- all members', and how many members there are
abbrev pub counts_of : ℕ → (ℕ → Bool) → (ℕ → ℕ → Bool) → List ℕ → List ℕ → Counts
counts_of n p s ptr cols = record { members = count_below n p; rows = record { pairs = pairs_inside n p s; sources = sources_inside n p ptr cols } }
