-- What is said of one row: its entries inside a region, and its pairs.
use Rattle.std.specs.Prelude.{List, ℕ, get_or}
use Rattle.mask.specs.Views.{nodes}
use Rattle.sources.specs.Steps.{pair_at, columns_in, entries_at, inside_in}
use Rattle.sources.specs.Slots.{PairOf}
use Rattle.sources.specs.declared.inner.Row.{Row}
use Rattle.sources.specs.declared.inner.RowSources.{RowSources}
use Rattle.sources.specs.declared.inner.Pairs.{Pairs}

-- the entries inside, in stored order
abbrev pub inside : RowSources → List ℕ
inside t = inside_in (nodes t.ranked.local.region) t.row.col_idx.now t.row.start t.row.end

-- their columns, each once, rising
abbrev pub columns : RowSources → List ℕ
columns t = columns_in t.ranked.local.region.len (nodes t.ranked.local.region) t.row.col_idx.now t.row.start t.row.end

-- the entries of column j
abbrev pub entries : RowSources → ℕ → List ℕ
entries t = entries_at t.row.col_idx.now t.row.start t.row.end (columns t)

-- source i's column
abbrev pub column : RowSources → ℕ → ℕ
column t i = get_or t.row.col_idx.now (get_or t.sources.now i 0) 0

-- the row's entries of pair j
abbrev pub entries_of_pair : Pairs → Row → ℕ → List ℕ
entries_of_pair p row = pair_at row.col_idx.now row.start row.end p.nodes.now p.local_cols.now p.first

-- the pair of a column, or `last` where there is none
abbrev pub FoundPair : Pairs → ℕ → ℕ → Type 0
FoundPair p c q = PairOf p.nodes.now p.local_cols.now p.first p.last c q
