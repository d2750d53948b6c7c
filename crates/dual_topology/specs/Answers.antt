-- What the calls on a topology answer, and what they leave in the lists that they are lent. A topology is the set of pairs that its rows side
-- holds; row k of its columns is that set turned round.
use Rattle.std.specs.Prelude.{Bool, ◌&&◌, List, ℕ, ◌+◌, leb, ltb, Float, length, replicate}
use Rattle.std.specs.Prelude.{Result, Option}
use Rattle.base.specs.Checks.{Check, answer}
use Rattle.base.specs.declared.Refusal.{Refusal}
use Rattle.base.specs.declared.Refusal.TheVariants.{OutOfRange, ListTooShort}
use Rattle.base.specs.Checks.{must, ◌then◌, leaves}
use Rattle.base.specs.Lists.{over}
use Rattle.base.specs.Sets.{count_below, members_below}
use Rattle.word.specs.Answers.{entry}
use Rattle.csr32.specs.Matrix.{matrix_check, stored}
use Rattle.side.specs.Side.{flip, words_of_row, side_words, pair_count, word_at}
use Rattle.side.specs.Check.{side_room}
use Rattle.topology.specs.Statistics.{bytes_of, bytes_counted, ratio}
use Rattle.dual_topology.specs.declared.TopologyCounts.{TopologyCounts}
use Rattle.dual_topology.specs.declared.AbtmDualTopologyStats.{AbtmDualTopologyStats}
use Rattle.dual_topology.specs.declared.RowOf.{RowOf}
use Rattle.word.specs.declared.AbtmTopologyWord.{AbtmTopologyWord}

-- ---- from_csr32: the matrix, 25; both sides, the counts, scratch zero

-- 25: what the lists of both sides and the two of scratch need, against the lengths that they have
abbrev pub build_room : ℕ → ℕ → ℕ → ℕ → ℕ → ℕ → ℕ → ℕ → ℕ → ℕ → ℕ → Check
build_room nrows ncols entries rptr ridx rmasks cptr cidx cmasks starts order =
    side_room nrows entries rptr ridx rmasks
    then side_room ncols entries cptr cidx cmasks
    then must (ltb ncols starts) ListTooShort
    then must (leb entries order) ListTooShort

unfoldable pub build_check : ℕ → ℕ → List ℕ → List ℕ → List Float → List ℕ → List ℕ → List ℕ → List ℕ → List ℕ → List ℕ → List ℕ → List ℕ → Check
build_check nrows ncols ptr cols values rptr ridx rmasks cptr cidx cmasks starts order =
    matrix_check nrows ncols ptr cols values
    then build_room nrows ncols (length cols) (length rptr) (length ridx) (length rmasks) (length cptr) (length cidx) (length cmasks) (length starts) (length order)

abbrev pub counts_of : ℕ → ℕ → (ℕ → ℕ → Bool) → TopologyCounts
counts_of nrows ncols s =
    record { row_words = length (side_words nrows ncols s); column_words = length (side_words ncols nrows (flip s)); pairs = pair_count nrows ncols s }

abbrev pub build_answer : Check → ℕ → ℕ → List ℕ → List ℕ → Result TopologyCounts Refusal
build_answer check nrows ncols ptr cols = answer check (counts_of nrows ncols (stored ptr cols))

-- the needed part of a scratch list is zero
abbrev pub scratch : Check → ℕ → List ℕ → List ℕ
scratch check needed out = leaves check (over (replicate needed 0) out) out

-- ---- stats: the topology; bytes of both sides

abbrev pub stats_of : ℕ → ℕ → List ℕ → List ℕ → List ℕ → ℕ → List ℕ → List ℕ → List ℕ → AbtmDualTopologyStats
stats_of nrows ncols ptr idx masks pairs ptr2 idx2 masks2 =
    record { nrows = nrows; ncols = ncols; structural_nnz = pairs; row_metadata_bytes = bytes_of ptr idx masks; column_metadata_bytes = bytes_of ptr2 idx2 masks2 }

-- the same of a built topology, by its counts
abbrev pub counted_stats : ℕ → ℕ → TopologyCounts → AbtmDualTopologyStats
counted_stats nrows ncols counts =
    record {
      nrows = nrows;
      ncols = ncols;
      structural_nnz = counts.pairs;
      row_metadata_bytes = bytes_counted nrows counts.row_words;
      column_metadata_bytes = bytes_counted ncols counts.column_words;
    }

abbrev pub stats_answer : Check → AbtmDualTopologyStats → Result AbtmDualTopologyStats Refusal
stats_answer check stats = answer check stats

abbrev pub total_bytes : AbtmDualTopologyStats → ℕ
total_bytes s = s.row_metadata_bytes + s.column_metadata_bytes

abbrev pub bytes_per_nnz : AbtmDualTopologyStats → Float
bytes_per_nnz s = ratio (total_bytes s) s.structural_nnz

-- ---- rows: a row is named by topology, side and number

-- how many rows the side has, and how many columns a row of it
abbrev pub rows_of : RowOf → ℕ → ℕ → ℕ
rows_of RowOf.Rows nrows ncols = nrows
rows_of RowOf.Columns nrows ncols = ncols

abbrev pub width_of : RowOf → ℕ → ℕ → ℕ
width_of RowOf.Rows nrows ncols = ncols
width_of RowOf.Columns nrows ncols = nrows

-- the columns of row k: those paired with it, or, of the columns side, the rows paired with column k
abbrev pub row_set : RowOf → (ℕ → ℕ → Bool) → ℕ → ℕ → Bool
row_set RowOf.Rows s k = s k
row_set RowOf.Columns s k = flip s k

-- the topology, then 13
unfoldable pub row_check : Check → ℕ → ℕ → Check
row_check topology k rows = topology then must (ltb k rows) OutOfRange

abbrev pub row_words_answer : Check → ℕ → (ℕ → Bool) → Result ℕ Refusal
row_words_answer check width set = answer check (length (words_of_row width set))

abbrev pub row_popcount_answer : Check → ℕ → (ℕ → Bool) → Result ℕ Refusal
row_popcount_answer check width set = answer check (count_below width set)

-- past the end: no
abbrev pub row_contains_answer : Check → ℕ → (ℕ → Bool) → ℕ → Result Bool Refusal
row_contains_answer check width set col = answer check (ltb col width && set col)

-- past the end: 13
abbrev pub row_rank_answer : Check → ℕ → (ℕ → Bool) → ℕ → Result ℕ Refusal
row_rank_answer check width set col = answer (check then must (leb col width) OutOfRange) (count_below col set)

-- past the last: none
abbrev pub row_select_answer : Check → ℕ → (ℕ → Bool) → ℕ → Result (Option ℕ) Refusal
row_select_answer check width set ordinal = answer check (entry (members_below width set) ordinal)

abbrev pub row_word_answer : Check → ℕ → (ℕ → Bool) → ℕ → Result (Option AbtmTopologyWord) Refusal
row_word_answer check width set k = answer check (word_at width set k)
