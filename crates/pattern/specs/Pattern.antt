-- extract_local_submatrix_pattern: the topology, 10, the mask, 25; the local system of a region. The region is a set p of nodes below n, the
-- topology a set s of pairs.
use Rattle.std.specs.Prelude.{Bool, false, cond, ◌&&◌, List, map, ℕ, ◌+◌, ◌*◌, eqb, leb, ltb, Float, pos, length, get_or}
use Rattle.std.specs.Prelude.{Result}
use Rattle.base.specs.Checks.{Check, answer}
use Rattle.base.specs.declared.Refusal.{Refusal}
use Rattle.base.specs.declared.Refusal.TheVariants.{ListTooShort}
use Rattle.std.specs.Float.{fin, binary64}
use Rattle.std.specs.Float.Ieee.{sub, of_bits}
use Rattle.base.specs.Checks.{must, ◌then◌, leaves}
use Rattle.base.specs.Lists.{list_from, join_below, over}
use Rattle.base.specs.Sets.{count_below, sum_over, members_below}
use Rattle.mask.specs.Mask.{in_mask, length_check}
use Rattle.side.specs.Side.{words_of_row}
use Rattle.dual_topology.specs.Check.{square_topology}
use Rattle.topology.specs.Statistics.{ratio}
use Rattle.pattern.specs.declared.AbtmLocalSubmatrixPatternStats.{AbtmLocalSubmatrixPatternStats}

-- ---- members

-- member number k of the region, in rising order
abbrev pub member_at : ℕ → (ℕ → Bool) → ℕ → ℕ
member_at n p k = get_or (members_below n p) k 0

-- the number of a member: how many come before it
abbrev pub number_of : (ℕ → Bool) → ℕ → ℕ
number_of p c = count_below c p

-- ---- the stored pairs with both ends inside

-- row r is paired with column c, which is inside
abbrev pub inside : (ℕ → Bool) → (ℕ → ℕ → Bool) → ℕ → ℕ → Bool
inside p s r c = p c && s r c

-- the columns of row r that are inside, each once, rising
abbrev pub columns_of : ℕ → (ℕ → Bool) → (ℕ → ℕ → Bool) → ℕ → List ℕ
columns_of n p s r = members_below n (inside p s r)

-- local row k: the columns of member k, each by its number
unfoldable pub local_row : ℕ → (ℕ → Bool) → (ℕ → ℕ → Bool) → ℕ → List ℕ
local_row n p s k = map (number_of p) (columns_of n p s (member_at n p k))

-- by row, then by rising column
unfoldable pub pattern_columns : ℕ → (ℕ → Bool) → (ℕ → ℕ → Bool) → List ℕ
pattern_columns n p s = join_below (count_below n p) (local_row n p s)

-- where each local row starts, and where the last ends
unfoldable pub pattern_ptr : ℕ → (ℕ → Bool) → (ℕ → ℕ → Bool) → List ℕ
pattern_ptr n p s = list_from (λ k. length (join_below k (local_row n p s))) (count_below n p + 1) 0

-- how many there are
unfoldable pub pairs_inside : ℕ → (ℕ → Bool) → (ℕ → ℕ → Bool) → ℕ
pairs_inside n p s = sum_over n p (λ r. count_below n (inside p s r))

-- ---- the call

-- 25: exact counts are needed lengths
unfoldable pub pattern_room : ℕ → (ℕ → Bool) → (ℕ → ℕ → Bool) → List ℕ → List ℕ → List ℕ → Check
pattern_room n p s nodes ptr cols =
    must (leb (count_below n p) (length nodes)) ListTooShort
    then must (ltb (count_below n p) (length ptr)) ListTooShort
    then must (leb (pairs_inside n p s) (length cols)) ListTooShort

-- the topology, 10, the mask
unfoldable pub region_check : Check → ℕ → ℕ → ℕ → List ℕ → Check
region_check topology nrows ncols len words = square_topology topology nrows ncols then length_check nrows len words

unfoldable pub pattern_check : Check → ℕ → ℕ → ℕ → List ℕ → (ℕ → ℕ → Bool) → List ℕ → List ℕ → List ℕ → Check
pattern_check topology nrows ncols len words s nodes ptr cols =
    region_check topology nrows ncols len words then pattern_room nrows (in_mask words) s nodes ptr cols

-- four bytes for each member, pointer and column
abbrev pub bytes_of_pattern : ℕ → ℕ → ℕ
bytes_of_pattern members pairs = 4 * members + 4 * (members + 1) + 4 * pairs

-- words and candidate bits are summed over the members' rows; by the Rust's formulas the map of all nodes takes four bytes for each
abbrev pub stats_of_pattern : ℕ → (ℕ → Bool) → (ℕ → ℕ → Bool) → AbtmLocalSubmatrixPatternStats
stats_of_pattern n p s =
    record {
      global_nodes = n;
      local_nodes = count_below n p;
      local_nnz = pairs_inside n p s;
      topology_words_visited = sum_over n p (λ r. length (words_of_row n (s r)));
      candidate_neighbor_bits = sum_over n p (λ r. count_below n (s r));
      kept_neighbor_bits = pairs_inside n p s;
      mapping_scratch_bytes = 4 * n;
      pattern_bytes = bytes_of_pattern (count_below n p) (pairs_inside n p s);
    }

abbrev pub pattern_answer : Check → ℕ → (ℕ → Bool) → (ℕ → ℕ → Bool) → Result AbtmLocalSubmatrixPatternStats Refusal
pattern_answer check n p s = answer check (stats_of_pattern n p s)

-- the members
abbrev pub nodes_left : Check → ℕ → (ℕ → Bool) → List ℕ → List ℕ
nodes_left check n p out = leaves check (over (members_below n p) out) out

abbrev pub ptr_left : Check → ℕ → (ℕ → Bool) → (ℕ → ℕ → Bool) → List ℕ → List ℕ
ptr_left check n p s out = leaves check (over (pattern_ptr n p s) out) out

abbrev pub columns_left : Check → ℕ → (ℕ → Bool) → (ℕ → ℕ → Bool) → List ℕ → List ℕ
columns_left check n p s out = leaves check (over (pattern_columns n p s) out) out

-- ---- two ratios of the statistics

-- 1.0
abbrev pub one : Float
one = fin false 1 (pos 0)

-- the part of the candidate bits that is not kept, 0.0 where there is none
abbrev pub pruning_ratio : AbtmLocalSubmatrixPatternStats → Float
pruning_ratio s =
    cond (eqb s.candidate_neighbor_bits 0) (of_bits binary64 0)
    (sub binary64 one (ratio s.kept_neighbor_bits s.candidate_neighbor_bits))

abbrev pub average_row_nnz : AbtmLocalSubmatrixPatternStats → Float
average_row_nnz s = ratio s.local_nnz s.local_nodes
