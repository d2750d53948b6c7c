-- A side's statistics: counts and bytes by the Rust's formulas, and three ratios by IEEE 754 division of whole numbers.
use Rattle.std.specs.Prelude.{cond, List, ℕ, ◌+◌, ◌*◌, eqb, Float, pos, length}
use Rattle.std.specs.Float.{binary64}
use Rattle.std.specs.Float.Ieee.{div, of_int, of_bits}
use Rattle.topology.specs.declared.AbtmTopologyStats.{AbtmTopologyStats}

-- four bytes for each pointer and each word's number, eight for each mask
abbrev pub bytes_of : List ℕ → List ℕ → List ℕ → ℕ
bytes_of ptr idx masks = 4 * length ptr + 4 * length idx + 8 * length masks

-- the same by the counts of its rows and words: one pointer more than rows, a number and a mask for each word
abbrev pub bytes_counted : ℕ → ℕ → ℕ
bytes_counted nrows words = 4 * (nrows + 1) + 4 * words + 8 * words

abbrev pub stats_of : ℕ → ℕ → List ℕ → List ℕ → List ℕ → ℕ → AbtmTopologyStats
stats_of nrows ncols ptr idx masks pairs =
    record { nrows = nrows; ncols = ncols; structural_nnz = pairs; nonempty_words = length masks; metadata_bytes = bytes_of ptr idx masks }

-- a over b as f64 numbers, 0.0 where b is 0
unfoldable pub ratio : ℕ → ℕ → Float
ratio a b = cond (eqb b 0) (of_bits binary64 0) (div binary64 (of_int binary64 (pos a)) (of_int binary64 (pos b)))

-- pairs in a stored word on average
abbrev pub average_nnz_of_word : AbtmTopologyStats → Float
average_nnz_of_word s = ratio s.structural_nnz s.nonempty_words

-- the part of a stored word's 64 bits that is set, on average
abbrev pub fill_ratio_of_words : AbtmTopologyStats → Float
fill_ratio_of_words s = div binary64 (average_nnz_of_word s) (of_int binary64 (pos 64))

abbrev pub bytes_per_nnz : AbtmTopologyStats → Float
bytes_per_nnz s = ratio s.metadata_bytes s.structural_nnz
