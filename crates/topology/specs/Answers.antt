-- What the calls on one side answer, and what they leave in the lists that they are lent.
use Rattle.std.specs.Prelude.{Bool, List, ℕ, ◌+◌, eqb, Float, length}
use Rattle.std.specs.Prelude.{Result}
use Rattle.base.specs.Checks.{Check, answer}
use Rattle.base.specs.declared.Refusal.{Refusal}
use Rattle.base.specs.declared.Refusal.TheVariants.{SidesDiffer}
use Rattle.base.specs.Checks.{must, ◌then◌}
use Rattle.csr32.specs.Matrix.{matrix_check}
use Rattle.side.specs.Side.{side_counts}
use Rattle.side.specs.Check.{side_check, side_room}
use Rattle.topology.specs.Statistics.{stats_of}
use Rattle.side.specs.declared.SideCounts.{SideCounts}
use Rattle.topology.specs.declared.AbtmTopologyStats.{AbtmTopologyStats}

-- ---- stats: the side; its statistics

abbrev pub stats_answer : ℕ → ℕ → List ℕ → List ℕ → List ℕ → ℕ → Result AbtmTopologyStats Refusal
stats_answer nrows ncols ptr idx masks pairs = answer (side_check nrows ncols ptr idx masks pairs) (stats_of nrows ncols ptr idx masks pairs)

-- ---- building a side: its counts, and by side.specs.Built its three lists

abbrev pub built_answer : Check → ℕ → ℕ → (ℕ → ℕ → Bool) → Result SideCounts Refusal
built_answer check nrows ncols s = answer check (side_counts nrows ncols s)

-- from_csr32: the matrix, 25
unfoldable pub build_check : ℕ → ℕ → List ℕ → List ℕ → List Float → List ℕ → List ℕ → List ℕ → Check
build_check nrows ncols ptr cols values optr oidx omasks =
    matrix_check nrows ncols ptr cols values then side_room nrows (length cols) (length optr) (length oidx) (length omasks)

-- the set operations: the first side, the second, 22 where the sizes differ, 25; as many words as both have together
unfoldable pub sets_check : ℕ → ℕ → List ℕ → List ℕ → List ℕ → ℕ → ℕ → ℕ → List ℕ → List ℕ → List ℕ → ℕ → List ℕ → List ℕ → List ℕ → Check
sets_check nrows ncols ptr idx masks pairs nrows2 ncols2 ptr2 idx2 masks2 pairs2 optr oidx omasks =
    side_check nrows ncols ptr idx masks pairs
    then side_check nrows2 ncols2 ptr2 idx2 masks2 pairs2
    then must (eqb nrows2 nrows) SidesDiffer
    then must (eqb ncols2 ncols) SidesDiffer
    then side_room nrows (length masks + length masks2) (length optr) (length oidx) (length omasks)
