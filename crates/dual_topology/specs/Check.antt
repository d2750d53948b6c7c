-- The check of a topology: refusal 1 for each side, then 9. The faults come in the order rows, columns, agreement. Each side comes with its
-- own sizes and pair count, so that two can disagree.
use Rattle.std.specs.Prelude.{◌≡◌, Bool, true, cond, ◌&&◌, List, ℕ, eqb, Result, Ok, Err}
use Rattle.base.specs.declared.Refusal.TheVariants.{NotSquare}
use Rattle.base.specs.Checks.{Check, must, ◌then◌}
use Rattle.side.specs.Side.{side_holds}
use Rattle.side.specs.Check.{limit_check, fault_check, side_fault, IsSide}
use Rattle.side.specs.declared.Fault.{Fault}
use Rattle.agreement.specs.Agreement.{turned}

-- the first fault of two searches
unfoldable pub first_fault : Result Unit Fault → Result Unit Fault → Result Unit Fault
first_fault (Ok _) next = next
first_fault (Err f) next = Err f

-- the columns side has the shape of the rows side turned round, as many pairs, and exactly its pairs
unfoldable pub sides_agree : ℕ → ℕ → List ℕ → List ℕ → List ℕ → ℕ → ℕ → ℕ → List ℕ → List ℕ → List ℕ → ℕ → Bool
sides_agree nrows ncols ptr idx masks pairs nrows2 ncols2 ptr2 idx2 masks2 pairs2 =
    eqb nrows2 ncols && eqb ncols2 nrows && eqb pairs2 pairs && turned nrows ncols (side_holds ptr idx masks) (side_holds ptr2 idx2 masks2)

unfoldable pub topology_fault : ℕ → ℕ → List ℕ → List ℕ → List ℕ → ℕ → ℕ → ℕ → List ℕ → List ℕ → List ℕ → ℕ → Result Unit Fault
topology_fault nrows ncols ptr idx masks pairs nrows2 ncols2 ptr2 idx2 masks2 pairs2 =
    first_fault (side_fault nrows ncols ptr idx masks pairs)
    (first_fault (side_fault nrows2 ncols2 ptr2 idx2 masks2 pairs2)
    (cond (sides_agree nrows ncols ptr idx masks pairs nrows2 ncols2 ptr2 idx2 masks2 pairs2) (Ok tt) (Err Fault.Disagree)))

-- a topology: 1, 9
unfoldable pub topology_check : ℕ → ℕ → List ℕ → List ℕ → List ℕ → ℕ → ℕ → ℕ → List ℕ → List ℕ → List ℕ → ℕ → Check
topology_check nrows ncols ptr idx masks pairs nrows2 ncols2 ptr2 idx2 masks2 pairs2 =
    limit_check nrows ncols idx masks pairs
    then limit_check nrows2 ncols2 idx2 masks2 pairs2
    then fault_check (topology_fault nrows ncols ptr idx masks pairs nrows2 ncols2 ptr2 idx2 masks2 pairs2)

-- a topology that must be square: its own check, then 10
abbrev pub square_topology : Check → ℕ → ℕ → Check
square_topology topology nrows ncols = topology then must (eqb nrows ncols) NotSquare

-- an accepted topology: two sides, the second the first turned round
pub record IsTopology (nrows ncols : ℕ) (ptr idx masks ptr2 idx2 masks2 : List ℕ) : Type 0 where
  pub rows : IsSide nrows ncols ptr idx masks
  pub columns : IsSide ncols nrows ptr2 idx2 masks2
  pub flipped : turned nrows ncols (side_holds ptr idx masks) (side_holds ptr2 idx2 masks2) ≡ true
