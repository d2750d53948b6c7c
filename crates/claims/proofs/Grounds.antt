-- An accepted system is a ground for either kind of growths. Assumes nothing.
use mathlib.Core.Path.{◌≡◌}
use Rattle.std.specs.Prelude.{Ok}
use mathlib.Core.List.{List}
use Prim.Native.Nat.{◌≤◌}
use Rattle.base.specs.Checks.{side_limit}
use Rattle.base.proofs.Checks.{both-passed, length-passed}
use Rattle.mask.specs.Mask.{length_check}
use Rattle.dual_topology.proofs.Accepted.{accepted-topology}
use Rattle.growths.specs.Runs.{Growth, Ground, begun, run}
use Rattle.growths.proofs.Grounds.{Solid, plain-solid, field-solid, run-accepted}
use Rattle.claims.specs.Demand.{CutSystem, Accepts, Kind, topology_of, pairs_of}

module _ (S : CutSystem) (a : Accepts S) where
  pub side-small : S.side ≤ side_limit
  side-small =
      (accepted-topology S.side S.side S.row_word_ptr S.row_word_indices S.row_masks S.row_pairs S.side S.side S.column_word_ptr S.column_word_indices S.column_masks S.column_pairs a.row_bits a.column_bits a.topology
      ).topology.rows.shape.few_rows

  pub len_is : S.len ≡ S.side
  unfolding length_check
  len_is = length-passed _ _ (both-passed _ _ a.seeds).0

  pub solid : (k : Ground) → Kind S k → Solid S.side S.len k
  solid k Kind.plain = plain-solid (topology_of S) S.side S.len (pairs_of S) a.topology side-small len_is
  solid k (Kind.field kinds ids fields components offsets e) = field-solid (topology_of S) kinds ids fields components offsets S.side S.side S.len (pairs_of S) a.topology e side-small len_is

  pub seeds-accepted : (k : Ground) → Kind S k → (cs : List Growth) → length_check S.side S.len (run k (begun S.seeds) cs).seeds ≡ Ok tt
  seeds-accepted k kind cs = run-accepted S.side S.len k (solid k kind) S.seeds a.seeds cs
