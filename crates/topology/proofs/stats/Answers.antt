-- `topology::stats` meets its contract. Assumes nothing.
use mathlib.Core.Path.{sym, ◌∙◌, refl}
use Prim.Native.Nat.{◌≤◌}
use native.Mathlib.Omega.{arith}
use Rattle.base.specs.Checks.{entry_limit}
use Rattle.base.proofs.Checks.{on-accepted}
use Rattle.side.specs.Views.{SoundSide}
use Rattle.topology.proofs.Bytes.{bytes-are}
use Rattle.topology.proofs.stats.Goals.{In_ok-validate}
use Rattle.topology.proofs.stats.Goals as goal

-- in this arm the side is accepted
side : (c : In_ok-validate) → SoundSide c.args.topology
side c = c.in_ok-validate.ensures.accepted

few : (c : In_ok-validate) → c.args.topology.structural_nnz ≤ entry_limit
few c = omega (arith, (side c).1, (side c).0.few_pairs)

pub overflow_cast-result : goal.overflow_cast-result
overflow_cast-result c = omega (arith, (side (goal.at.overflow_cast-result c).In_ok-validate).0.shape.few_rows)

pub overflow_cast-result-2 : goal.overflow_cast-result-2
overflow_cast-result-2 c = omega (arith, (side (goal.at.overflow_cast-result-2 c).In_ok-validate).0.few_cols)

pub overflow_cast-result-3 : goal.overflow_cast-result-3
overflow_cast-result-3 c = omega (arith, few (goal.at.overflow_cast-result-3 c).In_ok-validate)

pub overflow_cast-result-4 : goal.overflow_cast-result-4
overflow_cast-result-4 c = omega (arith, (side (goal.at.overflow_cast-result-4 c).In_ok-validate).0.shape.few_words)

pub metadata_bytes-requires : goal.metadata_bytes-requires
metadata_bytes-requires c = let m = (side (goal.at.metadata_bytes-requires c).In_ok-validate).0.shape in (m.few_rows, m.few_words)

pub returns : goal.returns
returns c = on-accepted _ _ _ _ (sym c.validate.ensures.value ∙ c.in_ok-validate.was) (rw (c.metadata_bytes.ensures ∙ bytes-are _ _ _ _ _ c.in_ok-validate.ensures.accepted.0.shape refl) refl)
