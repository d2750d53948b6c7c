-- `binding::inner::System::counts` meets its contract. Assumes nothing.
use Rattle.std.proofs.Common.{ap₂, ℕ}
use Rattle.pattern.specs.declared.RegionKept.{RegionKept}
use Rattle.binding.specs.declared.Counts.{Counts}
use Rattle.binding.proofs.inner.System.counts.Goals as goal

pub returns : goal.returns
returns c = ap₂ {C = Counts} (λ (k : RegionKept) (t : ℕ). record { members = k.members; rows = record { pairs = k.rows.kept; sources = t } }) c.requires c.count_sources.ensures
