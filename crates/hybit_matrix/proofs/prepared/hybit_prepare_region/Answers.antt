-- `hybit_matrix::prepared::hybit_prepare_region` meets its contract. Assumes nothing.
use mathlib.Core.Path.{ap, ◌∙◌}
use Rattle.hybit_matrix.specs.FlatPrepared.{flat_of_prepared}
use Rattle.hybit_matrix.proofs.prepared.hybit_prepare_region.Goals as goal

pub returns-clause-value : goal.returns-clause-value
returns-clause-value c = c.into.ensures ∙ ap flat_of_prepared (rw (c.matrix.ensures, c.layout.ensures, c.mask.ensures) at c.prepare_region.ensures.value)
