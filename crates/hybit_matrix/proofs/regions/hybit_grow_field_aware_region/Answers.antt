-- `hybit_matrix::regions::hybit_grow_field_aware_region` meets its contract. Assumes nothing.
use mathlib.Core.Path.{ap, ◌∙◌}
use Rattle.hybit_matrix.specs.FlatRegions.{flat_of_field_grown}
use Rattle.hybit_matrix.proofs.regions.hybit_grow_field_aware_region.Goals as goal

pub returns-clause-value : goal.returns-clause-value
returns-clause-value c = c.into.ensures ∙ ap flat_of_field_grown (rw (c.topology.ensures, c.layout.ensures, c.mask.ensures) at c.grow_field_aware_region.ensures.value)
