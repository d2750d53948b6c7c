-- `hybit_matrix::regions::hybit_grow_undirected_region` meets its contract. Assumes nothing.
use mathlib.Core.Path.{ap, ◌∙◌}
use Rattle.hybit_matrix.specs.FlatRegions.{flat_of_grown}
use Rattle.hybit_matrix.proofs.regions.hybit_grow_undirected_region.Goals as goal

pub returns-clause-value : goal.returns-clause-value
returns-clause-value c = c.into.ensures ∙ ap flat_of_grown (rw (c.topology.ensures, c.mask.ensures) at c.grow_undirected_region.ensures.value)
