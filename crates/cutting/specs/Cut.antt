-- What is cut out of a matrix under a layout's blocks: the grown region, and the entries of each pair inside it.
use Rattle.std.specs.Prelude.{Bool, List, ℕ}
use Rattle.csr32.specs.Matrix.{stored}
use Rattle.mask.specs.Mask.{in_mask}
use Rattle.graph.specs.Network.{Network, field_network, region_words}
use Rattle.numeric_plan.specs.Plan.{pair_entries}

-- the matrix's pairs under the layout's blocks
abbrev pub network_of : List ℕ → List ℕ → List ℕ → Network
network_of ptr cols components = field_network components (stored ptr cols)

-- the nodes of the grown region
abbrev pub region_of : List ℕ → List ℕ → List ℕ → List ℕ → ℕ → ℕ → Bool
region_of ptr cols components seeds h = in_mask (region_words (network_of ptr cols components) seeds h)

-- the entries of each pair inside a region p
abbrev pub lists_of : ℕ → (ℕ → Bool) → List ℕ → List ℕ → List (List ℕ)
lists_of n p ptr cols = pair_entries n p (stored ptr cols) ptr cols
