-- What is grown and cut, of a matrix with the graph of its pairs under a layout, and of seeds among its nodes.
use Rattle.std.specs.Prelude.{Bool, List, ℕ}
use Rattle.mask.specs.declared.inner.Mask.{Mask}
use Rattle.graph.specs.Network.{Network}
use Rattle.cutting.specs.declared.inner.Prepared.{Prepared}
use Rattle.cutting.specs.Cut.{network_of, region_of, lists_of}

-- its pairs under the layout's blocks
abbrev pub network : Prepared → Network
network p = network_of p.matrix.row_ptr.now p.matrix.col_idx.now p.fields.layout.components.now

-- the nodes of the grown region
abbrev pub grown : Prepared → Mask → ℕ → ℕ → Bool
grown p s h = region_of p.matrix.row_ptr.now p.matrix.col_idx.now p.fields.layout.components.now s.words.now h

-- the entries of each pair inside it
abbrev pub lists : Prepared → Mask → ℕ → List (List ℕ)
lists p s h = lists_of p.fields.graph.n (grown p s h) p.matrix.row_ptr.now p.matrix.col_idx.now
