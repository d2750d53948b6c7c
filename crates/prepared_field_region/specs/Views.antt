-- The checks of a matrix, a layout and seeds that are lent, and what is prepared of them.
use Rattle.std.specs.Prelude.{Bool, List, ℕ, length}
use Rattle.base.specs.Checks.{Check}
use Rattle.csr32.specs.declared.Csr32Matrix.{Csr32Matrix}
use Rattle.csr32.specs.Views.{check_matrix, AcceptedFrom as AcceptedMatrix}
use Rattle.mask.specs.declared.DofMask.{DofMask}
use Rattle.mask.specs.Views.{AcceptedFrom as AcceptedMask}
use Rattle.dof_layout.specs.declared.FieldAwareDofLayout.{FieldAwareDofLayout}
use Rattle.dof_layout.specs.Views.{check_square, AcceptedFrom as AcceptedLayout}
use Rattle.graph.specs.Network.{Network}
use Rattle.field_region.specs.Views.{check_owning}
use Rattle.cutting.specs.Cut.{network_of, region_of, lists_of}
use Rattle.prepared_field_region.specs.declared.inner.Inputs.{Inputs}
use Rattle.prepared_field_region.specs.Prepared.{prepare_room, prepare_inputs, prepare_check, block_owners_check, prepared_of}
use Rattle.prepared_field_region.specs.declared.PreparedFieldAwareLocalRegion.{PreparedFieldAwareLocalRegion}

-- the matrix, the layout with 18, the mask
abbrev pub check_lent : Csr32Matrix → FieldAwareDofLayout → DofMask → Check
check_lent m l s = prepare_inputs (check_matrix m) (check_square l m.nrows m.ncols) m.nrows s.len s.words.now

-- then 25, with the lists as they are lent
abbrev pub check_prepare : Csr32Matrix → FieldAwareDofLayout → DofMask → List ℕ → List ℕ → List ℕ → List ℕ → List ℕ → List ℕ → List ℕ → List ℕ → List ℕ → List ℕ → List ℕ → List ℕ → List ℕ → List ℕ → List ℕ → List ℕ → Check
check_prepare m l s rptr ridx rmasks cptr cidx cmasks starts order region frontier scratch nodes pointers columns source_pointers sources =
    prepare_check (check_lent m l s)
    (prepare_room m.nrows m.ncols (length m.col_idx.now) (length rptr) (length ridx) (length rmasks) (length cptr) (length cidx) (length cmasks) (length starts) (length order) (length region) (length frontier) (length scratch) (length nodes) (length pointers) (length columns) (length source_pointers) (length sources))

-- the matrix, the layout with 18, then the whole check of field_block_owners
abbrev pub check_block_owners : Csr32Matrix → FieldAwareDofLayout → List ℕ → ℕ → List ℕ → Check
check_block_owners m l owners ranks out = block_owners_check (check_matrix m) (check_square l m.nrows m.ncols) (check_owning l owners ranks out)

-- ---- what a region is prepared from, and what is prepared

abbrev pub network : Csr32Matrix → FieldAwareDofLayout → Network
network m l = network_of m.row_ptr.now m.col_idx.now l.blocks.components.now

abbrev pub grown : Csr32Matrix → FieldAwareDofLayout → DofMask → ℕ → ℕ → Bool
grown m l s h = region_of m.row_ptr.now m.col_idx.now l.blocks.components.now s.words.now h

abbrev pub lists : Csr32Matrix → FieldAwareDofLayout → DofMask → ℕ → List (List ℕ)
lists m l s h = lists_of m.nrows (grown m l s h) m.row_ptr.now m.col_idx.now

abbrev pub prepared : Csr32Matrix → FieldAwareDofLayout → DofMask → ℕ → PreparedFieldAwareLocalRegion
prepared m l s h = prepared_of m.nrows m.ncols m.row_ptr.now m.col_idx.now l.blocks.components.now s.words.now h

-- the three as they were accepted, with a mask of the nodes
abbrev pub AcceptedFrom : Csr32Matrix → FieldAwareDofLayout → DofMask → Inputs → Type 0
AcceptedFrom m l s i = AcceptedMatrix m i.matrix × AcceptedLayout l i.layout × AcceptedMask s i.seeds

-- the same of the three as they were accepted
abbrev pub own_network : Inputs → Network
own_network i = network_of i.matrix.row_ptr.now i.matrix.col_idx.now i.layout.components.now

abbrev pub own_grown : Inputs → ℕ → ℕ → Bool
own_grown i h = region_of i.matrix.row_ptr.now i.matrix.col_idx.now i.layout.components.now i.seeds.words.now h

abbrev pub own_lists : Inputs → ℕ → List (List ℕ)
own_lists i h = lists_of i.matrix.nrows (own_grown i h) i.matrix.row_ptr.now i.matrix.col_idx.now

abbrev pub own_prepared : Inputs → ℕ → PreparedFieldAwareLocalRegion
own_prepared i h = prepared_of i.matrix.nrows i.matrix.ncols i.matrix.row_ptr.now i.matrix.col_idx.now i.layout.components.now i.seeds.words.now h
