-- `prepared_field_region::inner::Inputs::built` meets its contract. Assumes nothing.
use Rattle.std.proofs.Common.{◌≡◌, ◌+◌, subst, ℕ}
use lib.ListN.{take}
use Rattle.csr32.specs.Matrix.{stored, IsMatrix}
use Rattle.side.specs.Side.{side_holds}
use Rattle.dual_topology.specs.Check.{IsTopology}
use Rattle.prepared_field_region.proofs.Built.{parts_are}
use Rattle.prepared_field_region.proofs.inner.Inputs.built.Goals.{Start}
use Rattle.prepared_field_region.proofs.inner.Inputs.built.Goals as goal

-- the parts are a topology of exactly the matrix's pairs
module _ (c : Start) where
  whole : IsTopology c.args.self.matrix.nrows c.args.self.matrix.nrows (take (c.args.self.matrix.nrows + 1) c.args.row_word_ptr.now) (take c.args.counts.row_words c.args.row_word_indices.now) (take c.args.counts.row_words c.args.row_masks.now)
      (take (c.args.self.matrix.ncols + 1) c.args.column_word_ptr.now) (take c.args.counts.column_words c.args.column_word_indices.now) (take c.args.counts.column_words c.args.column_masks.now)
      × (side_holds (take (c.args.self.matrix.nrows + 1) c.args.row_word_ptr.now) (take c.args.counts.row_words c.args.row_word_indices.now) (take c.args.counts.row_words c.args.row_masks.now) ≡ stored c.args.self.matrix.row_ptr.now c.args.self.matrix.col_idx.now)
  whole =
      let b = c.requires in
      parts_are _ _ _ _ c.args.self.matrix.accepted c.args.self.square _ _ _ _ _ _ b.row_pointers.same b.row_words.same b.row_masks.same b.column_pointers.same b.column_words.same b.column_masks.same

pub invariant_of-rows : goal.invariant_of-rows
invariant_of-rows c = record { accepted = (whole (goal.at.invariant_of-rows c).Start).0.rows }

pub invariant_of-columns : goal.invariant_of-columns
invariant_of-columns c = record { accepted = (whole (goal.at.invariant_of-columns c).Start).0.columns }

pub invariant_of-topology : goal.invariant_of-topology
invariant_of-topology c = record { accepted = (whole (goal.at.invariant_of-topology c).Start).0 }

pub invariant_of-result : goal.invariant_of-result
invariant_of-result c = record {
  square = subst (λ (k : ℕ). IsMatrix c.args.self.matrix.nrows k c.args.self.matrix.row_ptr.now c.args.self.matrix.col_idx.now) c.args.self.square c.args.self.matrix.accepted;
  own = (whole (goal.at.invariant_of-result c).Start).1;
}
