-- `dual_topology::inner::build` meets its contract. Assumes nothing.
use mathlib.Core.Path.{ap₂}
use Rattle.side.specs.declared.SideCounts.{SideCounts}
use Rattle.dual_topology.proofs.inner.build.Goals as goal

pub build_side-rows-requires : goal.build_side-rows-requires
build_side-rows-requires c = (c.requires.room.0, c.requires.room.1, c.requires.room.2)

pub build_columns-columns-requires : goal.build_columns-columns-requires
build_columns-columns-requires c = let p = c.requires in (p.room.3, p.room.4, p.room.5, p.room.6, p.room.7)

pub returns : goal.returns
returns c =
    let b = c.build_side-rows.ensures in
    let d = c.build_columns-columns.ensures in record {
      value = ap₂ (λ (x y : SideCounts). record { row_words = x.words; column_words = y.words; pairs = x.pairs }) b.value d.value;
      row_pointers = b.pointers;
      row_words = b.words;
      row_masked = b.masked;
      column_pointers = d.column_pointers;
      column_words = d.column_words;
      column_masked = d.column_masked;
      scratch_starts = d.scratch_starts;
      scratch_order = d.scratch_order;
    }
