-- `binding::inner::System::drain` meets its contract. The invariant: what is left in the mask are columns of the entries from e on, and what was
-- inside the region was found or is left. Assumes nothing.
use mathlib.Core.List.{List}
use mathlib.Core.Path.{◌≡◌, sym, ap, ◌∙◌, subst}
use Prim.Native.Nat.{ℕ, ◌+◌, ◌/◌, ◌<◌}
use native.Mathlib.Omega.{arith}
use lib.Bits.{bit_and, bit_or}
use lib.ListN.{get_or, length, set}
use Rattle.csr32.specs.Views.{columns_of_row}
use Rattle.mask.proofs.Masks.{is-length}
use Rattle.binding.proofs.Rows.{row-entries, row-long, row_column}
use Rattle.binding.proofs.Seen.{Draining, drain_turn, drain_end}
use Rattle.binding.proofs.inner.System.drain.Goals.{In-loop-column}
use Rattle.binding.proofs.inner.System.drain.Goals as goal

module _ (c : In-loop-column) where
  abbrev from : ℕ
  from = get_or c.args.self.matrix.row_ptr.now c.args.r 0

  abbrev to : ℕ
  to = get_or c.args.self.matrix.row_ptr.now (c.args.r + 1) 0

  abbrev e : ℕ
  e = from + c.loop-column.column-index

  abbrev column : ℕ
  column = get_or c.row_columns-column-items.result.now c.loop-column.column-index 0

  inside : c.loop-column.column-index < length (columns_of_row c.args.self.matrix c.args.r)
  inside = omega (arith, ap length c.row_columns-column-items.ensures)

  here : column ≡ get_or c.args.self.matrix.col_idx.now e 0
  here =
      ap (λ (l : List ℕ). get_or l c.loop-column.column-index 0) c.row_columns-column-items.ensures
      ∙ row_column _ _ _ c.args.self.square c.args.r c.requires.0 c.loop-column.column-index inside

  before : e < to
  before = omega (arith, inside, row-long _ _ _ c.args.self.square c.args.r c.requires.0)

  -- entry e's column is a node
  node : get_or c.args.self.matrix.col_idx.now e 0 < c.args.self.local.region.len
  node = let row = row-entries _ _ _ c.args.self.square c.args.r c.requires.0 in row.inside e (omega (arith, before, row.within))

  long : column / 64 < length c.args.seen.now
  long = omega (arith, here, node, is-length _ _ c.requires.1)

  turned : Draining c.args.self.local.region.len c.args.self.matrix.col_idx.now c.args.self.local.region.words.now c.args.seen.now to (from + (c.loop-column.column-index + 1))
      (set c.loop-column.seen (column / 64) 0) (bit_or c.loop-column.extra (bit_and (get_or c.loop-column.seen (column / 64) 0) (get_or c.args.self.local.region.words.now (column / 64) 0)))
  turned =
      let l = c.loop-column in
      let t = c.args.self in
      let s : e + 1 ≡ from + (l.column-index + 1) = omega arith in
      subst (λ (x : ℕ). Draining t.local.region.len t.matrix.col_idx.now t.local.region.words.now c.args.seen.now to (from + (l.column-index + 1)) (set l.seen (x / 64) 0) (bit_or l.extra (bit_and (get_or l.seen (x / 64) 0) (get_or t.local.region.words.now (x / 64) 0)))) (sym here)
      (subst (λ (k : ℕ). Draining t.local.region.len t.matrix.col_idx.now t.local.region.words.now c.args.seen.now to k (set l.seen (get_or t.matrix.col_idx.now e 0 / 64) 0) (bit_or l.extra (bit_and (get_or l.seen (get_or t.matrix.col_idx.now e 0 / 64) 0) (get_or t.local.region.words.now (get_or t.matrix.col_idx.now e 0 / 64) 0)))) s
      (drain_turn t.local.region.len t.matrix.col_idx.now t.local.region.words.now c.args.seen.now to t.local.region.accepted (row-entries _ _ _ t.square c.args.r c.requires.0).within e l.seen l.extra l.invariant before node))

pub bounds-seen-w : goal.bounds-seen-w
bounds-seen-w c = omega (arith, long (goal.at.bounds-seen-w c).In-loop-column)

pub bounds-self-w : goal.bounds-self-w
bounds-self-w c = omega (arith, here (goal.at.bounds-self-w c).In-loop-column, node (goal.at.bounds-self-w c).In-loop-column, is-length _ _ c.args.self.local.region.accepted)

pub bounds-seen-w-in-loop-column : goal.bounds-seen-w-in-loop-column
bounds-seen-w-in-loop-column c = omega (arith, long (goal.at.bounds-seen-w-in-loop-column c).In-loop-column)

pub loop-column-preserved : goal.loop-column-preserved
loop-column-preserved c = turned (goal.at.loop-column-preserved c).In-loop-column

pub returns : goal.returns
returns c =
    let l = c.loop-column in
    let row = row-entries _ _ _ c.args.self.square c.args.r c.requires.0 in
    let whole = drain_end c.args.self.local.region.len c.args.self.matrix.col_idx.now c.args.self.local.region.words.now c.args.seen.now (get_or c.args.self.matrix.row_ptr.now (c.args.r + 1) 0) (get_or c.args.self.matrix.row_ptr.now c.args.r 0 + l.column-index) l.seen l.extra l.invariant (omega (arith, row.up, row-long _ _ _ c.args.self.square c.args.r c.requires.0, ap length c.row_columns-column-items.ensures)) in record {
      value = whole.0;
      seen_after = whole.1;
    }
