-- `binding::inner::System::add_entries` meets its contract. Assumes nothing.
use mathlib.Core.Path.{◌≡◌, sym, ap, ap₂, ◌∙◌, subst}
use mathlib.Core.Bool.{true}
use mathlib.Core.List.{List}
use Prim.Native.Nat.{ℕ, ◌+◌, ◌<◌}
use native.Mathlib.Nat.{add-zero}
use native.Mathlib.Omega.{arith}
use lib.ListN.{get_or, length}
use Rattle.csr32.specs.Views.{columns_of_row}
use Rattle.mask.specs.Mask.{mask_words, IsMask}
use Rattle.mask.specs.Answers.{with_node}
use Rattle.mask.proofs.Masks.{mask_is}
use Rattle.binding.proofs.Rows.{row-entries, row-long, row_column}
use Rattle.binding.proofs.Seen.{joined, join-start, join-turn}
use Rattle.binding.proofs.inner.System.add_entries.Goals.{In-loop-column}
use Rattle.binding.proofs.inner.System.add_entries.Goals as goal

module _ (c : In-loop-column) where
  abbrev from : ℕ
  from = get_or c.args.self.matrix.row_ptr.now c.args.r 0

  abbrev e : ℕ
  e = from + c.loop-column.column-index

  abbrev column : ℕ
  column = get_or c.row_columns-column-items.result.now c.loop-column.column-index 0

  inside : c.loop-column.column-index < length (columns_of_row c.args.self.matrix c.args.r)
  inside = omega (arith, ap length c.row_columns-column-items.ensures)

  here : column ≡ get_or c.args.self.matrix.col_idx.now e 0
  here =
      ap (λ (l : List ℕ). get_or l c.loop-column.column-index 0) c.row_columns-column-items.ensures
      ∙ row_column _ _ _ c.args.self.square c.args.r c.requires.0 c.loop-column.column-index inside

  -- entry e is stored, and its column is a node
  stored : e < length c.args.self.matrix.col_idx.now
  stored = omega (arith, inside, row-long _ _ _ c.args.self.square c.args.r c.requires.0, (row-entries _ _ _ c.args.self.square c.args.r c.requires.0).within)

  node : column < c.args.self.local.region.len
  node = omega (arith, here, c.args.self.square.inside e stored)

  turned : with_node c.args.self.local.region.len c.loop-column.seen column true
      ≡ mask_words c.args.self.local.region.len (joined c.args.self.local.region.len c.args.self.matrix.col_idx.now c.args.seen.now from (from + (c.loop-column.column-index + 1)))
  turned =
      let t = c.args.self in
      let n = t.local.region.len in
      let s : e + 1 ≡ from + (c.loop-column.column-index + 1) = omega arith in
      ap₂ (λ (l : List ℕ) (y : ℕ). with_node n l y true) c.loop-column.invariant here
      ∙ join-turn n t.matrix.col_idx.now c.args.seen.now from e (omega arith) stored
      ∙ ap (λ (k : ℕ). mask_words n (joined n t.matrix.col_idx.now c.args.seen.now from k)) s

pub loop-column-init : goal.loop-column-init
loop-column-init c = rw add-zero (join-start c.args.self.local.region.len c.args.self.matrix.col_idx.now c.args.seen.now (get_or c.args.self.matrix.row_ptr.now c.args.r 0) c.requires.1)

pub put-requires : goal.put-requires
put-requires c =
    let n = c.args.self.local.region.len in
    (subst (IsMask n) (sym c.loop-column.invariant) (mask_is n _ c.args.self.local.region.accepted.short), node (goal.at.put-requires c).In-loop-column)

pub loop-column-preserved : goal.loop-column-preserved
loop-column-preserved c = c.put.ensures ∙ turned (goal.at.loop-column-preserved c).In-loop-column

pub returns : goal.returns
returns c =
    let a = c.args in
    let row = row-entries _ _ _ a.self.square a.r c.requires.0 in
    let end : get_or a.self.matrix.row_ptr.now a.r 0 + c.loop-column.column-index ≡ get_or a.self.matrix.row_ptr.now (a.r + 1) 0 = omega (arith, row.up, row-long _ _ _ a.self.square a.r c.requires.0, ap length c.row_columns-column-items.ensures) in
    c.loop-column.invariant ∙ ap (λ (k : ℕ). mask_words a.self.local.region.len (joined a.self.local.region.len a.self.matrix.col_idx.now a.seen.now (get_or a.self.matrix.row_ptr.now a.r 0) k)) end
