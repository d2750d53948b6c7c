-- `binding::inner::System::check_row` meets its contract. Assumes nothing.
use mathlib.Core.Path.{◌≡◌, refl}
use mathlib.Core.Bool.{Bool, not, ◌&&◌}
use Prim.Native.Nat.{ℕ}
use Rattle.base.specs.Sets.{any_below}
use Rattle.mask.specs.Mask.{in_mask}
use Rattle.mask.proofs.Masks.{is-of}
use Rattle.csr32.specs.Matrix.{stored}
use Rattle.side.specs.Side.{side_holds}
use Rattle.binding.proofs.Rows.{missing-is, left-mask, left-entry, extra-is, row-23, row-24, row_fine}
use Rattle.binding.proofs.inner.System.check_row.Goals.{After-drain-extra, Start}
use Rattle.binding.proofs.inner.System.check_row.Goals as goal

-- the row's pairs and its entries
abbrev pairs : Start → ℕ → Bool
pairs s = side_holds s.args.self.local.rows.row_word_ptr.now s.args.self.local.rows.word_indices.now s.args.self.local.rows.masks.now s.args.r

abbrev entries : Start → ℕ → Bool
entries s = stored s.args.self.matrix.row_ptr.now s.args.self.matrix.col_idx.now s.args.r

-- the answers of the two tests
abbrev start : After-drain-extra → Start
start c = (goal.at.After-drain-extra c).Start

missing : (c : After-drain-extra) → c.take_row-missing.result ≡ any_below (start c).args.self.local.region.len (λ i. in_mask (start c).args.self.local.region.words.now i && pairs (start c) i && not (entries (start c) i))
missing c =
    missing-is c.args.self.local.region.len c.args.self.matrix.row_ptr.now c.args.self.matrix.col_idx.now c.args.r (pairs (goal.at.After-drain-extra c).Start) _ _ c.requires.1 c.add_entries.ensures (in_mask c.args.self.local.region.words.now) _ c.take_row-missing.ensures.value

extra : (c : After-drain-extra) → c.drain-extra.result ≡ any_below (start c).args.self.local.region.len (λ i. in_mask (start c).args.self.local.region.words.now i && entries (start c) i && not (pairs (start c) i))
extra c =
    extra-is c.args.self.local.region.len c.args.self.matrix.row_ptr.now c.args.self.matrix.col_idx.now c.args.r (pairs (goal.at.After-drain-extra c).Start) _ _ c.requires.1 c.add_entries.ensures _ c.take_row-missing.ensures.seen_after (in_mask c.args.self.local.region.words.now) _ c.drain-extra.ensures.value

pub add_entries-requires : goal.add_entries-requires
add_entries-requires c = (c.requires.0, is-of _ _ _ c.args.self.local.region.accepted.short c.requires.1)

pub take_row-missing-requires : goal.take_row-missing-requires
take_row-missing-requires c = (c.requires.0, is-of _ _ _ c.args.self.local.region.accepted.short c.add_entries.ensures)

pub drain-extra-requires : goal.drain-extra-requires
drain-extra-requires c = (
  c.requires.0,
  left-mask c.args.self.local.region.len c.args.self.matrix.row_ptr.now c.args.self.matrix.col_idx.now c.args.r (pairs (goal.at.drain-extra-requires c).Start) _ _ c.requires.1 c.add_entries.ensures _ c.take_row-missing.ensures.seen_after c.args.self.local.region.accepted.short,
  left-entry c.args.self.local.region.len c.args.self.matrix.row_ptr.now c.args.self.matrix.col_idx.now c.args.r (pairs (goal.at.drain-extra-requires c).Start) _ _ c.requires.1 c.add_entries.ensures _ c.take_row-missing.ensures.seen_after,
)

pub returns-then-missing-clause-value : goal.returns-then-missing-clause-value
returns-then-missing-clause-value c =
    row-23 _ _ _ _ _ _ (missing (goal.at.returns-then-missing-clause-value c).After-drain-extra) (extra (goal.at.returns-then-missing-clause-value c).After-drain-extra) _ c.if-missing.true refl

pub returns-then-extra-clause-value : goal.returns-then-extra-clause-value
returns-then-extra-clause-value c =
    row-24 _ _ _ _ _ _ (missing (goal.at.returns-then-extra-clause-value c).After-drain-extra) (extra (goal.at.returns-then-extra-clause-value c).After-drain-extra) _ c.if-missing.false c.if-extra.true refl

pub returns-clause-value : goal.returns-clause-value
returns-clause-value c = row_fine _ _ _ _ _ _ (missing (goal.at.returns-clause-value c).After-drain-extra) (extra (goal.at.returns-clause-value c).After-drain-extra) _ c.if-missing.false c.if-extra.false refl
