-- `numeric_plan::inner::Numbered::write_row` meets its contract. Assumes nothing.
use mathlib.Core.Path.{◌≡◌, sym, ap, ◌∙◌}
use mathlib.Core.Bool.{Bool}
use mathlib.Core.List.{List, map}
use Prim.Native.Nat.{ℕ, ◌+◌, ◌-◌, ◌≤◌, ◌<◌}
use native.Mathlib.Omega.{arith}
use lib.Dec.{T}
use lib.ListN.{length, get_or}
use Rattle.base.specs.Lists.{join_below, placed}
use Rattle.base.proofs.Sets.{count-members}
use Rattle.mask.specs.Mask.{in_mask}
use Rattle.csr32.specs.Matrix.{stored}
use Rattle.csr32.proofs.Matrix.{ptr_le}
use Rattle.side.specs.Side.{side_holds}
use Rattle.pattern.specs.Pattern.{number_of, inside, columns_of}
use Rattle.sources.specs.Steps.{columns_in, inside_in, pair_at, entries_at, ends_from, Put}
use Rattle.sources.proofs.Inside.{put_same, put-placed}
use Rattle.numeric_plan.specs.Steps.{row_entries}
use Rattle.numeric_plan.proofs.Binding.{bound}
use Rattle.numeric_plan.proofs.OneRow.{columns-stored, inside-length, chosen-rise, row-empty, row-local, row-joined, row-ended}
use Rattle.numeric_plan.proofs.inner.Numbered.write_row.Goals.{After-write_counted-source, After-take_inside-next, After-write_row-last, Start}
use Rattle.numeric_plan.proofs.inner.Numbered.write_row.Goals as goal

module _ (s : Start) where
  abbrev start : ℕ
  start = get_or s.args.self.bound.system.matrix.row_ptr.now s.args.r 0

  abbrev end : ℕ
  end = get_or s.args.self.bound.system.matrix.row_ptr.now (s.args.r + 1) 0

  abbrev region : ℕ → Bool
  region = in_mask s.args.self.bound.system.local.region.words.now

  abbrev pairs : ℕ → ℕ → Bool
  pairs = side_holds s.args.self.bound.system.local.rows.row_word_ptr.now s.args.self.bound.system.local.rows.word_indices.now s.args.self.bound.system.local.rows.masks.now

  abbrev columns : List ℕ
  columns = columns_of s.args.self.bound.system.local.region.len region pairs s.args.r

  -- the row's entries inside
  abbrev chosen : List ℕ
  chosen = inside_in region s.args.self.bound.system.matrix.col_idx.now start end

  up : get_or s.args.self.bound.system.matrix.row_ptr.now s.args.r 0 ≤ get_or s.args.self.bound.system.matrix.row_ptr.now (s.args.r + 1) 0
  up = s.args.self.bound.system.square.rises s.args.r s.requires.0

  within : get_or s.args.self.bound.system.matrix.row_ptr.now (s.args.r + 1) 0 ≤ length s.args.self.bound.system.matrix.col_idx.now
  within = ptr_le s.args.self.bound.system.local.region.len s.args.self.bound.system.local.region.len s.args.self.bound.system.matrix.row_ptr.now s.args.self.bound.system.matrix.col_idx.now s.args.self.bound.system.square (s.args.r + 1) (omega (arith, s.requires.0))

  -- a column inside is stored where it is held
  alike : (c : ℕ) → c < s.args.self.bound.system.local.region.len → T (region c) → pairs s.args.r c ≡ stored s.args.self.bound.system.matrix.row_ptr.now s.args.self.bound.system.matrix.col_idx.now s.args.r c
  alike c h t = bound s.args.self.bound.system.local.region.len region pairs (stored s.args.self.bound.system.matrix.row_ptr.now s.args.self.bound.system.matrix.col_idx.now) s.args.self.bound.binds _ c s.requires.0 s.requires.1 h t

  -- the row's columns are its entries'
  same : columns_in s.args.self.bound.system.local.region.len region s.args.self.bound.system.matrix.col_idx.now start end ≡ columns
  same = columns-stored s.args.self.bound.system.local.region.len region pairs s.args.self.bound.system.matrix.row_ptr.now s.args.self.bound.system.matrix.col_idx.now s.args.r alike

  many : length chosen ≡ length (join_below (length columns) (row_entries s.args.self.bound.system.local.region.len region pairs s.args.self.bound.system.matrix.row_ptr.now s.args.self.bound.system.matrix.col_idx.now s.args.r))
  many = inside-length s.args.self.bound.system.local.region.len region pairs s.args.self.bound.system.matrix.row_ptr.now s.args.self.bound.system.matrix.col_idx.now s.args.r s.args.self.bound.system.square s.requires.0 alike

-- where the entries inside end
module _ (c : After-take_inside-next) where
  abbrev t : Start
  t = (goal.at.After-take_inside-next c).Start

  ends : c.take_inside-next.result ≤ t.args.self.bound.terms
  ends = omega (arith, c.take_inside-next.ensures.value, many t, t.requires.2.within)

pub holds-requires : goal.holds-requires
holds-requires c = omega (arith, c.args.self.bound.alike, c.requires.0)

pub returns-then-not-holds : goal.returns-then-not-holds
returns-then-not-holds c =
    let a = c.args in
    let q = c.requires in
    let whole = row-empty a.self.bound.system.local.region.words.now a.first a.at a.self.bound.terms a.local_cols.now a.source_ptr.now a.sources.now a.self.bound.system.local.region.len a.self.bound.paired.words.now (pairs (goal.at.returns-then-not-holds c).Start) a.self.bound.system.matrix.row_ptr.now a.self.bound.system.matrix.col_idx.now a.r a.self.bound.marked q.0 q.1 (sym c.holds.ensures ∙ c.if-not-holds.true) in record {
      pair_value = whole.0;
      columns = whole.1.0;
      starts = whole.1.1.0;
      entries = whole.1.1.1;
    }

pub invariant_of-row : goal.invariant_of-row
invariant_of-row c = record {
  order = up (goal.at.invariant_of-row c).Start;
  within = within (goal.at.invariant_of-row c).Start;
  few = c.args.self.bound.system.square.few_entries;
}

pub invariant_of-ranked : goal.invariant_of-ranked
invariant_of-ranked c = record { counted = c.args.self.filled.ranks_at; long = c.args.self.filled.ranks_long }

pub take_inside-next-requires : goal.take_inside-next-requires
take_inside-next-requires c =
    let q = c.requires.2 in
    (c.args.self.bound.system.square.inside, omega (arith, many (goal.at.take_inside-next-requires c).Start, q.within), q.inside)

pub invariant_of-taken : goal.invariant_of-taken
invariant_of-taken c =
    let q = c.requires.2 in
    let put = c.take_inside-next.ensures.put in
    record {
      columns = c.args.self.bound.system.square.inside;
      all = c.take_inside-next.ensures.value;
      within = omega (arith, ends (goal.at.invariant_of-taken c).After-take_inside-next, put.long, q.inside);
      small = omega (arith, ends (goal.at.invariant_of-taken c).After-take_inside-next, q.small);
      here = put.here;
    }

pub write_pairs-pair-requires : goal.write_pairs-pair-requires
write_pairs-pair-requires c =
    let q = c.requires.2 in
    let z = (goal.at.write_pairs-pair-requires c).Start in
    let put = c.take_inside-next.ensures.put in
    let rise = chosen-rise (region z) c.args.self.bound.system.matrix.col_idx.now (start z) (end z) c.args.at c.args.self.bound.terms _ c.args.sources.now _ (up z) (within z) put c.take_inside-next.ensures.value (c.rises.ensures c.if-rises.true) in
    let wide = ap length (same z) in
    (rise, omega (arith, wide, q.pairs), omega (arith, wide, q.pointers))

pub returns-then-rises : goal.returns-then-rises
returns-then-rises c =
    let a = c.args in
    let g = c.write_pairs-pair.ensures in
    let e = same (goal.at.returns-then-rises c).Start in
    let x = entries_at a.self.bound.system.matrix.col_idx.now (start (goal.at.returns-then-rises c).Start) (end (goal.at.returns-then-rises c).Start) in record {
      pair_value = (g.value.0 ∙ ap (λ (l : List ℕ). a.first + length l) e, c.take_inside-next.ensures.value ∙ ap (λ (j : ℕ). a.at + j) (many (goal.at.returns-then-rises c).Start));
      columns = g.local_cols_after ∙ ap (λ (l : List ℕ). placed a.first (map (number_of (region (goal.at.returns-then-rises c).Start)) l) a.local_cols.now) e;
      starts = g.source_ptr_after ∙ ap (λ (l : List ℕ). placed (a.first + 1) (ends_from a.at (length l) (x l)) a.source_ptr.now) e;
      entries = put_same _ _ _ _ _ _ (sym g.value.1 ∙ ap (λ (l : List ℕ). join_below (length l) (x l)) e) c.take_inside-next.ensures.put;
    }

pub write_row-last-requires : goal.write_row-last-requires
write_row-last-requires c =
    let z = (goal.at.write_row-last-requires c).Start in
    (c.requires.0, omega (arith, c.requires.2.pairs, count-members c.args.self.bound.system.local.region.len (inside (region z) (pairs z) c.args.r)))

-- where the pairs of the row end
last : (c : After-write_row-last) → c.write_row-last.result ≡ c.args.first + length (columns (goal.at.After-write_row-last c).Start)
last c = c.write_row-last.ensures.value ∙ ap (λ (x : ℕ). c.args.first + x) (sym (count-members c.args.self.bound.system.local.region.len (inside (region (goal.at.After-write_row-last c).Start) (pairs (goal.at.After-write_row-last c).Start) c.args.r)))

pub invariant_of-pairs : goal.invariant_of-pairs
invariant_of-pairs c =
    let a = c.args.self in
    record { rising = row-local a.bound.system.local.region.len a.bound.system.local.region.words.now a.ranks.now a.nodes.now a.filled (pairs (goal.at.invariant_of-pairs c).Start) c.args.r c.args.first c.args.local_cols.now _ c.requires.2.pairs c.write_row-last.ensures.cols_after _ (last (goal.at.invariant_of-pairs c).After-write_row-last) }

pub write_counted-source-requires : goal.write_counted-source-requires
write_counted-source-requires c =
    let a = c.args.self in
    let q = c.requires.2 in
    let z = (goal.at.write_counted-source-requires c).Start in
    let end-of = last (goal.at.write_counted-source-requires c).After-write_row-last in
    let joined = row-joined a.bound.system.local.region.len a.bound.system.local.region.words.now a.ranks.now a.nodes.now a.filled (pairs z) c.args.r c.args.first c.args.local_cols.now _ q.pairs c.write_row-last.ensures.cols_after _ end-of a.bound.system.matrix.col_idx.now (start z) (end z) in
    (omega (arith, end-of, q.pointers), omega (arith, ap length joined, q.within, q.inside, c.take_inside-next.ensures.put.long), omega (arith, ap length joined, q.within, q.small))

-- what the counting wrote
module _ (c : After-write_counted-source) where
  abbrev b : Start
  b = (goal.at.After-write_counted-source c).Start

  joined : join_below (c.write_row-last.result - b.args.first) (pair_at b.args.self.bound.system.matrix.col_idx.now (start b) (end b) b.args.self.nodes.now c.write_row-last.new.cols b.args.first) ≡ join_below (length (columns b)) (row_entries b.args.self.bound.system.local.region.len (region b) (pairs b) b.args.self.bound.system.matrix.row_ptr.now b.args.self.bound.system.matrix.col_idx.now b.args.r)
  joined = row-joined b.args.self.bound.system.local.region.len b.args.self.bound.system.local.region.words.now b.args.self.ranks.now b.args.self.nodes.now b.args.self.filled (pairs b) b.args.r b.args.first b.args.local_cols.now _ b.requires.2.pairs c.write_row-last.ensures.cols_after _ (last (goal.at.After-write_counted-source c).After-write_row-last) b.args.self.bound.system.matrix.col_idx.now (start b) (end b)

  ended : ends_from b.args.at (c.write_row-last.result - b.args.first) (pair_at b.args.self.bound.system.matrix.col_idx.now (start b) (end b) b.args.self.nodes.now c.write_row-last.new.cols b.args.first) ≡ ends_from b.args.at (length (columns b)) (row_entries b.args.self.bound.system.local.region.len (region b) (pairs b) b.args.self.bound.system.matrix.row_ptr.now b.args.self.bound.system.matrix.col_idx.now b.args.r)
  ended = row-ended b.args.self.bound.system.local.region.len b.args.self.bound.system.local.region.words.now b.args.self.ranks.now b.args.self.nodes.now b.args.self.filled (pairs b) b.args.r b.args.first b.args.local_cols.now _ b.requires.2.pairs c.write_row-last.ensures.cols_after _ (last (goal.at.After-write_counted-source c).After-write_row-last) b.args.self.bound.system.matrix.col_idx.now (start b) (end b) b.args.at

  rest : Put b.args.at b.args.self.bound.terms (join_below (length (columns b)) (row_entries b.args.self.bound.system.local.region.len (region b) (pairs b) b.args.self.bound.system.matrix.row_ptr.now b.args.self.bound.system.matrix.col_idx.now b.args.r)) b.args.sources.now c.write_counted-source.new.sources
  rest =
      put-placed b.args.at b.args.self.bound.terms (chosen b) _ b.args.sources.now c.take_inside-next.new.sources c.write_counted-source.new.sources b.requires.2.within b.requires.2.inside c.take_inside-next.ensures.put
      (c.write_counted-source.ensures.sources_after ∙ ap (λ (l : List ℕ). placed b.args.at l c.take_inside-next.new.sources) joined)

pub returns : goal.returns
returns c =
    let a = c.args in
    let put = c.write_row-last.ensures.cols_after in
    let g = c.write_counted-source.ensures in record {
      pair_value = (last (goal.at.returns c).After-write_row-last, g.value ∙ ap (λ (l : List ℕ). a.at + length l) (joined (goal.at.returns c).After-write_counted-source));
      columns = put;
      starts = g.source_ptr_after ∙ ap (λ (l : List ℕ). placed (a.first + 1) l a.source_ptr.now) (ended (goal.at.returns c).After-write_counted-source);
      entries = rest (goal.at.returns c).After-write_counted-source;
    }
