-- `numeric_plan::inner::Numbered::write_rows` meets its contract. The invariant: the first k rows are written. Assumes nothing.
use mathlib.Core.Path.{◌≡◌, sym, ◌∙◌, subst}
use Prim.Native.Nat.{ℕ, ◌<◌}
use native.Mathlib.Omega.{arith}
use lib.Dec.{T}
use lib.ListN.{get_or, length, set, length-set, take}
use lib.Seq.{length-take-le, get_or-take}
use Rattle.base.specs.Sets.{count_below}
use Rattle.base.proofs.Lists.{over_first}
use Rattle.base.proofs.Sets.{members-at, count-members}
use Rattle.mask.specs.Mask.{in_mask}
use Rattle.side.specs.Side.{side_holds}
use Rattle.pattern.specs.Pattern.{member_at, columns_of, pattern_ptr}
use Rattle.pattern.proofs.Counting.{kept_small}
use Rattle.pattern.proofs.Writing.{ptr-length}
use Rattle.gather.specs.Plan.{plan_ptr}
use Rattle.gather.proofs.Plans.{pointers-length}
use Rattle.numeric_plan.specs.Plan.{pair_entries}
use Rattle.numeric_plan.specs.Steps.{row_entries, RowRoom}
use Rattle.numeric_plan.proofs.Pairs.{sources-within}
use Rattle.numeric_plan.proofs.Rows.{rows_none, rows_pairs, rows_room, rows_next, rows_all}
use Rattle.numeric_plan.proofs.inner.Numbered.write_rows.Goals.{In-loop-k, Start}
use Rattle.numeric_plan.proofs.inner.Numbered.write_rows.Goals as goal

-- the members' numbers are the front of their list
front : (s : Start) → length (take s.args.members s.args.self.nodes.now) ≡ s.args.members
front s = length-take-le s.args.members s.args.self.nodes.now (omega (arith, s.requires.all, s.args.self.filled.nodes_long))

-- row k has a member
some : (c : In-loop-k) → c.loop-k.k < count_below c.args.self.bound.system.local.region.len (in_mask c.args.self.bound.system.local.region.words.now)
some c = omega (arith, c.loop-k-test.true, c.requires.all, front (goal.at.In-loop-k c).Start)

-- its node, which is below n
node : (c : In-loop-k) → get_or (take c.args.members c.args.self.nodes.now) c.loop-k.k 0 ≡ member_at c.args.self.bound.system.local.region.len (in_mask c.args.self.bound.system.local.region.words.now) c.loop-k.k
node c = get_or-take c.args.members c.args.self.nodes.now c.loop-k.k 0 (omega (arith, some c, c.requires.all)) ∙ c.args.self.filled.nodes_at c.loop-k.k (some c)

pub loop-k-init : goal.loop-k-init
loop-k-init c =
    let a = c.args in
    rows_none a.self.bound.system.local.region.len (in_mask a.self.bound.system.local.region.words.now) (side_holds a.self.bound.system.local.rows.row_word_ptr.now a.self.bound.system.local.rows.word_indices.now a.self.bound.system.local.rows.masks.now) a.self.bound.system.matrix.row_ptr.now a.self.bound.system.matrix.col_idx.now a.local_ptr.now a.local_cols.now a.source_ptr.now a.sources.now (omega (arith, c.requires.fits.pointers)) (omega (arith, c.requires.fits.source_pointers))

pub write_row-end-requires : goal.write_row-end-requires
write_row-end-requires c =
    let l = c.loop-k in
    let a = c.args in
    let q = c.requires in
    let p = in_mask a.self.bound.system.local.region.words.now in
    let s = side_holds a.self.bound.system.local.rows.row_word_ptr.now a.self.bound.system.local.rows.word_indices.now a.self.bound.system.local.rows.masks.now in
    let d = node (goal.at.write_row-end-requires c).In-loop-k in
    let m = members-at p 0 a.self.bound.system.local.region.len l.k (omega (arith, some (goal.at.write_row-end-requires c).In-loop-k, count-members a.self.bound.system.local.region.len p)) in
    let low : get_or (take a.members a.self.nodes.now) l.k 0 < a.self.bound.system.local.region.len = omega (arith, d, m.1) in
    let member : T (p (get_or (take a.members a.self.nodes.now) l.k 0)) = rw (d) m.2 in (
      low,
      member,
      subst (λ (x : ℕ). RowRoom (columns_of a.self.bound.system.local.region.len p s (get_or (take a.members a.self.nodes.now) l.k 0)) (row_entries a.self.bound.system.local.region.len p s a.self.bound.system.matrix.row_ptr.now a.self.bound.system.matrix.col_idx.now (get_or (take a.members a.self.nodes.now) l.k 0)) l.pair l.source x l.local_cols l.source_ptr l.sources) (sym c.args.self.bound.counted)
          (rows_room a.self.bound.system.local.region.len p s a.self.bound.system.matrix.row_ptr.now a.self.bound.system.matrix.col_idx.now (set a.local_ptr.now 0 0) a.local_cols.now (set a.source_ptr.now 0 0) a.sources.now l.local_ptr l.local_cols l.source_ptr l.sources l.pair l.source l.k l.invariant (some (goal.at.write_row-end-requires c).In-loop-k) _ d (omega (arith, q.fits.columns)) (omega (arith, q.fits.source_pointers, length-set a.source_ptr.now 0 0)) (omega (arith, c.args.self.bound.counted, q.fits.entry_sources)) (sources-within a.self.bound.system.local.region.len p s a.self.bound.system.matrix.row_ptr.now a.self.bound.system.matrix.col_idx.now c.args.self.bound.system.square c.args.self.bound.binds)),
    )

pub overflow_cast-local_ptr : goal.overflow_cast-local_ptr
overflow_cast-local_ptr c =
    let l = c.loop-k in
    let a = c.args in
    let q = c.requires in
    let p = in_mask a.self.bound.system.local.region.words.now in
    let s = side_holds a.self.bound.system.local.rows.row_word_ptr.now a.self.bound.system.local.rows.word_indices.now a.self.bound.system.local.rows.masks.now in
    omega (
      arith,
      c.write_row-end.ensures.pair_value.0,
      rows_pairs a.self.bound.system.local.region.len p s a.self.bound.system.matrix.row_ptr.now a.self.bound.system.matrix.col_idx.now (set a.local_ptr.now 0 0) a.local_cols.now (set a.source_ptr.now 0 0) a.sources.now l.local_ptr l.local_cols l.source_ptr l.sources l.pair l.source l.k l.invariant (some (goal.at.overflow_cast-local_ptr c).In-loop-k) _ (node (goal.at.overflow_cast-local_ptr c).In-loop-k) (omega (arith, q.fits.columns)) (omega (arith, q.fits.source_pointers, length-set a.source_ptr.now 0 0)) (omega (arith, c.args.self.bound.counted, q.fits.entry_sources)),
      (kept_small a.self.bound.system.local.region.len a.self.bound.system.local.rows.row_word_ptr.now a.self.bound.system.local.rows.word_indices.now a.self.bound.system.local.rows.masks.now c.args.self.bound.system.local.square p).rows.few_kept,
    )

pub loop-k-preserved : goal.loop-k-preserved
loop-k-preserved c =
    let l = c.loop-k in
    let a = c.args in
    let q = c.requires in
    let p = in_mask a.self.bound.system.local.region.words.now in
    let s = side_holds a.self.bound.system.local.rows.row_word_ptr.now a.self.bound.system.local.rows.word_indices.now a.self.bound.system.local.rows.masks.now in
    let g = c.write_row-end.ensures in
    rows_next a.self.bound.system.local.region.len p s a.self.bound.system.matrix.row_ptr.now a.self.bound.system.matrix.col_idx.now (set a.local_ptr.now 0 0) a.local_cols.now (set a.source_ptr.now 0 0) a.sources.now l.local_ptr l.local_cols l.source_ptr l.sources l.pair l.source l.k l.invariant (some (goal.at.loop-k-preserved c).In-loop-k) _ (node (goal.at.loop-k-preserved c).In-loop-k) (omega (arith, q.fits.columns)) (omega (arith, q.fits.source_pointers, length-set a.source_ptr.now 0 0)) (omega (arith, c.args.self.bound.counted, q.fits.entry_sources)) (omega (arith, q.all, q.fits.pointers, length-set a.local_ptr.now 0 0)) _ c.args.self.bound.counted _ _ _ _ _ g.pair_value.0 g.pair_value.1 g.columns g.starts g.entries

pub returns : goal.returns
returns c =
    let l = c.loop-k in
    let a = c.args in
    let p = in_mask a.self.bound.system.local.region.words.now in
    let s = side_holds a.self.bound.system.local.rows.row_word_ptr.now a.self.bound.system.local.rows.word_indices.now a.self.bound.system.local.rows.masks.now in
    let x = pair_entries a.self.bound.system.local.region.len p s a.self.bound.system.matrix.row_ptr.now a.self.bound.system.matrix.col_idx.now in
    let all = rows_all a.self.bound.system.local.region.len p s a.self.bound.system.matrix.row_ptr.now a.self.bound.system.matrix.col_idx.now (set a.local_ptr.now 0 0) a.local_cols.now (set a.source_ptr.now 0 0) a.sources.now l.local_ptr l.local_cols l.source_ptr l.sources l.pair l.source l.k l.invariant (omega (arith, c.requires.all, front (goal.at.returns c).Start)) (omega (arith, c.args.self.bound.counted, c.requires.fits.entry_sources)) in record {
      pointers = all.0 ∙ over_first (pattern_ptr a.self.bound.system.local.region.len p s) a.local_ptr.now 0 (omega (arith, ptr-length a.self.bound.system.local.region.len s p));
      columns = all.1;
      starts = all.2 ∙ over_first (plan_ptr x) a.source_ptr.now 0 (omega (arith, pointers-length x));
      entries = all.3;
    }
