-- `cutting::inner::Prepared::plan` meets its contract. Assumes nothing.
use mathlib.Core.Path.{refl, sym, subst}
use Prim.Native.Nat.{◌≤◌}
use native.Mathlib.Omega.{arith}
use lib.ListN.{length}
use Rattle.base.specs.Checks.{side_limit}
use Rattle.mask.specs.Mask.{in_mask}
use Rattle.pattern.specs.Steps.{Small}
use Rattle.pattern.proofs.Counting.{kept_small}
use Rattle.numeric_plan.proofs.OneRow.{marked-itself}
use Rattle.numeric_plan.proofs.Prepared.{counts-small}
use Rattle.cutting.proofs.Local.{binds, members-is, pairs_is, terms-is, few-counts, nodes-left, ptr-left, columns-left, source-ptr-left, sources-left, stats-left}
use Rattle.cutting.proofs.inner.Prepared.plan.Goals.{After-counts-counts}
use Rattle.cutting.proofs.inner.Prepared.plan.Goals as goal

-- no count is over the side or the entries
few : (c : After-counts-counts)
    → (c.args.self.fields.graph.n ≤ side_limit) × (c.counts-counts.result.members ≤ c.args.self.fields.graph.n) × (c.counts-counts.result.rows.pairs ≤ length c.args.self.matrix.col_idx.now) × (c.counts-counts.result.rows.sources ≤ length c.args.self.matrix.col_idx.now)
few c = few-counts _ _ _ _ _ c.args.self.square c.args.self.own _ c.counts-counts.ensures c.args.self.square.few_rows

pub invariant_of-bound : goal.invariant_of-bound
invariant_of-bound c =
    let m = c.args.self.square in record {
      alike = refl;
      binds = binds _ _ _ _ _ m c.args.self.own;
      counted = terms-is _ _ _ _ _ m c.args.self.own _ c.counts-counts.ensures;
      marked = marked-itself _ _ _ c.requires.mask;
    }

pub write-requires : goal.write-requires
write-requires c =
    let k = few (goal.at.write-requires c).After-counts-counts in
    let members = members-is _ _ _ _ _ c.args.self.square c.args.self.own _ c.counts-counts.ensures in
    let pairs = pairs_is _ _ _ _ _ c.args.self.square c.args.self.own _ c.counts-counts.ensures in
    let f = c.requires.fits in
    record {
      members = omega (arith, members, k.1, f.members);
      pointers = omega (arith, members, k.1, f.pointers);
      columns = omega (arith, pairs, k.2, f.columns);
      source_pointers = omega (arith, pairs, k.2, f.source_pointers);
      entry_sources = omega (arith, k.3, f.entry_sources);
    }

pub zero_past-requires-clause-few : goal.zero_past-requires-clause-few
zero_past-requires-clause-few c = few (goal.at.zero_past-requires-clause-few c).After-counts-counts

pub stats-requires : goal.stats-requires
stats-requires c =
    (c.args.self.square.few_rows, subst Small (sym c.count-kept.ensures) (kept_small _ _ _ _ c.args.self.fields.graph.square.rows (in_mask c.args.region.now)))

pub stats-requires-2 : goal.stats-requires-2
stats-requires-2 c =
    let m = c.args.self.square in
    let b = binds _ (in_mask c.args.region.now) _ _ _ m c.args.self.own in
    counts-small _ _ _ _ _ m b _ c.counts-counts.ensures

pub returns-clause-value : goal.returns-clause-value
returns-clause-value c = stats-left _ _ _ _ _ c.args.self.square c.args.self.own _ c.counts-counts.ensures _ _ _ c.count-kept.ensures c.stats.ensures c.stats-2.ensures

pub returns-clause-members : goal.returns-clause-members
returns-clause-members c = nodes-left _ _ _ _ _ c.args.self.square c.args.self.own _ c.counts-counts.ensures _ _ _ c.write.ensures.members c.zero_past.ensures.members

pub returns-clause-pointers : goal.returns-clause-pointers
returns-clause-pointers c = ptr-left _ _ _ _ _ c.args.self.square c.args.self.own _ c.counts-counts.ensures _ _ _ c.write.ensures.pointers c.zero_past.ensures.pointers

pub returns-clause-columns : goal.returns-clause-columns
returns-clause-columns c = columns-left _ _ _ _ _ c.args.self.square c.args.self.own _ c.counts-counts.ensures _ _ _ c.write.ensures.columns c.zero_past.ensures.columns

pub returns-clause-source_pointers : goal.returns-clause-source_pointers
returns-clause-source_pointers c = source-ptr-left _ _ _ _ _ c.args.self.square c.args.self.own _ c.counts-counts.ensures _ _ _ c.write.ensures.starts c.zero_past.ensures.source_pointers

pub returns-clause-sources : goal.returns-clause-sources
returns-clause-sources c = sources-left _ _ _ _ _ c.args.self.square c.args.self.own _ c.counts-counts.ensures _ _ _ c.write.ensures.entries c.zero_past.ensures.sources
