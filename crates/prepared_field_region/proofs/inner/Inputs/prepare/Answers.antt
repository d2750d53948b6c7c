-- `prepared_field_region::inner::Inputs::prepare` meets its contract. Assumes nothing.
use Rattle.std.proofs.Common.{◌∙◌}
use Rattle.dual_topology.proofs.Built.{few-counts}
use Rattle.cutting.specs.Steps.{cut_stats}
use Rattle.prepared_field_region.proofs.Built.{built_lists, prepared-is}
use Rattle.prepared_field_region.proofs.inner.Inputs.prepare.Goals as goal

pub stats-topology-requires : goal.stats-topology-requires
stats-topology-requires c =
    let m = c.args.self.matrix.accepted in
    let few = few-counts _ _ _ _ m c.build-counts.result c.build-counts.ensures.value in
    (m.few_rows, m.few_cols, few.0, few.1, few.2)

pub built-prepared-requires : goal.built-prepared-requires
built-prepared-requires c =
    let b = c.build-counts.ensures in
    built_lists _ _ _ _ c.args.self.matrix.accepted _ b.value _ _ _ _ _ _ _ _ _ _ _ _ b.row_pointers b.row_words b.row_masked b.column_pointers b.column_words b.column_masked

pub returns-clause-value : goal.returns-clause-value
returns-clause-value c =
    let e = c.built-prepared.ensures in
    let a = c.args in
    prepared-is _ _ _ _ a.self.matrix.accepted _ c.build-counts.ensures.value _ _ _ _ _ c.stats-topology.ensures
    (c.cut-whole.ensures.value ∙ (λ i. cut_stats (e.0 i) ((e.2 i).row_ptr.now) ((e.2 i).col_idx.now) ((e.1 i).components.now) a.self.seeds.words.now a.hops))
