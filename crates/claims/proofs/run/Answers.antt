-- `claims::run` meets its contract. Assumes nothing.
use mathlib.Core.Path.{sym, ap, ◌∙◌}
use Rattle.std.specs.Prelude.{Ok, Err}
use Rattle.base.proofs.Checks.{handed, on-accepted, on-refused, kept}
use Rattle.csr32.specs.Views.{stores}
use Rattle.side.specs.Views.{holds}
use Rattle.dual_topology.specs.Views.{check_topology}
use Rattle.growths.specs.Counts.{seeds_after, region_once_grown, frontier_once_grown, scratch_once_grown}
use Rattle.growths.specs.declared.Ran.{Ran}
use Rattle.claims.specs.Run.{with_cut, without_cut}
use Rattle.claims.specs.Views.{plan_on, answer_on, values_on}
use Rattle.claims.proofs.Checking.{accepted-sides, accepted-arrays, accepted-field-run}
use Rattle.claims.proofs.Finishing.{finished}
use Rattle.claims.proofs.run.Goals as goal

pub grow-ran-requires : goal.grow-ran-requires
grow-ran-requires g c =
    let a = accepted-field-run _ _ _ _ (sym c.check.ensures ∙ c.in_ok-check.was) in
    let b = accepted-sides (check_topology c.args.topology) c.args.topology.rows.nrows c.args.topology.rows.ncols c.args.matrix.nrows c.args.matrix.ncols a.1 in
    let d = accepted-arrays c.args.topology.rows.nrows c.args.len c.args.seeds.now (holds c.args.topology.rows) (stores c.args.matrix) c.args.hops.now c.args.rooms.now a.3 in
    (b.topology_ok, b.square, a.2, d.mask)

pub invariant_of-asked : goal.invariant_of-asked
invariant_of-asked g c =
    let a = accepted-field-run _ _ _ _ (sym c.check.ensures ∙ c.in_ok-check.was) in
    let d = accepted-arrays c.args.topology.rows.nrows c.args.len c.args.seeds.now (holds c.args.topology.rows) (stores c.args.matrix) c.args.hops.now c.args.rooms.now a.3 in
    record { one_each = d.one_each }

pub returns-in_err-check : goal.returns-in_err-check
returns-in_err-check g c =
    let e = sym c.check.ensures ∙ c.in_err-check.was in record {
      value = handed _ _ c.from_residual.ensures.1 ∙ on-refused _ _ _ Err e;
      renewed = kept _ _ _ _ e;
      inside = kept _ _ _ _ e;
      edge = kept _ _ _ _ e;
      spent = kept _ _ _ _ e;
      members = kept _ _ _ _ e;
      pointers = kept _ _ _ _ e;
      columns = kept _ _ _ _ e;
      starts = kept _ _ _ _ e;
      sources = kept _ _ _ _ e;
      filled = kept _ _ _ _ e;
    }

pub returns : goal.returns
returns g c =
    let e = sym c.check.ensures ∙ c.in_ok-check.was in
    let n = g.B.Growing.network c.args.by.now c.args.topology in
    let u = c.grow-ran.ensures in
    let v = c.finish.ensures in record {
      value = on-accepted _ _ _ _ e (ap Ok (v.value ∙ finished n c.args.seeds.now _ _ _ u.value u.renewed (λ r w. with_cut r (answer_on c.args.topology c.args.matrix c.args.len w c.args.global_nodes.now c.args.local_row_ptr.now c.args.local_col_idx.now c.args.source_ptr.now c.args.source_indices.now c.args.new_values.now c.args.out.now)) without_cut));
      renewed = on-accepted _ _ _ _ e (u.renewed ∙ ap (λ (r : Ran). seeds_after n r c.args.seeds.now) u.value);
      inside = on-accepted _ _ _ _ e (u.inside ∙ ap (λ (r : Ran). region_once_grown n r c.args.seeds.now c.args.region.now) u.value);
      edge = on-accepted _ _ _ _ e (u.edge ∙ ap (λ (r : Ran). frontier_once_grown n r c.args.seeds.now c.args.frontier.now) u.value);
      spent = on-accepted _ _ _ _ e (u.spent ∙ ap (λ (r : Ran). scratch_once_grown n r c.args.scratch.now) u.value);
      members = on-accepted _ _ _ _ e (v.members ∙ finished n c.args.seeds.now _ _ _ u.value u.renewed (λ r w. (plan_on c.args.topology c.args.matrix c.args.len w c.args.global_nodes.now c.args.local_row_ptr.now c.args.local_col_idx.now c.args.source_ptr.now c.args.source_indices.now).nodes) (λ r. c.args.global_nodes.now));
      pointers = on-accepted _ _ _ _ e (v.pointers ∙ finished n c.args.seeds.now _ _ _ u.value u.renewed (λ r w. (plan_on c.args.topology c.args.matrix c.args.len w c.args.global_nodes.now c.args.local_row_ptr.now c.args.local_col_idx.now c.args.source_ptr.now c.args.source_indices.now).ptr) (λ r. c.args.local_row_ptr.now));
      columns = on-accepted _ _ _ _ e (v.columns ∙ finished n c.args.seeds.now _ _ _ u.value u.renewed (λ r w. (plan_on c.args.topology c.args.matrix c.args.len w c.args.global_nodes.now c.args.local_row_ptr.now c.args.local_col_idx.now c.args.source_ptr.now c.args.source_indices.now).columns) (λ r. c.args.local_col_idx.now));
      starts = on-accepted _ _ _ _ e (v.starts ∙ finished n c.args.seeds.now _ _ _ u.value u.renewed (λ r w. (plan_on c.args.topology c.args.matrix c.args.len w c.args.global_nodes.now c.args.local_row_ptr.now c.args.local_col_idx.now c.args.source_ptr.now c.args.source_indices.now).source_ptr) (λ r. c.args.source_ptr.now));
      sources = on-accepted _ _ _ _ e (v.sources ∙ finished n c.args.seeds.now _ _ _ u.value u.renewed (λ r w. (plan_on c.args.topology c.args.matrix c.args.len w c.args.global_nodes.now c.args.local_row_ptr.now c.args.local_col_idx.now c.args.source_ptr.now c.args.source_indices.now).sources) (λ r. c.args.source_indices.now));
      filled = on-accepted _ _ _ _ e (v.filled ∙ finished n c.args.seeds.now _ _ _ u.value u.renewed (λ r w. values_on c.args.topology c.args.matrix c.args.len w c.args.global_nodes.now c.args.local_row_ptr.now c.args.local_col_idx.now c.args.source_ptr.now c.args.source_indices.now c.args.new_values.now c.args.out.now) (λ r. c.args.out.now));
    }
