-- `dof_layout::inner::write_offsets` meets its contract. Assumes nothing.
use Rattle.std.proofs.Common.{◌≡◌, sym, ◌∙◌, List, ℕ, ◌+◌, ◌<◌, ◌≤◌, length, slice_set, arith}
use Rattle.base.specs.Lists.{written}
use Rattle.base.proofs.Lists.{put_next, put-end}
use Rattle.dof_layout.specs.Layout.{start_of, offsets_of}
use Rattle.dof_layout.proofs.Layouts.{start-next, offsets-length, offset_at}
use Rattle.dof_layout.proofs.inner.write_offsets.Goals as goal

-- one total more
put : (components lent out : List ℕ) (b total : ℕ) → b ≤ length components → length components < length lent → out ≡ written b (offsets_of components) lent
    → total ≡ start_of components b → slice_set out b total ≡ written (b + 1) (offsets_of components) lent
put components lent out b total h l e t =
    put_next (offsets_of components) lent out b total 0 (omega (arith, offsets-length components)) (omega arith) e (t ∙ sym (offset_at components b h))

pub loop-b-preserved : goal.loop-b-preserved
loop-b-preserved c = grind (arith, start-next, put)

pub returns-clause-out_after : goal.returns-clause-out_after
returns-clause-out_after c =
    let cs = c.args.components.now in
    put-end (offsets_of cs) c.args.out.now _ (length cs + 1) (omega (arith, offsets-length cs)) (grind (arith, put))
