-- `dof_layout::inner::are_offsets` meets its contract. Assumes nothing.
use Rattle.std.proofs.Common.{◌≡◌, refl, ◌∙◌, ap, length, take, arith, length-take-le}
use Rattle.std.proofs.lemmas.Slice.Zip.{zip_end}
use Rattle.dof_layout.specs.Layout.{start_of}
use Rattle.dof_layout.proofs.Layouts.{last-decides}
use Rattle.dof_layout.proofs.inner.are_offsets.Goals as goal

-- where nothing is left, every block was compared
pub returns : goal.returns
returns c =
    let cs = c.args.components.now in
    let os = c.args.offsets.now in
    let both = c.into_iter-start-iterator.ensures.into_iter_gives in
    let first = ap (λ z. z.a.rest.now) both ∙ ap (λ i. i.rest.now) c.zip-start-items.ensures.first ∙ c.iter.ensures.rest in
    let second = ap (λ z. z.b.rest.now) both ∙ c.zip-start-items.ensures.second.0 in
    let all : length c.loop-start.yielded ≡ length cs =
    omega (arith, length-take-le (length cs) os (omega arith), zip_end (take (length cs) os) cs _ c.into_iter-start-iterator.result _ c.next.new.self _ first second c.loop-start.yielded_by c.in-None.is c.next.ensures.steps) in
    last-decides cs os (length cs) c.loop-start.total (omega arith) refl (c.loop-start.invariant.0 ∙ ap (start_of cs) all) (λ a h. c.loop-start.invariant.1 a (omega arith))
