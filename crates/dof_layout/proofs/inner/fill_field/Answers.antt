-- `dof_layout::inner::fill_field` meets its contract. Assumes nothing.
use Rattle.std.proofs.Common.{◌≡◌, sym, ap, ◌∙◌, ◌≤◌, get_or, length, arith}
use Rattle.mask.specs.Mask.{words_needed, IsMask}
use Rattle.mask.proofs.Masks.{mask_is}
use Rattle.dof_layout.specs.Layout.{start_of, total_of}
use Rattle.dof_layout.proofs.Layouts.{total-at, offsets-count, start-mono}
use Rattle.dof_layout.proofs.Fields.{taken, taken_none, taken-run, taken-all}
use Rattle.dof_layout.proofs.inner.fill_field.Goals as goal

pub bounds-offsets-components : goal.bounds-offsets-components
bounds-offsets-components c = omega (arith, offsets-count _ _ c.requires.0)

pub clear-requires : goal.clear-requires
clear-requires c = c.requires.3 ∙ ap words_needed (sym (total-at _ _ _ c.requires.0 (omega arith)))

pub loop-a-init : goal.loop-a-init
loop-a-init c =
    let s = c.args in
    let cs = s.components.now in
    let e : get_or s.offsets.now (length cs) 0 ≡ total_of cs = total-at _ cs (length cs) c.requires.0 (omega arith) in
    (omega arith, e, c.clear.ensures ∙ rw e (taken_none s.fields.now cs s.field (total_of cs)))

pub offset_bounds-offsets-a : goal.offset_bounds-offsets-a
offset_bounds-offsets-a c = omega (arith, offsets-count _ _ c.requires.0, c.requires.1, c.loop-a-test.true)

pub bounds-offsets-a : goal.bounds-offsets-a
bounds-offsets-a c = omega (arith, offsets-count _ _ c.requires.0, c.requires.1, c.loop-a-test.true)

pub offset_bounds-offsets-b : goal.offset_bounds-offsets-b
offset_bounds-offsets-b c = omega (arith, offsets-count _ _ c.requires.0, c.requires.1, c.run_end-b.ensures.within)

pub bounds-offsets-b : goal.bounds-offsets-b
bounds-offsets-b c = omega (arith, offsets-count _ _ c.requires.0, c.requires.1, c.run_end-b.ensures.within)

pub add_range-requires : goal.add_range-requires
add_range-requires c =
    let s = c.args in
    let cs = s.components.now in
    let b = c.run_end-b.result in
    let within : b ≤ length cs = omega (arith, c.requires.1, c.run_end-b.ensures.within) in
    let m : IsMask (total_of cs) c.loop-a.words = rw c.loop-a.invariant.2 (mask_is (total_of cs) (taken s.fields.now cs s.field c.loop-a.a) c.requires.2) in
    (rw c.loop-a.invariant.1 m, omega (arith, total-at _ cs b c.requires.0 within, start-mono cs b (length cs) within, c.loop-a.invariant.1))

pub loop-a-preserved : goal.loop-a-preserved
loop-a-preserved c =
    let s = c.args in
    let cs = s.components.now in
    let run = c.run_end-b.ensures in
    let start : get_or s.offsets.now c.loop-a.a 0 ≡ start_of cs c.loop-a.a = total-at _ cs c.loop-a.a c.requires.0 (omega (arith, c.requires.1, c.loop-a-test.true)) in
    let end : get_or s.offsets.now c.run_end-b.result 0 ≡ start_of cs c.run_end-b.result = total-at _ cs c.run_end-b.result c.requires.0 (omega (arith, c.requires.1, run.within)) in
    (omega (arith, run.within), c.loop-a.invariant.1, c.add_range.ensures ∙ rw (c.loop-a.invariant.1, c.loop-a.invariant.2, start, end) (taken-run s.fields.now cs s.field c.loop-a.a c.run_end-b.result c.requires.1 run))

pub returns : goal.returns
returns c = c.loop-a.invariant.2 ∙ taken-all c.args.fields.now c.args.components.now c.args.field c.loop-a.a (omega (arith, c.requires.1))
