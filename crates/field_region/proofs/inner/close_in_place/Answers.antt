-- `field_region::inner::close_in_place` meets its contract. Assumes nothing.
use Rattle.std.proofs.Common.{refl, ◌∙◌, ◌*◌, arith}
use Rattle.word.proofs.Turns.{none-turn}
use Rattle.mask.proofs.Masks.{is-of, is-length}
use Rattle.mask.proofs.Nexts.{next-is}
use Rattle.mask.proofs.Stores.{range-bits, range-ahead}
use Rattle.dof_layout.proofs.Layouts.{offsets-count, total-is}
use Rattle.field_region.proofs.Blocks.{block-at}
use Rattle.field_region.proofs.Closing.{closing-none, closing-word, closing-leave, closing-all, range-passed, range-one}
use Rattle.field_region.proofs.inner.close_in_place.Goals as goal

pub bounds-offsets-components : goal.bounds-offsets-components
bounds-offsets-components c = omega (arith, offsets-count _ _ c.requires.0)

pub blocks-2-init : goal.blocks-2-init
blocks-2-init c = record {
  pointers = offsets-count _ _ c.requires.0;
  closed = c.requires.2.exact ∙ closing-none _ _;
  free = λ i a l t. absurd (omega arith);
}

pub blocks-2-preserved-then-end-next : goal.blocks-2-preserved-then-end-next
blocks-2-preserved-then-end-next c =
    let k = block-at _ _ _ c.requires.0 c.blocks-2-test.true in
    let v = c.blocks-2.invariant in record {
      pointers = v.pointers;
      closed = closing-leave _ _ _ _ c.blocks-2-test.true v.closed _ _ k _ (omega arith) (range-passed _ _ _ _ v.free c.if-end-next.true (64 * c.blocks-2.next));
      free = λ i a l t. v.free i (omega (arith, k)) l t;
    }

pub words_for-stop-requires : goal.words_for-stop-requires
words_for-stop-requires c = omega (arith, block-at _ _ _ c.requires.0 c.blocks-2-test.true)

pub loop-w-init : goal.loop-w-init
loop-w-init c =
    let k = block-at _ _ _ c.requires.0 c.blocks-2-test.true in record {
      same = refl;
      masked = is-of _ _ _ c.requires.1 c.blocks-2.invariant.closed;
      rises = omega (arith, k);
      within = omega (arith, k);
      none = range-ahead _ _ _ _ (omega arith);
    }

pub bounds-words-w : goal.bounds-words-w
bounds-words-w c = omega (arith, is-length _ _ c.loop-w.invariant.masked)

pub blocks-2-preserved-then-stop-first : goal.blocks-2-preserved-then-stop-first
blocks-2-preserved-then-stop-first c =
    let k = block-at _ _ _ c.requires.0 c.blocks-2-test.true in
    let v = c.loop-w.invariant in record {
      pointers = c.blocks-2.invariant.pointers;
      closed = range-one _ _ _ _ _ _ v.masked v.within (omega arith) (omega arith) (omega arith) c.bits_between-block.ensures
          ∙ closing-word _ _ _ _ c.blocks-2-test.true (v.same ∙ c.blocks-2.invariant.closed) _ _ k _ _ c.bits_between-block.ensures (omega arith) c.if-words-w-ne0.true;
      free = λ i a l t. absurd (omega (arith, c.if-end-next.false));
    }

pub add_range-requires : goal.add_range-requires
add_range-requires c =
    let e = total-is _ _ c.requires.0 in
    (rw e c.loop-w.invariant.masked, omega (arith, e))

pub blocks-2-preserved-then-words-w-ne0 : goal.blocks-2-preserved-then-words-w-ne0
blocks-2-preserved-then-words-w-ne0 c =
    let k = block-at _ _ _ c.requires.0 c.blocks-2-test.true in
    let v = c.loop-w.invariant in record {
      pointers = c.blocks-2.invariant.pointers;
      closed = c.add_range.ensures
          ∙ rw (total-is _ _ c.requires.0) (closing-word _ _ _ _ c.blocks-2-test.true (v.same ∙ c.blocks-2.invariant.closed) _ _ k _ _ c.bits_between-block.ensures (omega arith) c.if-words-w-ne0.true);
      free = λ i a l t. absurd (omega (arith, c.if-end-next.false));
    }

pub loop-w-preserved : goal.loop-w-preserved
loop-w-preserved c =
    let v = c.loop-w.invariant in record {
      same = v.same;
      masked = v.masked;
      rises = v.rises;
      within = v.within;
      none = none-turn _ _ _ (range-bits _ _ _ _ _ c.bits_between-block.ensures) c.if-words-w-ne0.false v.none;
    }

pub invariant_of-next_member : goal.invariant_of-next_member
invariant_of-next_member c = record { accepted = rw (total-is _ _ c.requires.0) c.loop-w.invariant.masked }

pub next_member-next-requires : goal.next_member-next-requires
next_member-next-requires c = omega (arith, total-is _ _ c.requires.0)

pub blocks-2-preserved : goal.blocks-2-preserved
blocks-2-preserved c =
    let k = block-at _ _ _ c.requires.0 c.blocks-2-test.true in
    let v = c.loop-w.invariant in record {
      pointers = c.blocks-2.invariant.pointers;
      closed = closing-leave _ _ _ _ c.blocks-2-test.true (v.same ∙ c.blocks-2.invariant.closed) _ _ k c.loop-w.w (omega arith) v.none;
      free = (next-is _ _ _ _ (omega (arith, total-is _ _ c.requires.0)) c.next_member-next.ensures).none;
    }

pub returns : goal.returns
returns c = c.blocks-2.invariant.closed ∙ closing-all _ _ _ (omega arith)
