-- `growth::inner::Rows::take` meets its contract. Assumes nothing.
use Rattle.std.proofs.Common.{sym, ap₂, ◌<◌, arith, length, get_or}
use lib.Count.{ones-le}
use Rattle.word.proofs.Bits.{ones-count}
use Rattle.mask.proofs.Masks.{is-length}
use Rattle.side.proofs.Sides.{bits_none, bits-next, bits-le}
use Rattle.side.proofs.AtRow.{at_up, at_words, at-masks, at_length, at_count}
use Rattle.growth.proofs.Takes.{row-word, join-start, join-turn}
use Rattle.growth.proofs.inner.Rows.take.Goals as goal

pub loop-k-init : goal.loop-k-init
loop-k-init c =
    let up = at_up _ _ _ _ _ c.args.self.square _ c.requires.1 in
    let hi = at_words _ _ _ _ _ c.args.self.square _ c.requires.1 in
    let hm = at-masks _ _ _ _ _ c.args.self.square _ c.requires.1 in record {
      up = up;
      stored = hm;
      counted = sym (bits_none _ _);
      joined = join-start _ _ _ _ _ c.requires.0 (omega (arith, up, hi)) (omega (arith, up, hm));
    }

pub bounds-reached-self : goal.bounds-reached-self
bounds-reached-self c = omega (arith, row-word _ _ _ _ c.args.self.square c.loop-k.k (omega arith), is-length _ _ c.requires.0)

pub bounds-reached-self-in-loop-k : goal.bounds-reached-self-in-loop-k
bounds-reached-self-in-loop-k c = omega (arith, row-word _ _ _ _ c.args.self.square c.loop-k.k (omega arith), is-length _ _ c.requires.0)

pub overflow_add-bits : goal.overflow_add-bits
overflow_add-bits c =
    let k = c.loop-k.k in
    omega (arith, c.args.self.square.shape.few_words, bits-le c.args.self.side.masks.now (get_or c.args.self.side.row_word_ptr.now c.args.i 0) k, ones-le 64 (get_or c.args.self.side.masks.now k 0) (c.args.self.square.fits k (omega arith)))

pub loop-k-preserved : goal.loop-k-preserved
loop-k-preserved c =
    let k = c.loop-k.k in
    let h : k < length c.args.self.side.masks.now = omega arith in record {
      up = omega arith;
      stored = omega arith;
      counted = omega (arith, ones-count 64 (get_or c.args.self.side.masks.now k 0) (c.args.self.square.fits k h), bits-next c.args.self.side.masks.now (get_or c.args.self.side.row_word_ptr.now c.args.i 0) k (omega arith));
      joined = rw c.loop-k.invariant.joined (join-turn _ _ _ _ c.args.self.square _ _ c.requires.1 k (omega arith) (omega arith));
    }

pub returns-clause-value : goal.returns-clause-value
returns-clause-value c = ap₂ (λ x y. record { words = x; bits = y }) (at_length _ _ _ _ _ c.args.self.square _ c.requires.1) (grind (arith, at_count _ _ _ _ _ c.args.self.square _ c.requires.1))
