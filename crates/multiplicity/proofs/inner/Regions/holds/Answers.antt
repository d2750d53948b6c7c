-- `multiplicity::inner::Regions::holds` meets its contract. The word is read in the flat list, and one bit of it tested. Assumes nothing.
use Rattle.std.proofs.Common.{◌∙◌, ap, sym, arith, ℕ, ◌+◌, ◌*◌, ◌/◌, ◌%◌, get_or}
use Rattle.word.specs.Bits.{bit_at}
use Rattle.mask.specs.Mask.{in_mask}
use Rattle.multiplicity.proofs.Regions.{region-word}
use Rattle.multiplicity.proofs.inner.Regions.holds.Goals as goal

pub returns : goal.returns
unfolding in_mask
returns c =
    let words = c.args.self.words.now in
    let bit : ℕ = c.args.node % 64 in
    c.bit.ensures
    ∙ ap (λ (w : ℕ). bit_at (get_or words (c.args.region * w + c.args.node / 64) 0) bit) c.words_for.ensures
    ∙ ap (λ (x : ℕ). bit_at x bit) (sym (region-word c.args.self.node_count words c.args.region (c.args.node / 64) (omega (arith, c.requires.1))))
