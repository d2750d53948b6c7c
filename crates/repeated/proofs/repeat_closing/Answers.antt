-- `repeated::repeat_closing` meets its contract. The invariant: the list is as it was. Assumes nothing.
use mathlib.Core.Path.{sym, ap, ◌∙◌}
use lib.ListN.{length}
use Rattle.mask.specs.Mask.{in_mask, words_needed}
use Rattle.mask.proofs.Masks.{mask-length}
use Rattle.dof_layout.specs.Layout.{total_of, block_of}
use Rattle.graph.specs.Network.{closed}
use Rattle.repeated.proofs.repeat_closing.Goals as goal

pub close-requires : goal.close-requires
close-requires c =
    let T = total_of c.args.layout.components.now in
    (c.args.layout.totals, c.requires.0, ap length (c.loop.invariant ∙ c.requires.1) ∙ mask-length T (closed T (block_of c.args.layout.components.now) (in_mask c.args.mask.words.now)) ∙ ap words_needed (sym c.requires.0))
