-- `side::inner::rank` meets its contract. Assumes nothing.
use Rattle.std.proofs.Common.{ap₂, ◌∙◌, ℕ, ◌+◌, ◌%◌, ◌^◌, ◌<◌, arith}
use lib.ListN.{get_or}
use Rattle.base.proofs.Sets.{count-le}
use Rattle.word.specs.Bits.{bit_at}
use Rattle.side.specs.Row.{Row}
use Rattle.side.specs.Side.{row_holds}
use Rattle.side.proofs.Holding.{own_row}
use Rattle.side.proofs.Sides.{bits-le}
use Rattle.side.proofs.Ranks.{rank-word, rank-none}
use Rattle.side.proofs.inner.rank.Goals.{Start}
use Rattle.side.proofs.inner.rank.Goals as goal

row : (c : Start) → ((k : ℕ) → get_or c.args.masks.now k 0 < 2 ^ 64) → Row (row_holds c.args.word_indices.now c.args.masks.now c.args.from c.args.to) c.args.word_indices.now c.args.masks.now c.args.from c.args.to
row c fits = own_row _ _ _ _ c.requires.0 c.requires.1 c.requires.2 c.requires.3.rising c.requires.3.used (λ k a b. fits k)

pub overflow_add-result : goal.overflow_add-result
overflow_add-result c =
    let a = c.args in
    omega (arith, c.in-Ok.ensures.found.1, c.requires.4, c.count_bits.ensures, bits-le a.masks.now a.from c.in-Ok.at, c.rank-below.ensures, count-le (a.col % 64) (bit_at (get_or a.masks.now c.in-Ok.at 0)))

pub returns-in-Ok : goal.returns-in-Ok
returns-in-Ok c =
    let f = c.in-Ok.ensures.found in
    ap₂ ◌+◌ c.count_bits.ensures c.rank-below.ensures ∙ rank-word _ _ _ _ _ (row (goal.at.returns-in-Ok c).Start (λ k. (c.type_inv.masks k).fits)) c.requires.1 c.requires.2 _ _ f.0 f.1 f.2

pub returns-in-Err : goal.returns-in-Err
returns-in-Err c =
    let f = c.in-Err.ensures.missing in
    c.count_bits-in-Err.ensures ∙ rank-none _ _ _ _ _ (row (goal.at.returns-in-Err c).Start (λ k. (c.type_inv.masks k).fits)) c.requires.1 c.requires.2 _ _ f.0 f.1
