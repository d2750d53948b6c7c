-- `side::inner::word_inside` meets its contract. Assumes nothing.
use borrow.Author.Rules.{rules}
use Rattle.side.proofs.Words.{inside-none, inside-whole, inside-part}
use Rattle.side.proofs.inner.word_inside.Goals as goal

pub returns-then-ncols-first : goal.returns-then-ncols-first
returns-then-ncols-first c = inside-none _ _ _ c.requires.0 (search rules) (rw c.base_col-first.ensures at c.if-ncols-first.true)

pub returns-then-left-ge-BITS : goal.returns-then-left-ge-BITS
returns-then-left-ge-BITS c = inside-whole _ _ _ (rw c.base_col-first.ensures at c.if-ncols-first.false) (rw c.base_col-first.ensures at c.if-left-ge-BITS.true)

pub returns : goal.returns
returns c =
    rw c.base_col-first.ensures
    (inside-part _ _ _ (search rules) (rw c.base_col-first.ensures at c.if-ncols-first.false) (rw c.base_col-first.ensures at c.if-left-ge-BITS.false))
