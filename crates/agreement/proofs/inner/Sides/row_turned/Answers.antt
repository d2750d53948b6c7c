-- The row's words are within both lists, and the test of all of them asks each column for the row. Assumes nothing.
use Rattle.std.proofs.Common.{◌<◌, ◌+◌, ◌-◌, ℕ, Bool, refl, ◌∙◌, arith, rules, tests, get_or}
use Rattle.std.proofs.lemmas.Iterator.{YieldsList-from_range}
use Rattle.std.proofs.lemmas.Iterator.Adapters.{serves_from_places}
use Rattle.std.proofs.lemmas.Iterator.Search.{all_from_yields_List}
use Rattle.std.proofs.lemmas.List.FromFn.{get_or-range_with_len, length-range_with_len}
use Rattle.side.specs.Side.{flip}
use Rattle.side.specs.Views.{pairs}
use Rattle.side.proofs.Sides.{end-le, own, held-col}
use Rattle.agreement.proofs.Words.{word_in, words-range}
use Rattle.agreement.proofs.inner.Sides.row_turned.Goals as goal

pub all-requires-clause-callable : goal.all-requires-clause-callable
all-requires-clause-callable c =
    let s = c.args.self.rows in
    let from : ℕ = get_or s.row_word_ptr.now c.args.row 0 in
    let to : ℕ = get_or s.row_word_ptr.now (c.args.row + 1) 0 in
    serves_from_places (YieldsList-from_range from to (to - from) refl refl)
    (λ x q r. search rules)
    (λ x k h e.
    let near : k < to - from = omega (arith, h, length-range_with_len from (to - from)) in
    (c.requires, omega (arith, near, e, get_or-range_with_len from (to - from) k x near, end-le _ _ _ _ s.accepted.shape (c.args.row + 1) (omega (arith, c.requires)))))

pub returns : goal.returns
returns c =
    let s = c.args.self.rows in
    let from : ℕ = get_or s.row_word_ptr.now c.args.row 0 in
    let to : ℕ = get_or s.row_word_ptr.now (c.args.row + 1) 0 in
    let row : ℕ → Bool = flip (pairs c.args.self.columns) c.args.row in
    all_from_yields_List (word_in row s.word_indices.now s.masks.now) _ _ _ c.all.ensures.ran (YieldsList-from_range from to (to - from) refl refl) (λ x b q k. search (rules, tests))
    ∙ words-range s.ncols (pairs s c.args.row) row _ _ from to (own _ _ _ _ _ s.accepted _ c.requires) (λ d t. held-col _ _ _ _ _ s.accepted _ d c.requires t)
