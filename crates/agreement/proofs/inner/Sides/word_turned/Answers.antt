-- Each set bit is a column of the side, and the test of all of them asks each column for the row. Assumes nothing.
use Rattle.std.proofs.Common.{◌≡◌, ap, ◌∙◌, ◌+◌, ◌*◌, ℕ, Bool, arith, rules, tests}
use Rattle.base.specs.Lists.{every}
use Rattle.std.proofs.lemmas.Iterator.Adapters.{serves_from_places}
use Rattle.std.proofs.lemmas.Iterator.Consumers.{YieldsList-from_first}
use Rattle.std.proofs.lemmas.Iterator.Search.{all_from_yields_List}
use Rattle.word.specs.Bits.{set_bits}
use Rattle.word.specs.declared.inner.Bits.{Bits}
use Rattle.side.specs.Views.{pairs}
use Rattle.agreement.proofs.Words.{bit_col}
use Rattle.agreement.proofs.inner.Sides.word_turned.Goals as goal

pub all-requires-clause-callable : goal.all-requires-clause-callable
all-requires-clause-callable c =
    let s = c.args.self in
    serves_from_places (YieldsList-from_first (λ x. x) (λ (s : Bits). set_bits s.left) (set_bits c.args.word.mask) (ap set_bits c.of.ensures))
    (λ x q r. search rules)
    (λ x k h e. (omega (arith, bit_col s.rows.ncols c.args.word.word_index c.args.word.mask k x c.requires.1 h e, c.base_col-first.ensures, s.turned.shape.rows, s.columns.accepted.shape.rows), omega (arith, c.requires.0, s.turned.few_cols)))

pub returns : goal.returns
returns c =
    let from : ℕ → ℕ → Bool = λ n b. pairs c.args.self.columns (n + b) c.args.row in
    let first : c.base_col-first.result ≡ 64 * c.args.word.word_index = omega (arith, c.base_col-first.ensures) in
    all_from_yields_List (from c.base_col-first.result) _ _ _ c.all.ensures.ran
    (YieldsList-from_first (λ x. x) (λ (s : Bits). set_bits s.left) (set_bits c.args.word.mask) (ap set_bits c.of.ensures)) (λ x b q k. search (rules, tests))
    ∙ ap (λ (n : ℕ). every (from n) (set_bits c.args.word.mask)) first
