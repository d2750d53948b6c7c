-- `binding::inner::count_inside` meets its contract. Assumes nothing.
use Rattle.std.proofs.Common.{ap, ◌∙◌, arith, rules, tests, ℕ, ◌+◌, ◌<◌, length}
use lib.ListN.{get_or}
use Rattle.std.proofs.lemmas.Grind.{get_or_default_zero}
use Rattle.std.proofs.lemmas.Iterator.{YieldsList-from_slice}
use Rattle.std.proofs.lemmas.Iterator.Adapters.{serves_from_places}
use Rattle.std.proofs.lemmas.Iterator.Consumers.{YieldsList-from_filter, count_from_yields_List}
use Rattle.mask.specs.Mask.{in_mask}
use Rattle.csr32.specs.Views.{columns_of_row}
use Rattle.binding.proofs.Rows.{row-entries, row-long, row_column}
use Rattle.binding.proofs.Sources.{row-inside}
use Rattle.binding.proofs.inner.count_inside.Goals.{Start}
use Rattle.binding.proofs.inner.count_inside.Goals as goal

-- a column of the row is a node
node : (c : Start) → (k : ℕ) → k < length (columns_of_row c.args.matrix c.args.r) → get_or (columns_of_row c.args.matrix c.args.r) k 0 < c.args.region.len
node c k l =
    let row = row-entries _ _ _ c.requires.0 c.args.r c.requires.1 in
    omega (
      arith,
      row_column _ _ _ c.requires.0 c.args.r c.requires.1 k l,
      row.inside (get_or c.args.matrix.row_ptr.now c.args.r 0 + k) (omega (arith, l, row-long _ _ _ c.requires.0 c.args.r c.requires.1, row.within)),
    )

pub count-requires-clause-can : goal.count-requires-clause-can
count-requires-clause-can c = (
  tt,
  tt,
  serves_from_places (YieldsList-from_slice (columns_of_row c.args.matrix c.args.r) (ap (λ i. i.rest.now) c.filter.ensures.source ∙ c.iter.ensures.rest ∙ c.row_columns.ensures)) (λ x q k. search (rules, tests)) (λ x k l e y at a b d f g h i.
      omega (
        arith,
        node (goal.at.count-requires-clause-can c).Start k l,
        ap (λ z. z.now) at,
        e,
        get_or_default_zero _ k x.now l,
        ap (λ z. z.0.now.len) c.filter.ensures.closure,
      )),
)

pub returns : goal.returns
returns c =
    count_from_yields_List c.filter.result _ c.count.ensures.ran
    (YieldsList-from_filter _ (in_mask c.args.region.words.now) (YieldsList-from_slice (columns_of_row c.args.matrix c.args.r) (ap (λ i. i.rest.now) c.filter.ensures.source ∙ c.iter.ensures.rest ∙ c.row_columns.ensures)) c.filter.ensures.closure (λ x b q k. search (rules, tests)))
    ∙ row-inside _ _ _ _ c.requires.0 c.args.r c.requires.1
