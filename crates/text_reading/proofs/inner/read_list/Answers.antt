-- `text_reading::inner::read_list` meets its contract. Assumes nothing.
use Rattle.std.proofs.Common.{◌≡◌, ◌&&◌, length, set, sym, ap, ◌∙◌, subst, arith, option_copied}
use borrow.Author.Tests.{eqb-true, eqb-false}
use Rattle.text_writing.specs.Text.{comma}
use Rattle.text_reading.specs.Reading.{is_number, number_of, before}
use Rattle.text_reading.proofs.Numbers.{number-some, number-or, number-within}
use Rattle.text_reading.proofs.Fields.{Listing, left_length, left-shorter, list-none, listing-turn, listing-end}
use Rattle.text_reading.proofs.inner.read_list.Given.{Over}
use Rattle.text_reading.proofs.inner.read_list.Goals.{After-unwrap_or}
use Rattle.text_reading.proofs.inner.read_list.Goals as goal

-- the number that is stored
value : (g : Over) (c : After-unwrap_or g) → c.unwrap_or.result ≡ number_of c.args.most (before comma c.in-Some.part.now)
value g c = cc (c.unwrap_or.ensures, c.read_number-number.ensures, c.cut.ensures.front, number-or c.args.most (before comma c.in-Some.part.now))

pub returns-then-is_empty : goal.returns-then-is_empty
returns-then-is_empty g c = let e = list-none g.T.Width.made c.args.most c.args.bytes.now c.args.list.now (eqb-true (length c.args.bytes.now) 0 (sym c.is_empty.ensures ∙ c.if-is_empty.true)) in record { count = e.0; list_after = e.1 }

pub of-requires : goal.of-requires
of-requires g c = omega (arith, value g (goal.at.of-requires g c).After-unwrap_or, number-within c.args.most (before comma c.in-Some.part.now), c.requires.width)

pub loop-left-smaller : goal.loop-left-smaller
loop-left-smaller g c = omega (arith, left-shorter c.in-Some.part.now, ap left_length c.cut.ensures.back, ap (λ o. left_length (option_copied o)) c.in-Some.is)

pub loop-left-preserved : goal.loop-left-preserved
loop-left-preserved g c =
    let made = g.T.Width.made in
    let most = c.args.most in
    let l = c.loop-left in
    let field = before comma c.in-Some.part.now in
    let turn = listing-turn made most c.args.bytes.now c.args.list.now l.list l.good l.count c.in-Some.part.now (subst (λ o. Listing made most c.args.bytes.now c.args.list.now l.list l.good l.count (option_copied o)) c.in-Some.is l.invariant) in
    let list : c.store.new.list ≡ set l.list l.count (made (number_of most field)) = cc (value g (goal.at.loop-left-preserved g c).After-unwrap_or) in
    let good : (l.good && c.is_some-good.result) ≡ (l.good && is_number most field) = cc (c.is_some-good.ensures, c.read_number-number.ensures, c.cut.ensures.front, number-some most field) in
    rw (list, good, c.cut.ensures.back) turn

pub returns : goal.returns
returns g c =
    let l = c.loop-left in
    let e = listing-end g.T.Width.made c.args.most c.args.bytes.now c.args.list.now l.list l.good l.count (subst (λ o. Listing g.T.Width.made c.args.most c.args.bytes.now c.args.list.now l.list l.good l.count (option_copied o)) c.in_default.is l.invariant) (omega (arith, eqb-false (length c.args.bytes.now) 0 (sym c.is_empty.ensures ∙ c.if-is_empty.false))) in record {
      count = c.tell.ensures ∙ e.0;
      list_after = e.1;
    }
