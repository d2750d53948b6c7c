use Rattle.std.proofs.Common.{◌≡◌, ◌≤◌, length, sym, ◌∙◌, rules, arith}
use lib.Dec.{leb}
use borrow.Author.Tests.{leb-true}
use Rattle.base.proofs.Lists.{pairwise-at}
use Rattle.base.specs.Checks.{entry_limit}
use Rattle.side.specs.Check.{side_fault, lists_agree, bits_in, IsSide}
use Rattle.side.proofs.Accepted.{if-sound, sound-side}
use Rattle.side.proofs.inner.first_fault.Goals as goal

pub check_words-requires : goal.check_words-requires
check_words-requires c = (
  record {
    few_rows = c.requires.0;
    few_words = c.requires.2;
    rows = c.if-row_word_ptr-nrows.false;
    as_many = c.if-word_indices-masks.false;
    starts = c.if-row_word_ptr-ne0.false;
    ends = c.if-row_word_ptr-nrows-2.false;
    rises = λ r h. leb-true _ _ (pairwise-at leb 0 _ r (sym c.never_falls.ensures ∙ c.if-not-never_falls.false) (omega arith));
  },
  c.requires.1,
)

pub returns-clause-sound : goal.returns-clause-sound
unfolding side_fault lists_agree
returns-clause-sound c =
    let a = c.args in
    let value : c.check_words.result ≡ side_fault a.nrows a.ncols a.row_word_ptr.now a.word_indices.now a.masks.now a.structural_nnz = search rules in
    if-sound {P = a.structural_nnz ≤ entry_limit → IsSide a.nrows a.ncols a.row_word_ptr.now a.word_indices.now a.masks.now × (a.structural_nnz ≡ bits_in a.masks.now 0 (length a.masks.now))} _
    (λ e few. sound-side _ _ _ _ _ _ c.requires.0 c.requires.1 c.requires.2 few (λ k. (c.type_inv.masks k).fits) (sym value ∙ e))
