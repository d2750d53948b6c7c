-- `job_text::inner::read_job` meets its contract. Assumes nothing.
use Rattle.std.proofs.Common.{◌≡◌, Bool, List, ℕ, eqb, false, length, take, sym, ap, ◌∙◌, map-id}
use borrow.Author.Tests.{le-leb, lt-leb}
use Rattle.std.specs.Prelude.{Err}
use Rattle.base.specs.Lists.{over}
use Rattle.text_writing.specs.Text.{newline}
use Rattle.text_reading.specs.Reading.{told, behind, list_of, value_of, number_found, list_found, from_line}
use Rattle.job_text.specs.Job.{blocks_key, ptr_key, cols_key, seeds_key, hops_key, most64, most32, number_at, list_found_at, is_job, job_of, figures_of, figure_of, figures_read}
use Rattle.job_text.proofs.Texts.{figures-all, figure-told, six_lines, job-whole, job-long, job-more}
use Rattle.job_text.proofs.inner.read_job.Goals.{After-figures-read, else-text-le-TEXT_LIMIT-via-then-text-le-TEXT_LIMIT+else-is_empty, else-text-le-TEXT_LIMIT-via-else-text-le-TEXT_LIMIT}
use Rattle.job_text.proofs.inner.read_job.Goals as goal

-- the texts behind the lines
module _ (c : After-figures-read) where
  behind1 : c.number_line-size.result.1.now ≡ from_line 1 c.args.text.now
  unfolding from_line
  behind1 = c.number_line-size.ensures.rest

  behind2 : c.list_line-blocks.result.1.now ≡ from_line 2 c.args.text.now
  unfolding from_line
  behind2 = c.list_line-blocks.ensures.rest ∙ ap (behind newline) behind1

  behind3 : c.list_line-pointers.result.1.now ≡ from_line 3 c.args.text.now
  unfolding from_line
  behind3 = c.list_line-pointers.ensures.rest ∙ ap (behind newline) behind2

  behind4 : c.list_line-columns.result.1.now ≡ from_line 4 c.args.text.now
  unfolding from_line
  behind4 = c.list_line-columns.ensures.rest ∙ ap (behind newline) behind3

  behind5 : c.list_line-seeds.result.1.now ≡ from_line 5 c.args.text.now
  unfolding from_line
  behind5 = c.list_line-seeds.ensures.rest ∙ ap (behind newline) behind4

  behind6 : c.number_line-hops.result.1.now ≡ from_line 6 c.args.text.now
  unfolding from_line
  behind6 = c.number_line-hops.ensures.rest ∙ ap (behind newline) behind5

  ends : eqb (length c.number_line-hops.result.1.now) 0 ≡ eqb (length (from_line 6 c.args.text.now)) 0
  ends = ap (λ (t : List ℕ). eqb (length t) 0) behind6

  read : c.figures-read.result ≡ told (six_lines c.args.text.now) (figures_of (job_of c.args.text.now))
  unfolding number_at list_found_at from_line job_of
  read =
      c.figures-read.ensures
      ∙ (λ i. figures_read (c.number_line-size.ensures.number i) ((c.list_line-blocks.ensures.count ∙ ap (list_found blocks_key most32) behind1) i) ((c.list_line-pointers.ensures.count ∙ ap (list_found ptr_key most32) behind2) i) ((c.list_line-columns.ensures.count ∙ ap (list_found cols_key most32) behind3) i) ((c.list_line-seeds.ensures.count ∙ ap (list_found seeds_key most64) behind4) i) ((c.number_line-hops.ensures.number ∙ ap (number_found hops_key most64) behind5) i))
      ∙ figures-all _ _ _ _ _ _ _ _ _ _ _ _

  lists :
      (c.list_line-blocks.new.list ≡ over (take (length c.args.blocks.now) (job_of c.args.text.now).blocks) c.args.blocks.now)
      × (c.list_line-pointers.new.list ≡ over (take (length c.args.ptr.now) (job_of c.args.text.now).ptr) c.args.ptr.now)
      × (c.list_line-columns.new.list ≡ over (take (length c.args.cols.now) (job_of c.args.text.now).cols) c.args.cols.now)
      × (c.list_line-seeds.new.list ≡ over (take (length c.args.seeds.now) (job_of c.args.text.now).seeds) c.args.seeds.now)
  unfolding job_of
  lists = (
    cc (c.list_line-blocks.ensures.list_after, behind1, map-id (list_of most32 (value_of blocks_key (from_line 1 c.args.text.now)))),
    cc (c.list_line-pointers.ensures.list_after, behind2, map-id (list_of most32 (value_of ptr_key (from_line 2 c.args.text.now)))),
    cc (c.list_line-columns.ensures.list_after, behind3, map-id (list_of most32 (value_of cols_key (from_line 3 c.args.text.now)))),
    cc (c.list_line-seeds.ensures.list_after, behind4, map-id (list_of most64 (value_of seeds_key (from_line 4 c.args.text.now)))),
  )

pub returns-then-is_empty : goal.returns-then-is_empty
returns-then-is_empty c =
    let a = (goal.at.returns-then-is_empty c).After-figures-read in
    let t = c.args.text.now in
    let l = lists a in
    let whole = job-whole t (le-leb _ _ c.if-text-le-TEXT_LIMIT.true) (sym (ends a) ∙ sym c.is_empty.ensures ∙ c.if-is_empty.true) in record {
      value = read a ∙ ap (λ (b : Bool). told b (figures_of (job_of t))) (sym whole);
      components = l.0;
      pointers = l.1;
      columns = l.2;
      selected = l.3;
    }

pub returns-else-text-le-TEXT_LIMIT : goal.returns-else-text-le-TEXT_LIMIT
returns-else-text-le-TEXT_LIMIT c =
    let a = (goal.at.returns-else-text-le-TEXT_LIMIT c).After-figures-read in
    let t = c.args.text.now in
    let l = lists a in
    let none : is_job t ≡ false = elim c.else-text-le-TEXT_LIMIT.branch [
      | else-text-le-TEXT_LIMIT-via-then-text-le-TEXT_LIMIT+else-is_empty w ↦ job-more t (sym (ends a) ∙ sym w.is_empty.ensures ∙ w.if-is_empty.false)
      | else-text-le-TEXT_LIMIT-via-else-text-le-TEXT_LIMIT w ↦ job-long t (lt-leb _ _ w.if-text-le-TEXT_LIMIT.false)
    ] in record {
      value = ap Err (c.figure.ensures ∙ ap figure_of (read a) ∙ figure-told (six_lines t) (figures_of (job_of t))) ∙ sym (ap (λ (b : Bool). told b (figures_of (job_of t))) none);
      components = l.0;
      pointers = l.1;
      columns = l.2;
      selected = l.3;
    }
