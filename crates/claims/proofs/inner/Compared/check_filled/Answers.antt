-- `claims::inner::Compared::check_filled` meets its contract: a mask that pairs all nodes binds as `pairs_check` says. Assumes nothing.
use mathlib.Core.Path.{◌≡◌, sym, ◌∙◌}
use Rattle.base.proofs.Checks.{handed}
use Rattle.base.specs.Checks.{Check}
use native.Mathlib.Nat.{le_refl}
use Rattle.mask.specs.Mask.{in_mask}
use Rattle.mask.proofs.Masks.{is-of}
use Rattle.csr32.specs.Views.{entries}
use Rattle.side.specs.Views.{pairs}
use Rattle.binding.specs.Binding.{binding_check}
use Rattle.binding.specs.Steps.{counts_of}
use Rattle.binding.specs.declared.Counts.{Counts}
use Rattle.binding.proofs.Answers.{bound-passes, refused-stops}
use Rattle.claims.specs.Run.{pairs_check}
use Rattle.claims.proofs.Checking.{all-mask, all-pairs}
use Rattle.claims.proofs.inner.Compared.check_filled.Goals.{After-bind, Start}
use Rattle.claims.proofs.inner.Compared.check_filled.Goals as goal

-- the checks that the binding answers, and what it counts where they pass
module _ (c : After-bind) where
  abbrev s : Start
  s = (goal.at.After-bind c).Start

  abbrev check : Check
  check = binding_check s.args.self.rows.nrows (in_mask c.add_range.new.words) (pairs s.args.self.rows) (entries s.args.self.matrix)

  abbrev counts : Counts
  counts = counts_of s.args.self.rows.nrows (in_mask c.add_range.new.words) (pairs s.args.self.rows) s.args.self.matrix.row_ptr.now s.args.self.matrix.col_idx.now

  all-rows : check ≡ pairs_check s.args.self.rows.nrows (pairs s.args.self.rows) (entries s.args.self.matrix)
  all-rows = all-pairs s.args.self.rows.nrows s.args.all.now _ c.add_range.ensures (pairs s.args.self.rows) (entries s.args.self.matrix)

pub add_range-requires : goal.add_range-requires
add_range-requires c = (is-of _ _ _ c.args.self.rows.accepted.shape.few_rows c.requires, le_refl _)

pub bind-requires : goal.bind-requires
bind-requires c = all-mask _ _ _ c.add_range.ensures c.args.self.rows.accepted.shape.few_rows

pub returns-in_err-bind : goal.returns-in_err-bind
returns-in_err-bind c = handed _ _ c.from_residual.ensures.1 ∙ sym (refused-stops (check (goal.at.returns-in_err-bind c).After-bind) (counts (goal.at.returns-in_err-bind c).After-bind) _ (sym c.in_err-bind.was ∙ c.bind.ensures)) ∙ all-rows (goal.at.returns-in_err-bind c).After-bind

pub returns : goal.returns
returns c = sym (bound-passes (check (goal.at.returns c).After-bind) (counts (goal.at.returns c).After-bind) c.in_ok-bind.field-0 (sym c.in_ok-bind.was ∙ c.bind.ensures)).0 ∙ all-rows (goal.at.returns c).After-bind
