-- `dof_layout::FieldAwareDofLayout::field_mask` meets its contract. Assumes nothing.
use Rattle.std.proofs.Common.{◌≡◌, refl, sym, ap, ◌∙◌, subst, List, ◌++◌, ℕ, ◌≤◌, ◌<◌, arith, length, drop, le-leb, length-take-le}
use Rattle.std.specs.Prelude.{Ok, Err}
use Rattle.std.proofs.lemmas.Bool.{lt-leb}
use Rattle.base.proofs.Checks.{handed, on-accepted, on-refused, kept, group-pass, group-stop, last-pass, last-stop}
use Rattle.dof_layout.specs.Layout.{total_of}
use Rattle.dof_layout.specs.Answers.{field_check, has_field}
use Rattle.mask.specs.Mask.{words_needed, mask_words}
use Rattle.mask.proofs.Masks.{mask-length}
use Rattle.dof_layout.proofs.FieldAwareDofLayout.field_mask.Goals.{After-words_for-need, In_ok-layout}
use Rattle.dof_layout.proofs.FieldAwareDofLayout.field_mask.Goals as goal

-- the blocks of the accepted layout are those that are lent
same : (c : In_ok-layout) → c.in_ok-layout.layout.components.now ≡ c.args.self.blocks.components.now
same c = ap (λ x. x.now) c.in_ok-layout.ensures.accepted.2.0

pub words_for-need-requires : goal.words_for-need-requires
words_for-need-requires c = omega (arith, c.total-total.ensures, c.in_ok-layout.layout.few)

-- what is needed: the words of a mask of that many nodes
needed : (c : After-words_for-need) → c.words_for-need.result ≡ words_needed (total_of c.in_ok-layout.layout.components.now)
needed c = c.words_for-need.ensures ∙ ap words_needed c.total-total.ensures

lent : (c : After-words_for-need) → c.words_for-need.result ≡ words_needed (total_of c.args.self.blocks.components.now)
lent c = needed c ∙ ap (λ x. words_needed (total_of x)) (same (goal.at.After-words_for-need c).In_ok-layout)

pub returns-then-out-need : goal.returns-then-out-need
unfolding field_check
returns-then-out-need c =
    let e = sym (group-pass _ _ _ c.in_ok-layout.ensures.accepted.0 (last-stop _ _ _ (lt-leb _ _ (subst (λ (n : ℕ). length c.args.out.now < n) (lent (goal.at.returns-then-out-need c).After-words_for-need) c.if-out-need.true)) refl)) in record {
      value = on-refused _ _ _ Err e;
      out_after = kept _ _ _ _ e;
    }

pub slice_bounds-fill_field-end-2 : goal.slice_bounds-fill_field-end-2
slice_bounds-fill_field-end-2 c = sym (length-take-le _ _ c.if-out-need.false)

pub fill_field-requires : goal.fill_field-requires
fill_field-requires c =
    let a = c.in_ok-layout.ensures.accepted in
    (a.1.blocks.fields_length ∙ sym a.1.blocks.components_length ∙ sym (ap (λ x. length x.now) a.2.0), length-take-le _ _ c.if-out-need.false ∙ needed (goal.at.fill_field-requires c).After-words_for-need)

pub returns-in_err-layout-clause-value : goal.returns-in_err-layout-clause-value
unfolding field_check
returns-in_err-layout-clause-value c = handed _ _ c.from_residual.ensures.1 ∙ on-refused _ _ _ Err (sym (group-stop _ _ _ c.in_err-layout.ensures.refused))

pub returns : goal.returns
unfolding field_check
returns c =
    let s = c.args in
    let n = s.self.blocks.components.now in
    let p = has_field s.self.blocks.field_ids.now n s.field_id in
    let at = (goal.at.returns c).After-words_for-need in
    let d = same (goal.at.returns c).In_ok-layout in
    let e = sym (group-pass _ _ _ c.in_ok-layout.ensures.accepted.0 (last-pass _ _ _ (le-leb _ _ (subst (λ (k : ℕ). k ≤ length s.out.now) (lent at) c.if-out-need.false)) refl)) in record {
      value = on-accepted _ _ _ _ e (ap Ok (c.total-total.ensures ∙ ap total_of d));
      out_after = on-accepted _ _ _ _ e
          (ap (λ (x : List ℕ). x ++ drop c.words_for-need.result s.out.now) (c.fill_field.ensures ∙ ap (λ x. mask_words (total_of x) (has_field s.self.blocks.field_ids.now x s.field_id)) d)
          ∙ ap (λ (k : ℕ). mask_words (total_of n) p ++ drop k s.out.now) (lent at ∙ sym (mask-length (total_of n) p)));
    }
