-- `field_region::close_to_field_blocks` meets its contract. Assumes nothing.
use Rattle.std.proofs.Common.{◌≡◌, refl, sym, ap, ap₂, ◌∙◌, subst, ℕ, ◌≤◌, ◌<◌, length, le-leb, length-take-le}
use Rattle.std.proofs.lemmas.Bool.{lt-leb}
use Rattle.std.specs.Prelude.{Ok, Err}
use Rattle.base.proofs.Checks.{handed, group-pass, group-stop, last-pass, last-stop, on-accepted, on-refused, kept}
use Rattle.base.proofs.Lists.{part_left}
use Rattle.mask.specs.Mask.{words_needed, length_check}
use Rattle.mask.proofs.Masks.{mask-length}
use Rattle.dof_layout.specs.Layout.{total_of}
use Rattle.field_region.specs.Closure.{close_check, closed_words}
use Rattle.field_region.proofs.close_to_field_blocks.Goals.{In_ok-layout, In_ok-mask, After-words_for-need}
use Rattle.field_region.proofs.close_to_field_blocks.Goals as goal

-- the blocks of the accepted layout are those that are lent
same : (c : In_ok-layout) → c.in_ok-layout.layout.components.now ≡ c.args.layout.blocks.components.now
same c = ap (λ x. x.now) c.in_ok-layout.ensures.accepted.2.0

pub returns-in_err-layout-clause-value : goal.returns-in_err-layout-clause-value
unfolding close_check
returns-in_err-layout-clause-value c = handed _ _ c.from_residual.ensures.1 ∙ on-refused _ _ _ Err (sym (group-stop _ _ _ c.in_err-layout.ensures.refused))

pub accept_of-requires : goal.accept_of-requires
accept_of-requires c = rw (sym c.total.ensures) at c.in_ok-layout.layout.few

pub returns-in_err-mask : goal.returns-in_err-mask
unfolding close_check
returns-in_err-mask c =
    let t = c.total.ensures ∙ ap total_of (same (goal.at.returns-in_err-mask c).In_ok-layout) in
    let r = ap (λ n. length_check n c.args.mask.len c.args.mask.words.now) (sym t) ∙ c.in_err-mask.ensures.refused in
    let e = sym (group-pass _ _ _ c.in_ok-layout.ensures.accepted.0 (group-stop _ _ _ r)) in record {
      value = handed _ _ c.from_residual-in_err-mask.ensures.1 ∙ on-refused _ _ _ Err e;
      out_after = kept _ _ _ _ e;
    }

-- the mask is one of the layout's nodes
masked : (c : In_ok-mask) → length_check (total_of c.args.layout.blocks.components.now) c.args.mask.len c.args.mask.words.now ≡ Ok tt
masked c =
    ap (λ n. length_check n c.args.mask.len c.args.mask.words.now) (sym (c.total.ensures ∙ ap total_of (same (goal.at.In_ok-mask c).In_ok-layout))) ∙ c.in_ok-mask.ensures.accepted.0

sized : (c : In_ok-mask) → c.in_ok-mask.mask.len ≡ total_of c.in_ok-layout.layout.components.now
sized c = c.in_ok-mask.ensures.accepted.2.0 ∙ c.in_ok-mask.ensures.accepted.1 ∙ c.total.ensures

pub words_for-need-requires : goal.words_for-need-requires
words_for-need-requires c = rw (sym (sized (goal.at.words_for-need-requires c).In_ok-mask)) at c.in_ok-layout.layout.few

-- what is needed
needed : (c : After-words_for-need) → c.words_for-need.result ≡ words_needed (total_of c.args.layout.blocks.components.now)
needed c = c.words_for-need.ensures ∙ ap words_needed (sized (goal.at.After-words_for-need c).In_ok-mask ∙ ap total_of (same (goal.at.After-words_for-need c).In_ok-layout))

pub returns-then-need-out : goal.returns-then-need-out
unfolding close_check
returns-then-need-out c =
    let at = goal.at.returns-then-need-out c in
    let r = last-stop _ _ _ (lt-leb _ _ (subst (λ (n : ℕ). length c.args.out.now < n) (needed at.After-words_for-need) c.if-need-out.true)) refl in
    let e = sym (group-pass _ _ _ c.in_ok-layout.ensures.accepted.0 (group-pass _ _ _ (masked at.In_ok-mask) r)) in record {
      value = on-refused _ _ _ Err e;
      out_after = kept _ _ _ _ e;
    }

pub close-requires : goal.close-requires
close-requires c = (c.in_ok-layout.layout.totals, sized (goal.at.close-requires c).In_ok-mask, length-take-le _ _ c.if-need-out.false ∙ c.words_for-need.ensures)

pub returns : goal.returns
unfolding close_check
returns c =
    let at = goal.at.returns c in
    let n = c.args.layout.blocks.components.now in
    let r = last-pass _ _ _ (le-leb _ _ (subst (λ (k : ℕ). k ≤ length c.args.out.now) (needed at.After-words_for-need) c.if-need-out.false)) refl in
    let e = sym (group-pass _ _ _ c.in_ok-layout.ensures.accepted.0 (group-pass _ _ _ (masked at.In_ok-mask) r)) in
    let w = c.close.ensures ∙ ap₂ closed_words (same at.In_ok-layout) (ap (λ x. x.now) c.in_ok-mask.ensures.accepted.2.1) in record {
      value = on-accepted _ _ _ _ e (ap Ok c.in_ok-mask.ensures.accepted.2.0);
      out_after = on-accepted _ _ _ _ e (part_left _ _ _ _ w (needed at.After-words_for-need ∙ sym (mask-length (total_of n) _)));
    }
