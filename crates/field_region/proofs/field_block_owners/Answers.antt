-- `field_region::field_block_owners` meets its contract. Assumes nothing.
use Rattle.std.proofs.Common.{◌≡◌, sym, ap, ◌∙◌, length}
use Rattle.std.specs.Prelude.{Ok, Err}
use Rattle.base.specs.Lists.{over}
use Rattle.base.proofs.Checks.{handed, group-pass, group-stop, on-accepted, on-refused, kept}
use Rattle.field_region.specs.Owners.{owned_check, owners_check, owners_of}
use Rattle.field_region.proofs.Owning.{accepted-owned}
use Rattle.field_region.proofs.field_block_owners.Goals.{In_ok-layout}
use Rattle.field_region.proofs.field_block_owners.Goals as goal

-- the blocks of the accepted layout are those that are lent
same : (c : In_ok-layout) → c.in_ok-layout.layout.components.now ≡ c.args.layout.blocks.components.now
same c = ap (λ x. x.now) c.in_ok-layout.ensures.accepted.2.0

pub returns-in_err-layout-clause-value : goal.returns-in_err-layout-clause-value
unfolding owners_check
returns-in_err-layout-clause-value c = handed _ _ c.from_residual.ensures.1 ∙ on-refused _ _ _ Err (sym (group-stop _ _ _ c.in_err-layout.ensures.refused))

pub returns-in_err-check_owned : goal.returns-in_err-check_owned
unfolding owners_check
returns-in_err-check_owned c =
    let s = same (goal.at.returns-in_err-check_owned c).In_ok-layout in
    let r = ap (λ x. owned_check x c.args.dof_owners.now c.args.ranks (length c.args.out.now)) (sym s) ∙ sym c.check_owned.ensures ∙ c.in_err-check_owned.was in
    let e = sym (group-pass _ _ _ c.in_ok-layout.ensures.accepted.0 (sym r)) in record {
      value = handed _ _ c.from_residual-in_err-check_owned.ensures.1 ∙ on-refused _ _ _ Err e;
      out_after = kept _ _ _ _ e;
    }

pub write_owners-requires : goal.write_owners-requires
write_owners-requires c =
    let a = accepted-owned _ _ _ _ (sym c.check_owned.ensures ∙ c.in_ok-check_owned.was) in
    (a.0, a.1)

pub returns : goal.returns
unfolding owners_check
returns c =
    let s = same (goal.at.returns c).In_ok-layout in
    let r = ap (λ x. owned_check x c.args.dof_owners.now c.args.ranks (length c.args.out.now)) (sym s) ∙ sym c.check_owned.ensures ∙ c.in_ok-check_owned.was in
    let e = sym (group-pass _ _ _ c.in_ok-layout.ensures.accepted.0 (sym r)) in record {
      value = on-accepted _ _ _ _ e (ap (λ x. Ok (length x)) s);
      out_after = on-accepted _ _ _ _ e (c.write_owners.ensures ∙ ap (λ x. over (owners_of x c.args.dof_owners.now) c.args.out.now) s);
    }
