-- `prepared_field_region::validate_block_owners` meets its contract. Assumes nothing.
use mathlib.Core.Path.{◌≡◌, sym, ap, ◌∙◌, subst}
use Prim.Native.Nat.{ℕ, ◌≤◌}
use mathlib.Core.List.{List}
use lib.ListN.{length}
use Rattle.std.specs.Prelude.{Ok, Err}
use Rattle.base.specs.Checks.{Check}
use Rattle.base.specs.Lists.{over}
use Rattle.base.proofs.Checks.{handed, on-accepted, on-refused, kept, both-passed, group-pass, group-stop}
use Rattle.dof_layout.specs.Layout.{total_of}
use Rattle.dof_layout.specs.Answers.{square_check}
use Rattle.field_region.specs.Owners.{owners_of, owned_check, owners_check}
use Rattle.prepared_field_region.specs.Prepared.{block_owners_check}
use Rattle.prepared_field_region.specs.Views.{check_block_owners}
use Rattle.prepared_field_region.proofs.Accepted.{accepted-block-owners}
use Rattle.prepared_field_region.proofs.validate_block_owners.Goals.{In_ok-layout, In_ok-check_owned, After-check_owned, Start}
use Rattle.prepared_field_region.proofs.validate_block_owners.Goals as goal

abbrev check : Start → Check
check s = check_block_owners s.args.matrix s.args.layout s.args.dof_owners.now s.args.ranks s.args.out.now

-- the blocks are those that were lent
same : (c : In_ok-layout) → c.in_ok-layout.layout.components.now ≡ c.args.layout.blocks.components.now
same c = ap (λ x. x.now) c.in_ok-layout.ensures.accepted.3.0

-- the owners past the layout decide
told : (c : After-check_owned) → c.check_owned.result ≡ check (goal.at.After-check_owned c).Start
unfolding block_owners_check owners_check square_check
told c =
    let l = (goal.at.After-check_owned c).In_ok-layout in
    let square = c.in_ok-layout.ensures.accepted.0 in
    group-pass _ _ _ (sym c.validate.ensures ∙ c.in_ok-validate.was) (group-pass _ _ _ square (group-pass _ _ _ (both-passed _ _ square).0
    (c.check_owned.ensures ∙ ap (λ x. owned_check x c.args.dof_owners.now c.args.ranks (length c.args.out.now)) (same l))))

-- in this arm the checks accept
ok : (c : In_ok-check_owned) → check (goal.at.In_ok-check_owned c).Start ≡ Ok tt
ok c = sym (told (goal.at.In_ok-check_owned c).After-check_owned) ∙ c.in_ok-check_owned.was

pub write_owners-requires : goal.write_owners-requires
write_owners-requires c =
    let at = goal.at.write_owners-requires c in
    let e = same at.In_ok-layout in
    let a = accepted-block-owners _ _ _ _ _ _ _ _ _ _ (ok at.In_ok-check_owned) in
    (a.1 ∙ sym (ap total_of e), subst (λ x. length x ≤ length c.args.out.now) (sym e) a.2)

pub returns-in_err-validate : goal.returns-in_err-validate
unfolding block_owners_check
returns-in_err-validate c =
    let e : check (goal.at.returns-in_err-validate c).Start ≡ Err _ = sym (group-stop _ _ _ (sym c.validate.ensures ∙ c.in_err-validate.was)) in record {
      value = handed _ _ c.from_residual.ensures.1 ∙ on-refused _ _ _ Err e;
      owned = kept _ _ _ _ e;
    }

pub returns-in_err-layout : goal.returns-in_err-layout
unfolding block_owners_check
returns-in_err-layout c =
    let e : check (goal.at.returns-in_err-layout c).Start ≡ Err _ = sym (group-pass _ _ _ (sym c.validate.ensures ∙ c.in_ok-validate.was) (group-stop _ _ _ c.in_err-layout.ensures.refused)) in record {
      value = handed _ _ c.from_residual-in_err-layout.ensures.1 ∙ on-refused _ _ _ Err e;
      owned = kept _ _ _ _ e;
    }

pub returns-in_err-check_owned : goal.returns-in_err-check_owned
returns-in_err-check_owned c =
    let e = sym (told (goal.at.returns-in_err-check_owned c).After-check_owned) ∙ c.in_err-check_owned.was in record {
      value = handed _ _ c.from_residual-in_err-check_owned.ensures.1 ∙ on-refused _ _ _ Err e;
      owned = kept _ _ _ _ e;
    }

pub returns : goal.returns
returns c =
    let at = goal.at.returns c in
    let e = same at.In_ok-layout in record {
      value = on-accepted _ _ _ _ (ok at.In_ok-check_owned) (ap (λ (x : List ℕ). Ok (length x)) e);
      owned = on-accepted _ _ _ _ (ok at.In_ok-check_owned) (c.write_owners.ensures ∙ ap (λ (x : List ℕ). over (owners_of x c.args.dof_owners.now) c.args.out.now) e);
    }
