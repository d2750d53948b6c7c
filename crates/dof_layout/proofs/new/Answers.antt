-- `dof_layout::new` meets its contract. Assumes nothing.
use mathlib.Core.Path.{◌≡◌, refl, sym, ap, ◌∙◌}
use Rattle.std.specs.Prelude.{Ok, Err}
use Rattle.base.proofs.Checks.{handed}
use Prim.Native.Nat.{suc}
use native.Mathlib.Omega.{arith}
use borrow.Author.Tests.{le-leb}
use lib.ListN.{length}
use Rattle.base.proofs.Checks.{on-accepted, on-refused, group-pass, group-stop, last-pass}
use Rattle.dof_layout.specs.Layout.{blocks_check, AreBlocks}
use Rattle.dof_layout.specs.Answers.{new_check}
use Rattle.dof_layout.proofs.Layouts.{accepted-blocks}
use Rattle.dof_layout.proofs.new.Goals.{In_ok-check}
use Rattle.dof_layout.proofs.new.Goals as goal

-- in this arm the blocks are accepted
ok : (c : In_ok-check) → blocks_check c.args.blocks.entity_kinds.now c.args.blocks.entity_ids.now c.args.blocks.field_ids.now c.args.blocks.components.now ≡ Ok tt
ok c = sym c.check.ensures ∙ c.in_ok-check.was

blocks : (c : In_ok-check) → AreBlocks c.args.blocks.entity_kinds.now c.args.blocks.entity_ids.now c.args.blocks.field_ids.now c.args.blocks.components.now
blocks c = accepted-blocks _ _ _ _ (ok c)

pub write_offsets-requires : goal.write_offsets-requires
write_offsets-requires c = (omega (arith, (blocks (goal.at.write_offsets-requires c).In_ok-check).short), omega (arith, (blocks (goal.at.write_offsets-requires c).In_ok-check).components_length, c.if-out-blocks.false))

pub returns-in_err-check-clause-value : goal.returns-in_err-check-clause-value
unfolding new_check
returns-in_err-check-clause-value c = handed _ _ c.from_residual.ensures.1 ∙ on-refused _ _ _ Err (sym (group-stop _ _ _ (sym c.check.ensures ∙ c.in_err-check.was)))

pub returns : goal.returns
unfolding new_check
returns c =
    let e = sym (group-pass _ _ _ (ok (goal.at.returns c).In_ok-check) (last-pass _ _ _ (le-leb (suc (length c.args.blocks.entity_kinds.now)) (length c.args.out.now) (omega (arith, c.if-out-blocks.false))) refl)) in record {
      value = on-accepted _ _ _ _ e (ap Ok c.write_offsets.ensures.value);
      out_after = on-accepted _ _ _ _ e c.write_offsets.ensures.out_after;
    }
