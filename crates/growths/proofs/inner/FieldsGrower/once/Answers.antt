-- `growths::inner::FieldsGrower::once` meets its contract. Assumes nothing.
use Rattle.std.proofs.Common.{sym, ◌∙◌}
use Rattle.base.proofs.Checks.{handed}
use Rattle.growths.proofs.Growing.{taken, refused, field-own}
use Rattle.growths.proofs.inner.FieldsGrower.once.Goals as goal

pub returns-in_err-grow_field_aware_region-clause-value : goal.returns-in_err-grow_field_aware_region-clause-value
returns-in_err-grow_field_aware_region-clause-value c = handed _ _ c.from_residual.ensures.1 ∙ sym (refused _ _ _ (sym c.grow_field_aware_region.ensures.value ∙ c.in_err-grow_field_aware_region.was))

pub returns-in_err-grow_field_aware_region-clause-own : goal.returns-in_err-grow_field_aware_region-clause-own
returns-in_err-grow_field_aware_region-clause-own c = field-own _ _ _ _ _ _ _ _

pub returns-clause-value : goal.returns-clause-value
returns-clause-value c = sym (taken _ _ _ (sym c.grow_field_aware_region.ensures.value ∙ c.in_ok-grow_field_aware_region.was))

pub returns-clause-own : goal.returns-clause-own
returns-clause-own c = field-own _ _ _ _ _ _ _ _
