-- What a call's check says of a plan that is lent.
use Rattle.std.specs.Prelude.{List, Float}
use Rattle.base.specs.Checks.{Check}
use Rattle.gather.specs.declared.GatherPlan.{GatherPlan}
use Rattle.gather.specs.Gather.{gather_check}

-- 1, the plan, 26, the values, 25
abbrev pub check_plan : GatherPlan → List Float → List Float → Check
check_plan plan values out = gather_check plan.source_ptr.now plan.source_indices.now plan.source_value_len values out
