-- `gather::GatherPlan::gather_values` meets its contract. Assumes nothing.
use mathlib.Core.Path.{◌≡◌, refl, sym, ◌∙◌}
use Rattle.std.specs.Prelude.{Ok, Err}
use Rattle.base.proofs.Checks.{handed}
use native.Mathlib.Omega.{arith}
use Rattle.base.proofs.Checks.{on-accepted, on-refused, kept}
use Rattle.gather.specs.Gather.{gather_check}
use Rattle.gather.proofs.Plans.{Accepts, accepted-gather}
use Rattle.gather.proofs.GatherPlan.gather_values.Goals.{In_ok-check_gather, Start}
use Rattle.gather.proofs.GatherPlan.gather_values.Goals as goal

abbrev start : In_ok-check_gather → Start
start c = (goal.at.In_ok-check_gather c).Start

-- the arm that goes on is that of an accepted check
accepts : (c : In_ok-check_gather) → gather_check (start c).args.self.source_ptr.now (start c).args.self.source_indices.now (start c).args.self.source_value_len (start c).args.values.now (start c).args.out.now ≡ Ok tt
accepts c = sym c.check_gather.ensures ∙ c.in_ok-check_gather.was

sound : (c : In_ok-check_gather) → Accepts (start c).args.self.source_ptr.now (start c).args.self.source_indices.now (start c).args.self.source_value_len (start c).args.values.now (start c).args.out.now
sound c = accepted-gather _ _ _ _ _ (accepts c)

pub invariant_of-plan : goal.invariant_of-plan
invariant_of-plan c =
    let s = sound (goal.at.invariant_of-plan c).In_ok-check_gather in record {
      some = s.some;
      starts = s.starts;
      rises = s.rises;
      ends = s.ends;
      inside = s.inside;
    }

pub gather-requires : goal.gather-requires
gather-requires c = (sound (goal.at.gather-requires c).In_ok-check_gather).room

pub overflow_sub-result : goal.overflow_sub-result
overflow_sub-result c = let s = (sound (goal.at.overflow_sub-result c).In_ok-check_gather).some in omega arith

pub returns-in_err-check_gather : goal.returns-in_err-check_gather
returns-in_err-check_gather c =
    let e = sym c.check_gather.ensures ∙ c.in_err-check_gather.was in record {
      value = handed _ _ c.from_residual.ensures.1 ∙ on-refused _ _ _ Err e;
      out_after = kept _ _ _ _ e;
    }

pub returns : goal.returns
returns c =
    let e = accepts (goal.at.returns c).In_ok-check_gather in record {
      value = on-accepted _ _ _ Err e refl;
      out_after = on-accepted _ _ _ _ e c.gather.ensures;
    }
