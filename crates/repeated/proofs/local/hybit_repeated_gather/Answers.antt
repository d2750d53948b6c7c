-- `repeated::local::hybit_repeated_gather` meets its contract: the list that the checked gather left is written again with the same. Assumes
-- nothing.
use mathlib.Core.Path.{◌≡◌, sym, ◌∙◌}
use Rattle.std.specs.Prelude.{Ok}
use native.Mathlib.Omega.{arith}
use Rattle.gather.specs.Gather.{gather_check, gathered}
use Rattle.gather.proofs.Plans.{Accepts, accepted-gather}
use Rattle.repeated.proofs.Rewriting.{holds, gather-accepted}
use Rattle.repeated.proofs.local.hybit_repeated_gather.Goals.{In-Ok, Start}
use Rattle.repeated.proofs.local.hybit_repeated_gather.Goals as goal

-- in this arm the checks accepted
module _ (c : In-Ok) where
  abbrev s : Start
  s = (goal.at.In-Ok c).Start

  ok : gather_check s.args.source_ptr.now s.args.source_indices.now s.args.source_value_len s.args.values.now s.args.out.now ≡ Ok tt
  ok = gather-accepted _ s.args.source_ptr.now _ (sym c.gather_values.ensures.value ∙ c.in-Ok.is)

  good : Accepts s.args.source_ptr.now s.args.source_indices.now s.args.source_value_len s.args.values.now s.args.out.now
  good = accepted-gather _ _ _ _ _ ok

pub invariant_of-accepted : goal.invariant_of-accepted
invariant_of-accepted c = let g = good (goal.at.invariant_of-accepted c).In-Ok in record { some = g.some; starts = g.starts; rises = g.rises; ends = g.ends; inside = g.inside }

pub repeat_gather-requires : goal.repeat_gather-requires
repeat_gather-requires c =
    let g = good (goal.at.repeat_gather-requires c).In-Ok in
    let left = c.gather_values.ensures.out_after in
    (omega (arith, g.room), holds _ (gathered c.args.source_ptr.now c.args.source_indices.now c.args.values.now) c.args.out.now _ (ok (goal.at.repeat_gather-requires c).In-Ok) left)
