use Rattle.std.proofs.Common.{◌≡◌, ◌∙◌, sym, ap, Bool, true, false, List, ◌++◌, ◌&&◌, rules}
use Rattle.std.proofs.lemmas.List.{nil_from_length}
use Rattle.std.proofs.lemmas.List.Folds.{list_all-append}
use Rattle.base.specs.Lists.{every}
use Rattle.base.proofs.scan.all_below.Goals as goal

-- a part of what is left decides, or else what is left behind it does
module _ {A : Type 0} (f : A → Bool) (whole left part rest : List A) (told : every f left ≡ every f whole) (parts : left ≡ part ++ rest) where
  decided : (b : Bool) → every f part ≡ b → (b && every f rest) ≡ every f whole
  decided b e = sym (ap (every f) parts ∙ list_all-append f part rest ∙ ap (λ (t : Bool). t && every f rest) e) ∙ told

pub loop-part-init : goal.loop-part-init
loop-part-init g c = (search rules, tt, search rules, search rules)

pub returns-then-not-part_below : goal.returns-then-not-part_below
returns-then-not-part_below g c = decided _ _ _ _ _ c.loop-part.invariant.3 c.in-Some.ensures.steps.1.0 false (sym c.part_below.ensures ∙ c.if-not-part_below.true)

pub loop-part-preserved : goal.loop-part-preserved
loop-part-preserved g c =
    let steps = c.in-Some.ensures.steps in (
      search rules,
      tt,
      steps.0 ∙ c.loop-part.invariant.2,
      decided _ _ _ _ _ c.loop-part.invariant.3 steps.1.0 true (sym c.part_below.ensures ∙ c.if-not-part_below.false),
    )

pub returns : goal.returns
returns g c = sym (ap (every _) (nil_from_length _ c.in-None.ensures.steps.1.0)) ∙ c.loop-part.invariant.3
