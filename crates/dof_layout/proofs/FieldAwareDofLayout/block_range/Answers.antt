-- `dof_layout::FieldAwareDofLayout::block_range` meets its contract. Assumes nothing.
use Rattle.std.proofs.Common.{◌≡◌, sym, ap, ap₂, ◌∙◌, Bool, cond, ℕ, arith, lt-ltb, le-ltb, length, add-one}
use Rattle.std.specs.Prelude.{Ok, Some, None}
use Rattle.base.proofs.Checks.{on-accepted}
use Rattle.dof_layout.specs.Layout.{start_of}
use Rattle.dof_layout.specs.Answers.{range_of}
use Rattle.dof_layout.proofs.FieldAwareDofLayout.block_range.Goals.{In_ok-layout}
use Rattle.dof_layout.proofs.FieldAwareDofLayout.block_range.Goals as goal

-- the accepted layout has as many blocks as there are kinds
many : (c : In_ok-layout) → length c.in_ok-layout.layout.components.now ≡ length c.args.self.blocks.entity_kinds.now
many c = ap (λ x. length x.now) c.in_ok-layout.ensures.accepted.2.0 ∙ c.in_ok-layout.ensures.accepted.1.blocks.components_length

pub returns-then-index-layout : goal.returns-then-index-layout
returns-then-index-layout c =
    on-accepted _ _ _ _ c.in_ok-layout.ensures.accepted.0
    (sym (ap (λ (t : Bool). Ok (cond t (Some (range_of c.args.self.blocks.components.now c.args.index)) None)) (le-ltb _ _ (omega (arith, many (goal.at.returns-then-index-layout c).In_ok-layout)))))

pub start-requires : goal.start-requires
start-requires c = omega arith

pub start-requires-2 : goal.start-requires-2
start-requires-2 c = omega arith

pub returns : goal.returns
returns c =
    let s = c.args in
    let b = s.index in
    on-accepted _ _ _ _ c.in_ok-layout.ensures.accepted.0
    (ap₂ (λ (x y : ℕ). Ok (Some (record { start = x; end = y })))
    (c.start.ensures ∙ ap (λ x. start_of x.now b) c.in_ok-layout.ensures.accepted.2.0)
    (c.start-2.ensures ∙ ap₂ (λ x n. start_of x.now n) c.in_ok-layout.ensures.accepted.2.0 (add-one b))
    ∙ sym (ap (λ (t : Bool). Ok (cond t (Some (range_of s.self.blocks.components.now b)) None)) (lt-ltb _ _ (omega (arith, many (goal.at.returns c).In_ok-layout)))))
