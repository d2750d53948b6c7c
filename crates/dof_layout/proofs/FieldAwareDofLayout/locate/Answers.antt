-- `dof_layout::FieldAwareDofLayout::locate` meets its contract. Assumes nothing.
use Rattle.std.proofs.Common.{◌≡◌, sym, ap, ap₂, ◌∙◌, subst, Bool, cond, List, ℕ, ◌-◌, ◌≤◌, ◌<◌, arith, lt-ltb, le-ltb, ltb, length, T}
use Rattle.std.specs.Prelude.{Ok, Some, None}
use Rattle.base.proofs.Checks.{on-accepted}
use Rattle.dof_layout.specs.Layout.{start_of, total_of, in_block, block_of}
use Rattle.dof_layout.specs.Answers.{address_of}
use Rattle.dof_layout.proofs.Layouts.{start-zero, block-holds, block-from}
use Rattle.dof_layout.proofs.FieldAwareDofLayout.locate.Goals.{After-start, Else-dof-total, In_ok-layout}
use Rattle.dof_layout.proofs.FieldAwareDofLayout.locate.Goals as goal

-- the blocks of the accepted layout are those that are lent
same : (c : In_ok-layout) → c.in_ok-layout.layout.components.now ≡ c.args.self.blocks.components.now
same c = ap (λ x. x.now) c.in_ok-layout.ensures.accepted.2.0

pub returns-then-dof-total : goal.returns-then-dof-total
returns-then-dof-total c =
    let n = c.args.self.blocks.components.now in
    on-accepted _ _ _ _ c.in_ok-layout.ensures.accepted.0
    (sym (ap (λ (t : Bool). Ok (cond t (Some (address_of n c.args.dof)) None)) (le-ltb c.args.dof (total_of n) (subst (λ (x : List ℕ). total_of x ≤ c.args.dof) (same (goal.at.returns-then-dof-total c).In_ok-layout) (omega arith)))))

inside : (c : Else-dof-total) → c.args.dof < total_of c.in_ok-layout.layout.components.now
inside c = omega arith

pub locate-block_index-requires : goal.locate-block_index-requires
locate-block_index-requires c =
    let a = c.in_ok-layout.ensures.accepted in
    (omega (arith, a.1.blocks.some, a.1.blocks.components_length, ap (λ x. length x.now) a.2.0), omega arith, omega (arith, start-zero c.in_ok-layout.layout.components.now), inside (goal.at.locate-block_index-requires c).Else-dof-total)

held : (c : Else-dof-total)
    → (block_of c.in_ok-layout.layout.components.now c.args.dof < length c.in_ok-layout.layout.components.now) × T (in_block c.in_ok-layout.layout.components.now (block_of c.in_ok-layout.layout.components.now c.args.dof) c.args.dof)
held c = block-holds _ _ (inside c)

pub start-requires : goal.start-requires
start-requires c = omega (arith, c.locate-block_index.ensures, (held (goal.at.start-requires c).Else-dof-total).0)

-- the start of the found block is where the node's block starts, and the node is not before it
start : (c : After-start) → c.start.result ≡ start_of c.in_ok-layout.layout.components.now (block_of c.in_ok-layout.layout.components.now c.args.dof)
start c = c.start.ensures ∙ ap (start_of c.in_ok-layout.layout.components.now) c.locate-block_index.ensures

from : (c : After-start) → c.start.result ≤ c.args.dof
from c = subst (λ (n : ℕ). n ≤ c.args.dof) (sym (start c)) (block-from _ _ _ (held (goal.at.After-start c).Else-dof-total).1)

pub overflow_sub-component : goal.overflow_sub-component
overflow_sub-component c = omega (arith, from (goal.at.overflow_sub-component c).After-start)

pub overflow_cast-component : goal.overflow_cast-component
overflow_cast-component c = omega (arith, inside (goal.at.overflow_cast-component c).Else-dof-total, c.in_ok-layout.layout.few)

pub returns : goal.returns
returns c =
    let s = c.args in
    on-accepted _ _ _ _ c.in_ok-layout.ensures.accepted.0
    (subst (λ (n : List ℕ). Ok (Some (record { block_index = c.locate-block_index.result; component = s.dof - c.start.result })) ≡ Ok (cond (ltb s.dof (total_of n)) (Some (address_of n s.dof)) None)) (same (goal.at.returns c).In_ok-layout)
    (ap₂ (λ (b k : ℕ). Ok (Some (record { block_index = b; component = k }))) c.locate-block_index.ensures (ap (λ (k : ℕ). s.dof - k) (start (goal.at.returns c).After-start))
    ∙ sym (ap (λ (t : Bool). Ok (cond t (Some (address_of c.in_ok-layout.layout.components.now s.dof)) None)) (lt-ltb s.dof (total_of c.in_ok-layout.layout.components.now) (inside (goal.at.returns c).Else-dof-total)))))
