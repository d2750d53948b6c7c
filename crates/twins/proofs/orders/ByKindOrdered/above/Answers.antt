-- `twins::orders::Ordered::above` of `ByKind` meets its contract. Assumes nothing.
use Rattle.std.proofs.Common.{◌∙◌}
use Rattle.twins.specs.Keys.{above_key}
use Rattle.twins.proofs.Rising.{or-differ, or-equal}
use Rattle.twins.proofs.orders.ByKindOrdered.above.Goals as goal

pub returns-then-keys-a : goal.returns-then-keys-a
unfolding above_key
returns-then-keys-a c = or-differ _ _ _ c.if-keys-a.true

pub returns-then-keys-a-2 : goal.returns-then-keys-a-2
unfolding above_key
returns-then-keys-a-2 c = or-differ _ _ _ c.if-keys-a-2.true ∙ or-equal _ _ _ c.if-keys-a.false

pub returns : goal.returns
unfolding above_key
returns c = or-equal _ _ _ c.if-keys-a-2.false ∙ or-equal _ _ _ c.if-keys-a.false
