-- `side::inner::contains` meets its contract. Assumes nothing.
use Rattle.std.proofs.Common.{sym, ◌∙◌}
use Rattle.side.proofs.Holding.{holds_at}
use Rattle.side.proofs.Searches.{lower-none}
use Rattle.side.proofs.inner.contains.Goals as goal

pub returns-in-Ok : goal.returns-in-Ok
returns-in-Ok c =
    let r = c.requires in
    let f = c.in-Ok.ensures.found in
    c.bit.ensures ∙ sym (holds_at _ _ _ _ r.0 r.1 r.2 r.3 _ _ f.0 f.1 f.2)

pub returns-in-Err : goal.returns-in-Err
returns-in-Err c =
    let r = c.requires in
    let f = c.in-Err.ensures.missing in
    sym (lower-none _ _ _ _ _ _ r.0 r.1 r.2 r.3 f.0 f.1)
