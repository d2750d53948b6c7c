-- `records::inner::put_number` meets its contract. Assumes nothing.
use Rattle.std.proofs.Common.{rules, ◌∙◌}
use Rattle.std.proofs.lemmas.Slice.{overwrites}
use Rattle.base.specs.Lists.{placed}
use Rattle.records.proofs.Bytes.{le_bytes, bytes-length}
use Rattle.records.proofs.inner.put_number.Goals as goal

pub returns : goal.returns
unfolding placed
returns c = let e = c.copy_from_slice.ensures.after ∙ c.to_le_bytes.ensures ∙ le_bytes c.args.value in search (rules, overwrites, bytes-length)
