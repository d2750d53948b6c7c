-- `text_reading::inner::store` meets its contract. A store past the end changes nothing. Assumes nothing.
use mathlib.Core.Path.{sym}
use lib.Seq.{set_out}
use Rattle.text_reading.proofs.inner.store.Goals as goal

pub returns-else-at-list : goal.returns-else-at-list
returns-else-at-list g c = sym (set_out c.args.list.now c.args.at c.args.value c.if-at-list.false)
