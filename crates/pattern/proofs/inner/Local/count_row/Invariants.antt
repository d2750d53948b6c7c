-- `pattern::inner::Local::count_row` meets its contract. The invariant: the bits of the words before k are counted. Assumes nothing.
use mathlib.Core.Path.{◌≡◌}
use Rattle.side.specs.Check.{bits_in}
use Rattle.pattern.proofs.Rows.{kept_in}
use Rattle.pattern.proofs.inner.Local.count_row.Given as goal

abbrev pub invariant-loop-k : goal.invariant-loop-k
invariant-loop-k l = (l.candidates ≡ bits_in l.self.rows.masks.now l.from l.k) × (l.kept ≡ kept_in l.self.rows.word_indices.now l.self.rows.masks.now l.self.region.words.now l.from l.k)
