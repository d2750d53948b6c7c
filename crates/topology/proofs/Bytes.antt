-- The bytes of a side's lists, by the counts of its rows and words. Assumes nothing.
use mathlib.Core.Path.{◌≡◌}
use mathlib.Core.List.{List}
use Prim.Native.Nat.{ℕ}
use native.Mathlib.Omega.{arith}
use lib.ListN.{length}
use Rattle.side.specs.Check.{IsRows}
use Rattle.topology.specs.Statistics.{bytes_of, bytes_counted}

pub bytes-are : (nrows words : ℕ) (ptr idx masks : List ℕ) → IsRows nrows ptr idx masks → words ≡ length masks → bytes_counted nrows words ≡ bytes_of ptr idx masks
bytes-are nrows words ptr idx masks m e = omega (arith, e, m.rows, m.as_many)
