-- `text_writing::inner::U64Text::put` meets its contract. The invariant: the digits behind those that are left are put, and those are the digits of
-- what is left, or none.
use mathlib.Core.Path.{◌≡◌}
use mathlib.Core.Logic.{◌⊎◌}
use mathlib.Core.List.{List, [], ◌++◌}
use Prim.Native.Nat.{ℕ, ◌+◌}
use lib.ListN.{length}
use Rattle.base.specs.Lists.{placed}
use Rattle.text_writing.specs.Text.{decimal}
use Rattle.text_writing.proofs.inner.U64Text.put.Given as goal

abbrev pub invariant-loop-place : goal.invariant-loop-place
invariant-loop-place l =
    (l.out.bytes.ghost_name ≡ l.fn.out.bytes.ghost_name)
    × (l.out.len ≡ l.fn.out.len)
    × (length l.out.bytes.now ≡ length l.fn.out.bytes.now)
    × ((rest : List ℕ) × (put : List ℕ) × ((rest ≡ decimal l.left) ⊎ (rest ≡ [])) × (l.place ≡ l.fn.out.len + length rest) × (decimal l.self ≡ rest ++ put)
    × (l.out.bytes.now ≡ placed l.place put l.fn.out.bytes.now))
