-- Document 01's examples of refusals 1 to 8, and the pairs of its entries (0,1), (1,2), by computing the definitions. Assumes nothing.
use mathlib.Core.Path.{◌≡◌, refl}
use Rattle.std.specs.Prelude.{Ok, Err}
use Rattle.base.specs.declared.Refusal.TheVariants.{OverLimit, RowPtrLength, EntryLengths, RowPtrStart, RowPtrEnd, RowPtrFalls, ColumnOutside, NotFinite}
use mathlib.Core.Bool.{true, false}
use mathlib.Core.List.{[], ◌∷◌}
use lib.Ieee.{Float, inf, fin}
use lib.IntN.{pos}
use Rattle.base.specs.Checks.{must, ◌then◌}
use Rattle.base.specs.Lists.{is_in}
use Rattle.csr32.specs.Matrix.{matrix_check, stored}

abbrev one : Float
one = fin false 1 (pos 0)

pub record Refusals : Type 0 where
  pub chain : matrix_check 3 3 (0 ∷ 1 ∷ 2 ∷ 2 ∷ []) (1 ∷ 2 ∷ []) (one ∷ one ∷ []) ≡ Ok tt
  pub widest : matrix_check 0 1048576 (0 ∷ []) [] [] ≡ Ok tt
  pub nrows : matrix_check 1048577 3 (0 ∷ []) [] [] ≡ Err OverLimit
  pub pointers : matrix_check 2 3 (0 ∷ 1 ∷ []) (0 ∷ []) (one ∷ []) ≡ Err RowPtrLength
  pub lists : matrix_check 1 3 (0 ∷ 1 ∷ []) (0 ∷ []) [] ≡ Err EntryLengths
  pub starts : matrix_check 1 3 (1 ∷ 1 ∷ []) (0 ∷ []) (one ∷ []) ≡ Err RowPtrStart
  pub ends : matrix_check 1 3 (0 ∷ 2 ∷ []) (0 ∷ []) (one ∷ []) ≡ Err RowPtrEnd
  pub falls : matrix_check 2 3 (0 ∷ 2 ∷ 1 ∷ []) (0 ∷ []) (one ∷ []) ≡ Err RowPtrFalls
  pub column : matrix_check 1 3 (0 ∷ 1 ∷ []) (3 ∷ []) (one ∷ []) ≡ Err ColumnOutside
  pub value : matrix_check 1 3 (0 ∷ 1 ∷ []) (0 ∷ []) (inf false ∷ []) ≡ Err NotFinite

pub refusals : Refusals
unfolding matrix_check must ◌then◌
refusals = record {
  chain = refl;
  widest = refl;
  nrows = refl;
  pointers = refl;
  lists = refl;
  starts = refl;
  ends = refl;
  falls = refl;
  column = refl;
  value = refl;
}

pub record Pairs : Type 0 where
  pub there : stored (0 ∷ 1 ∷ 2 ∷ 2 ∷ []) (1 ∷ 2 ∷ []) 0 1 ≡ true
  pub next : stored (0 ∷ 1 ∷ 2 ∷ 2 ∷ []) (1 ∷ 2 ∷ []) 1 2 ≡ true
  pub turned : stored (0 ∷ 1 ∷ 2 ∷ 2 ∷ []) (1 ∷ 2 ∷ []) 1 0 ≡ false
  pub row_of_none : stored (0 ∷ 1 ∷ 2 ∷ 2 ∷ []) (1 ∷ 2 ∷ []) 2 2 ≡ false

pub pairs : Pairs
unfolding stored is_in
pairs = record { there = refl; next = refl; turned = refl; row_of_none = refl }
