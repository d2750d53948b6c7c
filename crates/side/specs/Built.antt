-- What a call that writes the side of the pairs s leaves in its three lists: zero past its own words up to the needed length, unchanged past
-- that, and everything unchanged where its checks refuse.
use Rattle.std.specs.Prelude.{Bool, List, ℕ}
use Rattle.base.specs.Checks.{Check}
use Rattle.base.specs.Checks.{leaves}
use Rattle.base.specs.Lists.{over, over_with_zeros}
use Rattle.side.specs.Side.{side_ptr, side_words, side_masks}

abbrev pub built_ptr : Check → ℕ → ℕ → (ℕ → ℕ → Bool) → List ℕ → List ℕ
built_ptr check nrows ncols s out = leaves check (over (side_ptr nrows ncols s) out) out

abbrev pub built_words : Check → ℕ → ℕ → (ℕ → ℕ → Bool) → ℕ → List ℕ → List ℕ
built_words check nrows ncols s needed out = leaves check (over_with_zeros (side_words nrows ncols s) needed out) out

abbrev pub built_masks : Check → ℕ → ℕ → (ℕ → ℕ → Bool) → ℕ → List ℕ → List ℕ
built_masks check nrows ncols s needed out = leaves check (over_with_zeros (side_masks nrows ncols s) needed out) out
