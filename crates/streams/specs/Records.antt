-- Records that are read one after the other, and what is written for each.
use Rattle.std.specs.Prelude.{◌≡◌, ℕ, ◌<◌, List, ◌++◌, length, replicate}
use Rattle.std.specs.List.{All, AllZip, concat}
use Rattle.std.specs.Io.KnownBytes.{Consumes, Appends, IsAtEnd}
use Rattle.std.specs.declared.option.Option.{Option}
use Rattle.std.specs.Borrow.{Bor, MutBor}

-- a call of f on the bytes xs and on m zeros may leave ys in the place of the zeros
abbrev pub MayAnswer : {F R : Type 0} → (F → Bor (List ℕ) → MutBor (List ℕ) → R → MutBor (List ℕ) → Type 0) → F → ℕ → List ℕ → List ℕ → Type 0
MayAnswer {F} {R} post f m xs ys = (call : Bor (List ℕ)) × (out new : MutBor (List ℕ)) × (r : R) × (call.now ≡ xs) × (out.now ≡ replicate m 0) × post f call out r new × (new.now ≡ ys)

-- Of the bytes of the input, those of whole records of n bytes were taken, and what `answers` gives for each was written, in their order. The input
-- is at its end, and the bytes past its last record are no whole one, unless there were more records than a loop of `u64::MAX` turns answers.
pub record RecordsAnswered (answers : List ℕ → List ℕ → Type 0) (n : ℕ) (given left written after : Option (List ℕ)) : Type 0 where
  pub calls : List (List ℕ)
  pub outs : List (List ℕ)
  pub rest : List ℕ
  pub whole : All (λ call. length call ≡ n) calls
  pub answered : AllZip answers calls outs
  pub taken : Consumes given left (concat calls ++ rest)
  pub put : Appends written after (concat outs)
  pub all : length calls < 18446744073709551615 → (length rest < n) × IsAtEnd left
