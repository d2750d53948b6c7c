-- The five lines of an answer: how long they are, that they are written one behind the other, and that what was counted has room. Assumes nothing.
use mathlib.Core.Path.{◌≡◌, refl, ap₂, ◌∙◌}
use mathlib.Core.Bool.{Bool, true, false}
use mathlib.Core.List.{List, [], ◌++◌, append_assoc}
use Prim.Native.Nat.{ℕ, ◌+◌, ◌^◌, ◌≤◌, ◌<◌}
use native.Mathlib.Omega.{arith}
use borrow.Author.Tests.{leb-true}
use lib.Dec.{leb}
use lib.ListN.{length, length-append}
use Rattle.std.specs.Prelude.{Ok}
use Rattle.base.specs.Checks.{must, answer}
use Rattle.base.specs.Lists.{over, placed}
use Rattle.base.specs.declared.Refusal.TheVariants.{ListTooShort}
use Rattle.base.proofs.Lists.{placed-over}
use Rattle.text_writing.specs.Text.{decimal, numbers, line}
use Rattle.text_writing.proofs.Digits.{decimal-most}
use Rattle.text_writing.proofs.Lists.{length-line, numbers-most}
use Rattle.job_text.specs.Answer.{region_key, frontier_key, completed_key, local_ptr_key, local_cols_key, result_lines, text_check, text_answer}

-- from the front on
pub placed-front : (X l : List ℕ) → placed 0 X l ≡ over X l
unfolding placed
placed-front X l = placed-over [] X l

-- one more text behind the last
pub placed-behind : (X Y o l m : List ℕ) (at : ℕ) → l ≡ over X o → at ≡ length X → m ≡ placed at Y l → m ≡ over (X ++ Y) o
placed-behind X Y o l m at e n p = p ∙ ap₂ (λ (i : ℕ) (x : List ℕ). placed i Y x) n e ∙ placed-over X Y o

module _ (region frontier : List ℕ) (completed : ℕ) (ptr cols : List ℕ) where
  abbrev pub line1 : List ℕ
  line1 = line region_key (numbers region)

  abbrev pub line2 : List ℕ
  line2 = line frontier_key (numbers frontier)

  abbrev pub line3 : List ℕ
  line3 = line completed_key (decimal completed)

  abbrev pub line4 : List ℕ
  line4 = line local_ptr_key (numbers ptr)

  abbrev pub line5 : List ℕ
  line5 = line local_cols_key (numbers cols)

  pub lines-sum : length (result_lines region frontier completed ptr cols) ≡ length line1 + length line2 + length line3 + length line4 + length line5
  unfolding result_lines
  lines-sum =
      omega (
        arith,
        length-append line1 (line2 ++ (line3 ++ (line4 ++ line5))),
        length-append line2 (line3 ++ (line4 ++ line5)),
        length-append line3 (line4 ++ line5),
        length-append line4 line5,
      )

  pub lines-length : length (result_lines region frontier completed ptr cols) ≡ 52 + length (numbers region) + length (numbers frontier) + length (decimal completed) + length (numbers ptr) + length (numbers cols)
  lines-length =
      omega (
        arith,
        lines-sum,
        length-line region_key (numbers region),
        length-line frontier_key (numbers frontier),
        length-line completed_key (decimal completed),
        length-line local_ptr_key (numbers ptr),
        length-line local_cols_key (numbers cols),
      )

  -- one behind the other they are the whole
  pub lines_are : line1 ++ line2 ++ line3 ++ line4 ++ line5 ≡ result_lines region frontier completed ptr cols
  unfolding result_lines
  lines_are =
      append_assoc (line1 ++ line2 ++ line3) line4 line5
      ∙ append_assoc (line1 ++ line2) line3 (line4 ++ line5)
      ∙ append_assoc line1 line2 (line3 ++ (line4 ++ line5))

-- what was counted stands in the list
pub counted-fits : (text out : List ℕ) (n : ℕ) → text_answer text out ≡ Ok n → n ≤ length out
unfolding text_check must
counted-fits text out n e = go (leb (length text) (length out)) refl e
  where
    go : (b : Bool) → leb (length text) (length out) ≡ b → answer (must b ListTooShort) (length text) ≡ Ok n → n ≤ length out
    go true h f = let same : length text ≡ n = cc in omega (arith, leb-true (length text) (length out) h)
    go false h f = absurd cc

-- what decides how long the lines are, and that each has room
pub numbers-line : (key xs : List ℕ) → length key ≤ 20 → length xs ≤ 1024 → length (line key (numbers xs)) < 2 ^ 32
numbers-line key xs short few = omega (arith, length-line key (numbers xs), numbers-most xs)

pub decimal-line : (key : List ℕ) (n : ℕ) → length key ≤ 20 → length (line key (decimal n)) < 2 ^ 32
decimal-line key n short = omega (arith, length-line key (decimal n), decimal-most n)

pub ruleset lengths = (numbers-line, decimal-line, lines-sum)

pub ruleset sums = (lines-sum)
