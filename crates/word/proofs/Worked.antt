-- Document 01, 'Worked by hand', the ● lines on word 22 (bits 1, 2, 4). Assumes nothing.
use mathlib.Core.Path.{◌≡◌, refl}
use Rattle.std.specs.Prelude.{Ok, Err, Some, None}
use Rattle.base.specs.declared.Refusal.TheVariants.{OutOfRange}
use Rattle.base.specs.Checks.{must}
use Rattle.base.specs.Sets.{members_from, sum_below}
use Rattle.word.specs.Bits.{bit_at}
use Rattle.word.specs.Answers.{rank_answer, select_answer}

pub record Word22 : Type 0 where
  pub rank_2 : rank_answer 22 2 ≡ Ok 1
  pub rank_64 : rank_answer 22 64 ≡ Ok 3
  pub rank_65 : rank_answer 22 65 ≡ Err OutOfRange
  pub select_2 : select_answer 22 2 ≡ Some 4
  pub select_3 : select_answer 22 3 ≡ None

pub word22 : Word22
unfolding bit_at members_from sum_below must
word22 = record { rank_2 = refl; rank_64 = refl; rank_65 = refl; select_2 = refl; select_3 = refl }
