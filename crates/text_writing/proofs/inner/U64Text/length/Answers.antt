-- `text_writing::inner::U64Text::length` meets its contract. Assumes nothing.
use Rattle.std.proofs.Common.{◌≡◌, ℕ, ◌+◌, ◌*◌, ◌^◌, ◌<◌, ◌≤◌, Option, None, Some, IfNone, IfSome, length, sym, ap, ◌∙◌, arith}
use Rattle.std.specs.Option.{unwrap_or}
use Rattle.text_writing.specs.Text.{decimal}
use Rattle.text_writing.proofs.Digits.{length-decimal}
use Rattle.text_writing.proofs.inner.U64Text.length.Goals as goal

one_more : (n : ℕ) (o : Option ℕ) → n < 2 ^ 64 → IfNone o (n ≡ 0) → IfSome o (λ k. 10 ^ k ≤ n) → IfSome o (λ k. n < 10 * 10 ^ k) → unwrap_or o 0 + 1 ≡ length (decimal n)
one_more n None u z lo hi = sym (length-decimal 0 n (λ h. omega arith) (omega arith) (omega arith))
one_more n (Some k) u z lo hi = sym (length-decimal k n (λ h. lo) hi (omega arith))

pub returns : goal.returns
returns c = let e = c.checked_ilog10.ensures in ap (λ k. k + 1) c.unwrap_or.ensures ∙ one_more _ _ (omega arith) e.none e.power_le e.next_power_gt
