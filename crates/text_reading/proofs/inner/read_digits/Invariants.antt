-- `text_reading::inner::read_digits` meets its contract. The invariant: the bytes so far are digits, and of that value. Assumes nothing.
use Rattle.std.proofs.Common.{◌≡◌, ◌≤◌, true, take}
use Rattle.base.specs.Lists.{every}
use Rattle.text_reading.specs.Reading.{is_digit, value_from}
use Rattle.text_reading.proofs.inner.read_digits.Given as goal

abbrev pub invariant-loop-b : goal.invariant-loop-b
invariant-loop-b l =
    (l.value ≤ l.most) × (every is_digit (take l.b-index l.bytes) ≡ true) × (value_from 0 (take l.b-index l.bytes) ≡ l.value)
