-- `word::AbtmTopologyWord::select` meets its contract. The invariant: the bits that are left are those behind the first of the mask's. Assumes nothing.
use Rattle.std.proofs.Common.{◌≡◌, ◌^◌, ◌<◌, drop}
use Rattle.word.specs.Bits.{set_bits}
use Rattle.word.proofs.AbtmTopologyWord.select.Given as goal

abbrev pub invariant-loop : goal.invariant-loop
invariant-loop l = (l.bits < 2 ^ 64) × (set_bits l.bits ≡ drop l.counter (set_bits l.initial.bits))
