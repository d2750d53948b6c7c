-- `word::Operation::apply` meets its contract. Assumes nothing.
use Prim.Native.Nat.{◌-◌, ◌^◌}
use borrow.Author.Rules.{rules}
use lib.Bits.{bit_and, bit_or, bit_xor}
use Rattle.word.specs.declared.Operation.{Operation}
use Rattle.word.proofs.Answers.{applied}
use Rattle.word.proofs.Words.{or-bitwise, and-bitwise, and-not-bitwise, xor-bitwise}
use Rattle.word.proofs.Operation.apply.Goals as goal

pub returns-in-Union : goal.returns-in-Union
returns-in-Union c = applied bit_or Operation.Union _ _ _ c.in-Union.is (or-bitwise 64) (search rules) (search rules)

pub returns-in-Intersection : goal.returns-in-Intersection
returns-in-Intersection c = applied bit_and Operation.Intersection _ _ _ c.in-Intersection.is (and-bitwise 64) (search rules) (search rules)

pub returns-in-AndNot : goal.returns-in-AndNot
returns-in-AndNot c = applied (λ a b. bit_and a (2 ^ 64 - 1 - b)) Operation.AndNot _ _ _ c.in-AndNot.is (and-not-bitwise 64) (search rules) (search rules)

pub returns-in-Xor : goal.returns-in-Xor
returns-in-Xor c = applied bit_xor Operation.Xor _ _ _ c.in-Xor.is (xor-bitwise 64) (search rules) (search rules)
