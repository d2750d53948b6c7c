-- `csr32::Csr32Matrix::accept` meets its contract. Assumes nothing.
use Rattle.std.proofs.Common.{sym, ◌∙◌}
use Rattle.csr32.proofs.Matrix.{accepted}
use Rattle.csr32.proofs.Csr32Matrix.accept.Goals as goal

pub invariant_of-result : goal.invariant_of-result
invariant_of-result c = record { accepted = (accepted _ _ _ _ _ (sym c.validate.ensures ∙ c.in_ok-validate.was)).matrix }
