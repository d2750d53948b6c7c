-- `repeated::local::repeat_plan` meets its contract. The invariant: the lists and the count are as they were. Assumes nothing.
use mathlib.Core.Path.{◌≡◌}
use mathlib.Core.List.{List}
use Prim.Native.Nat.{ℕ}
use Rattle.repeated.proofs.local.repeat_plan.Given as goal

pub record Same (first : ℕ) (nodes₀ local-ptr₀ local-cols₀ source-ptr₀ sources₀ nodes local-ptr local-cols source_ptr sources : List ℕ) (terms : ℕ) : Type 0 where
  pub members : nodes ≡ nodes₀
  pub pointers : local-ptr ≡ local-ptr₀
  pub columns : local-cols ≡ local-cols₀
  pub starts : source_ptr ≡ source-ptr₀
  pub entries : sources ≡ sources₀
  pub count : terms ≡ first

abbrev pub invariant-loop : goal.invariant-loop
invariant-loop l =
    Same l.first l.initial.nodes l.initial.local_ptr l.initial.local_cols l.initial.source_ptr l.initial.sources l.nodes l.local_ptr l.local_cols l.source_ptr l.sources l.terms
