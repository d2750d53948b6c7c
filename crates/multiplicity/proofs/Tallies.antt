-- The statistics of counts, one count a turn. Assumes nothing.
use mathlib.Core.Path.{◌≡◌, refl, ap}
use Prim.Native.Nat.{ℕ, ◌<◌}
use lib.Dec.{ltb}
use Rattle.base.proofs.Sets.{sum-zero, sum-suc, sum-cong, largest-none, largest-next, count-cong, largest-cong}
use Rattle.multiplicity.specs.Multiplicity.{pairs_of, multiplicity_stats}

-- the counts of the nodes alone matter
pub stats-cong : (n regions : ℕ) (m k : ℕ → ℕ) → ((i : ℕ) → i < n → m i ≡ k i) → multiplicity_stats n regions m ≡ multiplicity_stats n regions k
stats-cong n regions m k e =
    rw
    (sum-cong n m k e, count-cong n (λ i. ltb 0 (m i)) (λ i. ltb 0 (k i)) (λ i h. ap (ltb 0) (e i h)), count-cong n (λ i. ltb 1 (m i)) (λ i. ltb 1 (k i)) (λ i h. ap (ltb 1) (e i h)), largest-cong n m k e, sum-cong n (λ i. pairs_of (m i)) (λ i. pairs_of (k i)) (λ i h. ap pairs_of (e i h)))
    refl

-- what the tally's loop is proved from
pub ruleset tally_steps = (sum-zero, sum-suc, largest-none, largest-next)
