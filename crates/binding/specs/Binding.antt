-- The check that a topology's pairs inside a region are the matrix's entries: 23, 24, by local row.
use Rattle.std.specs.Prelude.{Bool, not, ◌&&◌, ℕ}
use Rattle.base.specs.Checks.{Check}
use Rattle.base.specs.declared.Refusal.TheVariants.{PairWithoutEntry, EntryWithoutPair}
use Rattle.base.specs.Checks.{must, ◌then◌, checks_below}
use Rattle.base.specs.Sets.{any_below, count_below}
use Rattle.pattern.specs.Pattern.{member_at}

-- a local row: 23, a topology pair inside the region has no entry; 24, an entry inside the region is missing from the topology
unfoldable pub row_faults : ℕ → (ℕ → Bool) → (ℕ → Bool) → (ℕ → Bool) → Check
row_faults n p pairs entries =
    must (not (any_below n (λ c. p c && pairs c && not (entries c)))) PairWithoutEntry
    then must (not (any_below n (λ c. p c && entries c && not (pairs c)))) EntryWithoutPair

-- by local row
unfoldable pub binding_check : ℕ → (ℕ → Bool) → (ℕ → ℕ → Bool) → (ℕ → ℕ → Bool) → Check
binding_check n p s entries = checks_below (count_below n p) (λ k. row_faults n p (s (member_at n p k)) (entries (member_at n p k)))
