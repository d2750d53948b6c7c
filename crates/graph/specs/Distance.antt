-- Distance in links from a seeded block, over blocks 0, 1, … , B - 1: by walks, as it is said on paper, and the same as tests that can be
-- computed. `within-iff` and `distance-iff` in proofs/ say that they agree.
use Rattle.std.specs.Prelude.{Bool, not, cond, ◌&&◌, ◌||◌, ℕ, zero, suc, ◌+◌, ◌≤◌, ◌<◌, min, T}
use Rattle.base.specs.Sets.{any_below}

module _ (B : ℕ) (link : ℕ → ℕ → Bool) (seeded : ℕ → Bool) where
  -- k links lead from a seeded block to block b
  pub data Walk : ℕ → ℕ → Type 0 where
    here : {b : ℕ} → b < B → T (seeded b) → Walk 0 b
    next : {k c b : ℕ} → Walk k c → b < B → T (link c b) → Walk (suc k) b

  -- at most h links lead to block b
  abbrev pub Within : ℕ → ℕ → Type 0
  Within h b = (k : ℕ) × (k ≤ h) × Walk k b

  -- h is the distance of block b: the fewest links
  abbrev pub Distance : ℕ → ℕ → Type 0
  Distance h b = Walk h b × ((k : ℕ) → Walk k b → h ≤ k)

  -- block b is at most h links from a seeded block
  unfoldable pub within : ℕ → ℕ → Bool
  within zero b = seeded b
  within (suc h) b = within h b || any_below B (λ c. within h c && link c b)

  -- its distance is h: at most h links, and not at most h - 1
  unfoldable pub exactly : ℕ → ℕ → Bool
  exactly zero b = within zero b
  exactly (suc h) b = within (suc h) b && not (within h b)

  -- some block is at distance h
  unfoldable pub any_at : ℕ → Bool
  any_at h = any_below B (λ b. exactly h b)

  -- the largest distance at which there is a block, looked for from k down
  unfoldable pub farthest_to : ℕ → ℕ
  farthest_to zero = zero
  farthest_to (suc k) = cond (any_at (suc k)) (suc k) (farthest_to k)

  -- E, the largest finite distance
  abbrev pub farthest : ℕ
  farthest = farthest_to B

  -- hops_completed: 0 without seeds, else the smaller of h and E + 1
  unfoldable pub completed : ℕ → ℕ
  completed h = cond (any_at 0) (min h (farthest + 1)) 0
