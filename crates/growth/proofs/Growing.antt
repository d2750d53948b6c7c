-- What a growth counts, turn by turn: nothing before the first hop, the frontier's counts at each, and at the end those of the visited nodes.
-- Assumes nothing.
use mathlib.Core.Path.{◌≡◌, sym, ap, ap₂, ◌∙◌}
use mathlib.Core.Logic.{◌⊎◌, inl, inr}
use mathlib.Core.Bool.{Bool, true, false}
use mathlib.Core.List.{List}
use Prim.Native.Nat.{ℕ, suc, ◌+◌, ◌≤◌, ◌<◌}
use native.Mathlib.Omega.{arith}
use lib.Dec.{T}
use lib.ListN.{length}
use Rattle.base.specs.Checks.{side_limit}
use Rattle.base.specs.Sets.{any_below, sum_over, count_below}
use Rattle.base.proofs.Bools.{not-T-of}
use Rattle.base.proofs.Sets.{sum-none, count-cong, over-cong, count_ones}
use Rattle.mask.specs.Mask.{in_mask, mask_words, IsMask}
use Rattle.mask.specs.Answers.{combined, union, and_not_of}
use Rattle.mask.proofs.Masks.{mask-holds, mask-cong, is-of}
use Rattle.side.specs.Side.{flip, words_of_row}
use Rattle.graph.specs.Distance.{any_at}
use Rattle.graph.specs.Network.{Network, Whole, touched, closed, linked, seeded, in_frontier, visited, region_words, frontier_words}
use Rattle.graph.proofs.Networks.{closed-alone, sum-turn, visited-ended}
use Rattle.graph.proofs.Turns.{Hopping, Masks, begin, turn, finish, any-frontier}
use Rattle.growth.specs.Visits.{visits_of, nothing, together, grown_by}
use Rattle.growth.specs.declared.Visited.{Visited}
use Rattle.growth.proofs.Visits.{same-counts}

module _ (n : ℕ) (s : ℕ → ℕ → Bool) where
  pub visits-cong : (p q : ℕ → Bool) → ((i : ℕ) → i < n → p i ≡ q i) → visits_of n s p ≡ visits_of n s q
  visits-cong p q e =
      same-counts _ _ _ _ _ _ _ _
      (count-cong n p q e)
      (over-cong n p q (λ i. length (words_of_row n (s i))) e)
      (over-cong n p q (λ i. length (words_of_row n (flip s i))) e)
      (over-cong n p q (λ i. count_below n (s i) + count_below n (flip s i)) e)

module _ (g : Network) (seeds : List ℕ) where
  abbrev n : ℕ
  n = g.nodes

  abbrev s : ℕ → ℕ → Bool
  s = g.stored

  -- nodes visited by k hops
  abbrev past : ℕ → ℕ → Bool
  past k i = visited g (in_mask seeds) k i

  pub visits-none : nothing ≡ visits_of n s (past 0)
  visits-none = same-counts _ _ _ _ _ _ _ _ (sym (sum-none n)) (sym (sum-none n)) (sym (sum-none n)) (sym (sum-none n))

  -- a hop adds its frontier's
  pub visits-turn : (k : ℕ) (frontier : List ℕ) (visits found : Visited) → frontier ≡ mask_words n (in_frontier g (in_mask seeds) k)
      → visits ≡ visits_of n s (past k) → found ≡ visits_of n s (in_mask frontier) → together visits found ≡ visits_of n s (past (suc k))
  visits-turn k frontier visits found e ev ef =
      ap (λ (v : Visited). together v found) ev
      ∙ ap (together (visits_of n s (past k))) (ef ∙ visits-cong n s (in_mask frontier) F (λ i h. ap (λ (w : List ℕ). in_mask w i) e ∙ mask-holds n F i h))
      ∙ same-counts _ _ _ _ _ _ _ _ nodes (turned (λ i. length (words_of_row n (s i)))) (turned (λ i. length (words_of_row n (flip s i)))) (turned (λ i. count_below n (s i) + count_below n (flip s i)))
    where
      F : ℕ → Bool
      F i = in_frontier g (in_mask seeds) k i

      turned : (f : ℕ → ℕ) → sum_over n (past k) f + sum_over n F f ≡ sum_over n (past (suc k)) f
      turned f = sym (sum-turn g (in_mask seeds) f k)

      nodes : count_below n (past k) + count_below n F ≡ count_below n (past (suc k))
      nodes = omega (arith, count_ones n (past k), count_ones n F, count_ones n (past (suc k)), turned (λ i. 1))

-- the invariant of the hop loop
pub record Growing (g : Network) (seeds : List ℕ) (h k : ℕ) (region frontier scratch : List ℕ) (some : Bool) (visits : Visited) : Type 0 where
  pub masks : Hopping g seeds h k region frontier scratch some
  pub sums : visits ≡ visits_of g.nodes g.stored (visited g (in_mask seeds) k)

-- its masks are masks
module _ (g : Network) (seeds : List ℕ) (short : g.nodes ≤ side_limit) (h k : ℕ) (region frontier scratch : List ℕ) (some : Bool) (visits : Visited)
    (at : Growing g seeds h k region frontier scratch some visits) where
  pub region-mask : IsMask g.nodes region
  region-mask = is-of g.nodes _ region short at.masks.inside

  pub frontier-mask : IsMask g.nodes frontier
  frontier-mask = is-of g.nodes _ frontier short at.masks.edge

module _ (g : Network) (whole : Whole g) (seeds : List ℕ) where
  pub growing-first : (h : ℕ) (region frontier scratch : List ℕ) (some : Bool) (visits : Visited)
      → region ≡ mask_words g.nodes (closed g.nodes g.block (in_mask seeds)) → frontier ≡ region → scratch ≡ mask_words g.nodes (λ i. false)
      → some ≡ any_below g.nodes (in_mask frontier) → visits ≡ nothing → Growing g seeds h 0 region frontier scratch some visits
  growing-first h region frontier scratch some visits er ef ex es ev =
      record { masks = begin g whole seeds h region frontier scratch some er ef ex es; sums = ev ∙ visits-none g seeds }

  -- what has been counted, with this hop's frontier
  pub counted : (h k : ℕ) (region frontier scratch : List ℕ) (some : Bool) (visits found : Visited) → Growing g seeds h k region frontier scratch some visits
      → found ≡ visits_of g.nodes g.stored (in_mask frontier) → together visits found ≡ visits_of g.nodes g.stored (visited g (in_mask seeds) (suc k))
  counted h k region frontier scratch some visits found at e = visits-turn g seeds k frontier visits found at.masks.edge at.sums e

  pub growing-turn : (h k : ℕ) (region frontier scratch reached region' frontier' scratch' : List ℕ) (some some' : Bool) (visits found visits' : Visited)
      → Growing g seeds h k region frontier scratch some visits → k < h → some ≡ true
      → found ≡ visits_of g.nodes g.stored (in_mask frontier) → visits' ≡ together visits found
      → reached ≡ mask_words g.nodes (closed g.nodes g.block (touched g.nodes g.stored (in_mask frontier)))
      → region' ≡ combined union g.nodes region reached → frontier' ≡ combined and_not_of g.nodes reached region → scratch' ≡ mask_words g.nodes (λ i. false)
      → some' ≡ any_below g.nodes (in_mask frontier')
      → Growing g seeds h (k + 1) region' frontier' scratch' some' visits'
  growing-turn h k region frontier scratch reached region' frontier' scratch' some some' visits found visits' at l is ef ev er ea eb ec ed =
      let e : suc k ≡ k + 1 = omega arith in
      record {
        masks = turn g whole seeds h k region frontier scratch reached region' frontier' scratch' some some' at.masks l is er ea eb ec ed;
        sums = ev ∙ counted h k region frontier scratch some visits found at ef ∙ ap (λ (m : ℕ). visits_of g.nodes g.stored (visited g (in_mask seeds) m)) e;
      }

  module _ (h k : ℕ) (region frontier scratch : List ℕ) (some : Bool) (visits : Visited) (at : Growing g seeds h k region frontier scratch some visits)
      (end : (k ≡ h) ⊎ (some ≡ false)) where
    way : (k ≡ h) ⊎ (some ≡ false) → (k ≡ h) ⊎ (T (any_at g.blocks (linked g) (seeded g (in_mask seeds)) k) → ⊥)
    way (inl e) = inl e
    way (inr e) = inr (λ t. not-T-of (any_below g.nodes (in_frontier g (in_mask seeds) k)) (sym at.masks.found ∙ e) (any-frontier g whole seeds k t))

    visits-ended : visits ≡ visits_of g.nodes g.stored (visited g (in_mask seeds) h)
    visits-ended =
        at.sums
        ∙ visits-cong g.nodes g.stored (visited g (in_mask seeds) k) (visited g (in_mask seeds) h) (visited-ended g whole (in_mask seeds) h k at.masks.turns (way end))

    masks-ended : Masks g whole seeds h k region frontier
    masks-ended = finish g whole seeds h k region frontier scratch some at.masks end

    pub growing-last : (record { hops = k; visits = visits } ≡ grown_by g seeds h) × (region ≡ region_words g seeds h) × (frontier ≡ frontier_words g seeds h) × (scratch ≡ mask_words g.nodes (λ i. false))
    growing-last =
        (ap₂ (λ (m : ℕ) (v : Visited). record { hops = m; visits = v }) masks-ended.hops visits-ended, masks-ended.inside, masks-ended.edge, at.masks.zero)

-- in plain growth a set is closed as it is
pub alone : (n : ℕ) (p : ℕ → Bool) → mask_words n p ≡ mask_words n (closed n (λ i. i) p)
alone n p = mask-cong n p (closed n (λ i. i) p) (λ i h. sym (closed-alone n p i h))
