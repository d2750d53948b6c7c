-- One turn of a growth on masks: from the masks after k hops to those after k + 1, and what they are when the loop has ended. What a turn
-- is handed: the frontier's neighbours with the whole of their blocks. Each set is given by its mask's words. Assumes nothing.
use mathlib.Core.Path.{◌≡◌, sym, ap, ap₂, ◌∙◌, subst}
use mathlib.Core.Logic.{◌⊎◌, inl, inr}
use mathlib.Core.Bool.{Bool, true, false, not, ◌&&◌, ◌||◌}
use mathlib.Core.List.{List}
use Prim.Native.Nat.{ℕ, suc, ◌+◌, ◌≤◌, ◌<◌}
use native.Mathlib.Omega.{arith}
use lib.Dec.{T, eqb}
use Rattle.base.specs.Sets.{any_below}
use Rattle.base.proofs.Bools.{T_of, not-T-of}
use Rattle.base.proofs.Sets.{any-i, any-e, any-cong, below_next}
use Rattle.mask.specs.Mask.{in_mask, mask_words}
use Rattle.mask.specs.Answers.{combined, union, and_not_of}
use Rattle.mask.proofs.Masks.{mask-cong, mask-holds}
use Rattle.graph.specs.Distance.{exactly, any_at}
use Rattle.graph.specs.Network.{Network, Whole, touched, holding, closed, linked, seeded, in_region, in_frontier, hops_made, region_words, frontier_words}
use Rattle.graph.proofs.Distances.{any-at-i, any-at-e, ended, Ended, exactly-within}
use Rattle.graph.proofs.Networks.{hop-start, hop-start-frontier, hop-region, hop-frontier, reached-node}

module _ (g : Network) (seeds : List ℕ) where
  abbrev Any : ℕ → Bool
  Any j = any_at g.blocks (linked g) (seeded g (in_mask seeds)) j

  -- after k turns of h, none on an empty frontier; `some` says whether the frontier holds a node
  pub record Hopping (h k : ℕ) (region frontier scratch : List ℕ) (some : Bool) : Type 0 where
    pub turns : k ≤ h
    pub inside : region ≡ mask_words g.nodes (in_region g (in_mask seeds) k)
    pub edge : frontier ≡ mask_words g.nodes (in_frontier g (in_mask seeds) k)
    pub zero : scratch ≡ mask_words g.nodes (λ i. false)
    pub found : some ≡ any_below g.nodes (in_frontier g (in_mask seeds) k)
    pub before : (j : ℕ) → j < k → T (Any j)

module _ (g : Network) (whole : Whole g) (seeds : List ℕ) where
  abbrev n : ℕ
  n = g.nodes

  abbrev R : ℕ → ℕ → Bool
  R k i = in_region g (in_mask seeds) k i

  abbrev F : ℕ → ℕ → Bool
  F k i = in_frontier g (in_mask seeds) k i

  -- a frontier of blocks is one of nodes
  pub any-frontier : (k : ℕ) → T (Any g seeds k) → T (any_below n (F k))
  any-frontier k t =
      let b : (b : ℕ) × (b < g.blocks) × T (exactly g.blocks (linked g) (seeded g (in_mask seeds)) k b) = any-at-e g.blocks (linked g) (seeded g (in_mask seeds)) k t in
      let i : (i : ℕ) × (i < n) × (g.block i ≡ b.0) =
      reached-node g (in_mask seeds) k b.0 (exactly-within g.blocks (linked g) (seeded g (in_mask seeds)) k b.0 b.2) in
      any-i n (F k) i.0 i.1 (subst (λ (x : ℕ). T (exactly-at k x)) (sym i.2) b.2)
    where
      exactly-at : ℕ → ℕ → Bool
      exactly-at k b = exactly g.blocks (linked g) (seeded g (in_mask seeds)) k b

  pub frontier-any : (k : ℕ) → T (any_below n (F k)) → T (Any g seeds k)
  frontier-any k t =
      let i : (i : ℕ) × (i < n) × T (F k i) = any-e n (F k) t in
      any-at-i g.blocks (linked g) (seeded g (in_mask seeds)) k (g.block i.0) (whole.has_block i.0 i.1) i.2

  -- before the first hop: the closed seeds
  pub begin : (h : ℕ) (region frontier scratch : List ℕ) (some : Bool)
      → region ≡ mask_words n (closed n g.block (in_mask seeds)) → frontier ≡ region → scratch ≡ mask_words n (λ i. false)
      → some ≡ any_below n (in_mask frontier) → Hopping g seeds h 0 region frontier scratch some
  begin h region frontier scratch some er ef ex es =
      record {
        turns = omega arith;
        inside = er ∙ mask-cong n _ (R 0) (λ i l. sym (hop-start g whole (in_mask seeds) i));
        edge = at-0;
        zero = ex;
        found = es ∙ any-cong n (in_mask frontier) (F 0) (λ i l. ap (λ (w : List ℕ). in_mask w i) at-0 ∙ mask-holds n (F 0) i l);
        before = λ j l. absurd (omega arith);
      }
    where
      at-0 : frontier ≡ mask_words n (F 0)
      at-0 = ef ∙ er ∙ mask-cong n _ (F 0) (λ i l. sym (hop-start-frontier g whole (in_mask seeds) i))

  -- a turn
  pub turn : (h k : ℕ) (region frontier scratch reached region' frontier' scratch' : List ℕ) (some some' : Bool)
      → Hopping g seeds h k region frontier scratch some → k < h → some ≡ true
      → reached ≡ mask_words n (closed n g.block (touched n g.stored (in_mask frontier)))
      → region' ≡ combined union n region reached → frontier' ≡ combined and_not_of n reached region → scratch' ≡ mask_words n (λ i. false)
      → some' ≡ any_below n (in_mask frontier')
      → Hopping g seeds h (k + 1) region' frontier' scratch' some'
  unfolding touched holding
  turn h k region frontier scratch reached region' frontier' scratch' some some' at l is er ea eb ec ed =
      let e : suc k ≡ k + 1 = omega arith in
      subst (λ (m : ℕ). Hopping g seeds h m region' frontier' scratch' some') e
      (record {
        turns = l;
        inside = ea ∙ mask-cong n _ (R (suc k)) (λ i b. ap₂ ◌||◌ (in-region i b) (in-reached i b) ∙ sym (hop-region g whole (in_mask seeds) k i));
        edge = edge;
        zero = ec;
        found = ed ∙ any-cong n (in_mask frontier') (F (suc k)) (λ i b. ap (λ (w : List ℕ). in_mask w i) edge ∙ mask-holds n (F (suc k)) i b);
        before = λ j q. below_next (λ j. T (Any g seeds j)) k at.before (frontier-any k (T_of _ (sym at.found ∙ is))) j (omega arith);
      })
    where
      in-region : (i : ℕ) → i < n → in_mask region i ≡ R k i
      in-region i b = ap (λ (w : List ℕ). in_mask w i) at.inside ∙ mask-holds n (R k) i b

      in-frontier : (i : ℕ) → i < n → in_mask frontier i ≡ F k i
      in-frontier i b = ap (λ (w : List ℕ). in_mask w i) at.edge ∙ mask-holds n (F k) i b

      same-touched : (j : ℕ) → touched n g.stored (in_mask frontier) j ≡ touched n g.stored (F k) j
      same-touched j = any-cong n _ _ (λ i b. ap (λ (v : Bool). v && (g.stored i j || g.stored j i)) (in-frontier i b))

      in-reached : (i : ℕ) → i < n → in_mask reached i ≡ closed n g.block (touched n g.stored (F k)) i
      in-reached i b =
          ap (λ (w : List ℕ). in_mask w i) er ∙ mask-holds n (closed n g.block (touched n g.stored (in_mask frontier))) i b
          ∙ any-cong n _ _ (λ j q. ap (λ (v : Bool). eqb (g.block j) (g.block i) && v) (same-touched j))

      edge : frontier' ≡ mask_words n (F (suc k))
      edge = eb ∙ mask-cong n _ (F (suc k)) (λ i b. ap₂ (λ (x y : Bool). x && not y) (in-reached i b) (in-region i b) ∙ sym (hop-frontier g whole (in_mask seeds) k i))

  -- the loop has ended: its turns are the hops completed, and its masks those asked for
  pub record Masks (h k : ℕ) (region frontier : List ℕ) : Type 0 where
    pub hops : k ≡ hops_made g (in_mask seeds) h
    pub inside : region ≡ region_words g seeds h
    pub edge : frontier ≡ frontier_words g seeds h

  pub finish : (h k : ℕ) (region frontier scratch : List ℕ) (some : Bool) → Hopping g seeds h k region frontier scratch some
      → (k ≡ h) ⊎ (some ≡ false) → Masks h k region frontier
  unfolding region_words frontier_words
  finish h k region frontier scratch some at end =
      record {
        hops = done.turns;
        inside = at.inside ∙ mask-cong n (R k) (R h) (λ i b. done.region (g.block i) (whole.has_block i b));
        edge = at.edge ∙ mask-cong n (F k) (F h) (λ i b. done.frontier (g.block i) (whole.has_block i b));
      }
    where
      way : (k ≡ h) ⊎ (some ≡ false) → (k ≡ h) ⊎ (T (Any g seeds k) → ⊥)
      way (inl e) = inl e
      way (inr e) = inr (λ t. not-T-of _ (sym at.found ∙ e) (any-frontier k t))

      done : Ended g.blocks (linked g) (seeded g (in_mask seeds)) h k
      done = ended g.blocks (linked g) (seeded g (in_mask seeds)) h k at.turns at.before (way end)
