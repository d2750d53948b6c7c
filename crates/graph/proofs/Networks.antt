-- The laws of growth on a network: a block is reached through its nodes, growing on from a region, one hop node by node, and the sums over
-- visited nodes. Assumes nothing.
use mathlib.Core.Path.{◌≡◌, refl, sym, ap, ◌∙◌, subst}
use mathlib.Core.Logic.{◌⊎◌, inl, inr}
use mathlib.Core.Bool.{Bool, true, false, not, ◌&&◌, ◌||◌, or_comm}
use mathlib.Core.List.{List}
use Prim.Native.Nat.{ℕ, zero, suc, ◌+◌, ◌≤◌, ◌<◌, min}
use native.Mathlib.Omega.{arith}
use native.Mathlib.Nat.{not-suc-le-zero}
use lib.Dec.{T, eqb, eqb→eq, eqb_refl}
use Rattle.base.specs.Sets.{any_below, sum_over}
use Rattle.base.proofs.Bools.{bool-ext, decide, and_l, and_r, and_i}
use Rattle.base.proofs.Sets.{any-i, any-e, sum-split}
use Rattle.mask.specs.Mask.{in_mask}
use Rattle.mask.proofs.Masks.{mask-holds, mask-cong}
use Rattle.dof_layout.proofs.Layouts.{block-holds}
use Rattle.graph.specs.Distance.{within, exactly, any_at}
use Rattle.graph.specs.Network.{Network, Whole, plain_network, field_network, joined, touched, holding, closed, linked, seeded, in_region, in_frontier, visited, region_words, frontier_words}
use Rattle.graph.proofs.Distances.{within-case, step, step-frontier, compose-within, compose-exactly, within-cong, exactly-cong, cap-within, cap-exactly, within-stay, exactly-new, exactly-i, exactly-zero, within-mono, rest-within, any-at-i}

pub plain-whole : (n : ℕ) (s : ℕ → ℕ → Bool) → Whole (plain_network n s)
plain-whole n s = record { has_block = λ i h. h }

pub field-whole : (components : List ℕ) (s : ℕ → ℕ → Bool) → Whole (field_network components s)
field-whole components s = record { has_block = λ i h. (block-holds components i h).0 }

-- ---- blocks by their nodes

module _ (n : ℕ) (block : ℕ → ℕ) (p : ℕ → Bool) where
  pub holding-i : (b i : ℕ) → i < n → block i ≡ b → T (p i) → T (holding n block p b)
  unfolding holding
  holding-i b i h e t = any-i n (λ i. eqb (block i) b && p i) i h (and_i (eqb (block i) b) (p i) (subst (λ (x : ℕ). T (eqb (block i) x)) e (eqb_refl (block i))) t)

  pub holding-e : (b : ℕ) → T (holding n block p b) → (i : ℕ) × (i < n) × (block i ≡ b) × T (p i)
  unfolding holding
  holding-e b t =
      let r : (i : ℕ) × (i < n) × T (eqb (block i) b && p i) = any-e n (λ i. eqb (block i) b && p i) t in
      let i : ℕ = r.0 in
      (i, r.1, eqb→eq (block i) b (and_l (eqb (block i) b) (p i) r.2), and_r (eqb (block i) b) (p i) r.2)

-- where each node is a block, closing adds nothing
pub closed-alone : (n : ℕ) (p : ℕ → Bool) (i : ℕ) → i < n → closed n (λ i. i) p i ≡ p i
closed-alone n p i h =
    bool-ext (holding n (λ i. i) p i) (p i)
    (λ t. let q : (j : ℕ) × (j < n) × (j ≡ i) × T (p j) = holding-e n (λ i. i) p i t in subst (λ (x : ℕ). T (p x)) q.2 q.3)
    (λ t. holding-i n (λ i. i) p i i h refl t)

module _ (g : Network) where
  abbrev L : ℕ → ℕ → Bool
  L b c = linked g b c

  abbrev seeded-i : (s : ℕ → Bool) (b i : ℕ) → i < g.nodes → g.block i ≡ b → T (s i) → T (seeded g s b)
  seeded-i s b i h e t = holding-i g.nodes g.block s b i h e t

  abbrev seeded-e : (s : ℕ → Bool) (b : ℕ) → T (seeded g s b) → (i : ℕ) × (i < g.nodes) × (g.block i ≡ b) × T (s i)
  seeded-e s b t = holding-e g.nodes g.block s b t

  pub linked-i : (b c i j : ℕ) → i < g.nodes → j < g.nodes → g.block i ≡ b → g.block j ≡ c → T (joined g.stored i j) → T (L b c)
  unfolding linked
  linked-i b c i j hi hj ei ej t =
      any-i g.nodes (λ i. any_below g.nodes (λ j. eqb (g.block i) b && eqb (g.block j) c && joined g.stored i j)) i hi
      (any-i g.nodes (λ j. eqb (g.block i) b && eqb (g.block j) c && joined g.stored i j) j hj
      (and_i (eqb (g.block i) b && eqb (g.block j) c) (joined g.stored i j)
      (and_i (eqb (g.block i) b) (eqb (g.block j) c) (subst (λ (x : ℕ). T (eqb (g.block i) x)) ei (eqb_refl (g.block i))) (subst (λ (x : ℕ). T (eqb (g.block j) x)) ej (eqb_refl (g.block j)))) t))

  pub linked-e : (b c : ℕ) → T (L b c) → (i : ℕ) × (j : ℕ) × (i < g.nodes) × (j < g.nodes) × (g.block i ≡ b) × (g.block j ≡ c) × T (joined g.stored i j)
  unfolding linked
  linked-e b c t =
      let r : (i : ℕ) × (i < g.nodes) × T (any_below g.nodes (λ j. eqb (g.block i) b && eqb (g.block j) c && joined g.stored i j))
      = any-e g.nodes (λ i. any_below g.nodes (λ j. eqb (g.block i) b && eqb (g.block j) c && joined g.stored i j)) t in
      let i : ℕ = r.0 in
      let q : (j : ℕ) × (j < g.nodes) × T (eqb (g.block i) b && eqb (g.block j) c && joined g.stored i j)
      = any-e g.nodes (λ j. eqb (g.block i) b && eqb (g.block j) c && joined g.stored i j) r.2 in
      let j : ℕ = q.0 in
      let u : T (eqb (g.block i) b && eqb (g.block j) c) = and_l (eqb (g.block i) b && eqb (g.block j) c) (joined g.stored i j) q.2 in (
        i,
        j,
        r.1,
        q.1,
        eqb→eq (g.block i) b (and_l (eqb (g.block i) b) (eqb (g.block j) c) u),
        eqb→eq (g.block j) c (and_r (eqb (g.block i) b) (eqb (g.block j) c) u),
        and_r (eqb (g.block i) b && eqb (g.block j) c) (joined g.stored i j) q.2,
      )

  -- links go both ways, whichever side stores the pair: stated for itself
  pub linked-sym : (b c : ℕ) → T (L b c) → T (L c b)
  linked-sym b c t =
      let r : (i : ℕ) × (j : ℕ) × (i < g.nodes) × (j < g.nodes) × (g.block i ≡ b) × (g.block j ≡ c) × T (joined g.stored i j) = linked-e b c t in
      linked-i c b r.1 r.0 r.3 r.2 r.5 r.4 (subst (λ (v : Bool). T v) (or_comm (g.stored r.0 r.1) (g.stored r.1 r.0)) r.6)

  -- a block that is reached holds a node
  pub reached-node : (s : ℕ → Bool) (h b : ℕ) → T (within g.blocks (linked g) (seeded g s) h b) → (i : ℕ) × (i < g.nodes) × (g.block i ≡ b)
  unfolding within
  reached-node s zero b t = let r : (i : ℕ) × (i < g.nodes) × (g.block i ≡ b) × T (s i) = seeded-e s b t in (r.0, r.1, r.2)
  reached-node s (suc h) b t = at (λ u. reached-node s h b u) (within-case g.blocks (linked g) (seeded g s) h b t)
    where
      at : (T (within g.blocks (linked g) (seeded g s) h b) → (i : ℕ) × (i < g.nodes) × (g.block i ≡ b))
          → T (within g.blocks (linked g) (seeded g s) h b) ⊎ ((c : ℕ) × (c < g.blocks) × T (within g.blocks (linked g) (seeded g s) h c) × T (linked g c b))
          → (i : ℕ) × (i < g.nodes) × (g.block i ≡ b)
      at ih (inl u) = ih u
      at ih (inr r) = let q : (i : ℕ) × (j : ℕ) × (i < g.nodes) × (j < g.nodes) × (g.block i ≡ r.0) × (g.block j ≡ b) × T (joined g.stored i j) = linked-e r.0 b r.3 in (q.1, q.3, q.5)

  -- the blocks seeded by a region are the blocks of the region
  pub reseeded : (s t : ℕ → Bool) (a : ℕ) → ((i : ℕ) → i < g.nodes → t i ≡ in_region g s a i) → (b : ℕ) → seeded g t b ≡ within g.blocks (linked g) (seeded g s) a b
  reseeded s t a e b = bool-ext (seeded g t b) (within g.blocks (linked g) (seeded g s) a b) to from
    where
      to : T (seeded g t b) → T (within g.blocks (linked g) (seeded g s) a b)
      to u = let r : (i : ℕ) × (i < g.nodes) × (g.block i ≡ b) × T (t i) = seeded-e t b u in
          subst (λ (x : ℕ). T (within g.blocks (linked g) (seeded g s) a x)) r.2 (subst (λ (v : Bool). T v) (e r.0 r.1) r.3)

      from : T (within g.blocks (linked g) (seeded g s) a b) → T (seeded g t b)
      from u = let r : (i : ℕ) × (i < g.nodes) × (g.block i ≡ b) = reached-node s a b u in
          seeded-i t b r.0 r.1 r.2 (subst (λ (v : Bool). T v) (sym (e r.0 r.1)) (subst (λ (x : ℕ). T (within g.blocks (linked g) (seeded g s) a x)) (sym r.2) u))

  -- what the region's words hold, node by node
  pub region-at : (seeds : List ℕ) (h i : ℕ) → i < g.nodes → in_mask (region_words g seeds h) i ≡ in_region g (in_mask seeds) h i
  unfolding region_words
  region-at seeds h i hi = mask-holds g.nodes (in_region g (in_mask seeds) h) i hi

  -- growing by h from the region of growing by a is growing by h + a, in all words of the region, and of the frontier if h is at least 1: stated for itself
  pub regrow-region : (seeds : List ℕ) (a h : ℕ) → region_words g (region_words g seeds a) h ≡ region_words g seeds (h + a)
  unfolding region_words
  regrow-region seeds a h = mask-cong g.nodes (in_region g (in_mask (region_words g seeds a)) h) (in_region g (in_mask seeds) (h + a)) (λ i hi.
      within-cong g.blocks (linked g) (seeded g (in_mask (region_words g seeds a))) (within g.blocks (linked g) (seeded g (in_mask seeds)) a)
      (reseeded (in_mask seeds) (in_mask (region_words g seeds a)) a (λ i hi. region-at seeds a i hi)) h (g.block i)
      ∙ compose-within g.blocks (linked g) (seeded g (in_mask seeds)) a h (g.block i))

  regrow-frontier-suc : (seeds : List ℕ) (a h : ℕ) → frontier_words g (region_words g seeds a) (suc h) ≡ frontier_words g seeds (suc h + a)
  unfolding frontier_words
  regrow-frontier-suc seeds a h = mask-cong g.nodes (in_frontier g (in_mask (region_words g seeds a)) (suc h)) (in_frontier g (in_mask seeds) (suc h + a)) (λ i hi.
      exactly-cong g.blocks (linked g) (seeded g (in_mask (region_words g seeds a))) (within g.blocks (linked g) (seeded g (in_mask seeds)) a)
      (reseeded (in_mask seeds) (in_mask (region_words g seeds a)) a (λ i hi. region-at seeds a i hi)) (suc h) (g.block i)
      ∙ compose-exactly g.blocks (linked g) (seeded g (in_mask seeds)) a h (g.block i))

  pub regrow-frontier : (seeds : List ℕ) (a h : ℕ) → 1 ≤ h → frontier_words g (region_words g seeds a) h ≡ frontier_words g seeds (h + a)
  regrow-frontier seeds a zero le = absurd (not-suc-le-zero le)
  regrow-frontier seeds a (suc h) le = regrow-frontier-suc seeds a h

-- ---- hops past the number of blocks reach nothing more: stated for itself

module _ (g : Network) (whole : Whole g) where
  pub region-cap : (M : ℕ) → g.blocks ≤ M → (seeds : List ℕ) (h : ℕ) → region_words g seeds h ≡ region_words g seeds (min h M)
  unfolding region_words
  region-cap M le seeds h = mask-cong g.nodes (in_region g (in_mask seeds) h) (in_region g (in_mask seeds) (min h M))
      (λ i hi. cap-within g.blocks (linked g) (seeded g (in_mask seeds)) M h (g.block i) le (whole.has_block i hi))

  pub frontier-cap : (M : ℕ) → g.blocks ≤ M → (seeds : List ℕ) (h : ℕ) → frontier_words g seeds h ≡ frontier_words g seeds (min h M)
  unfolding frontier_words
  frontier-cap M le seeds h = mask-cong g.nodes (in_frontier g (in_mask seeds) h) (in_frontier g (in_mask seeds) (min h M))
      (λ i hi. cap-exactly g.blocks (linked g) (seeded g (in_mask seeds)) M h (g.block i) le (whole.has_block i hi))

-- ---- one hop, node by node: what the code does

module _ (g : Network) (whole : Whole g) (s : ℕ → Bool) where
  hop-blocks : (h b : ℕ) → any_below g.blocks (λ c. exactly g.blocks (linked g) (seeded g s) h c && linked g c b) ≡ seeded g (touched g.nodes g.stored (in_frontier g s h)) b
  unfolding touched
  hop-blocks h b = bool-ext (any_below g.blocks (λ c. E c && linked g c b)) (seeded g (touched g.nodes g.stored (in_frontier g s h)) b) to from
    where
      E : ℕ → Bool
      E c = exactly g.blocks (linked g) (seeded g s) h c

      to : T (any_below g.blocks (λ c. E c && linked g c b)) → T (seeded g (touched g.nodes g.stored (in_frontier g s h)) b)
      to t =
          let r : (c : ℕ) × (c < g.blocks) × T (E c && linked g c b) = any-e g.blocks (λ c. E c && linked g c b) t in
          let q : (i : ℕ) × (j : ℕ) × (i < g.nodes) × (j < g.nodes) × (g.block i ≡ r.0) × (g.block j ≡ b) × T (joined g.stored i j)
          = linked-e g r.0 b (and_r (E r.0) (linked g r.0 b) r.2) in
          seeded-i g (touched g.nodes g.stored (in_frontier g s h)) b q.1 q.3 q.5
          (any-i g.nodes (λ i. in_frontier g s h i && joined g.stored i q.1) q.0 q.2
          (and_i (in_frontier g s h q.0) (joined g.stored q.0 q.1) (subst (λ (x : ℕ). T (E x)) (sym q.4) (and_l (E r.0) (linked g r.0 b) r.2)) q.6))

      from : T (seeded g (touched g.nodes g.stored (in_frontier g s h)) b) → T (any_below g.blocks (λ c. E c && linked g c b))
      from t =
          let r : (j : ℕ) × (j < g.nodes) × (g.block j ≡ b) × T (touched g.nodes g.stored (in_frontier g s h) j) = seeded-e g (touched g.nodes g.stored (in_frontier g s h)) b t in
          let q : (i : ℕ) × (i < g.nodes) × T (in_frontier g s h i && joined g.stored i r.0) = any-e g.nodes (λ i. in_frontier g s h i && joined g.stored i r.0) r.3 in
          any-i g.blocks (λ c. E c && linked g c b) (g.block q.0) (whole.has_block q.0 q.1)
          (and_i (E (g.block q.0)) (linked g (g.block q.0) b) (and_l (in_frontier g s h q.0) (joined g.stored q.0 r.0) q.2)
          (linked-i g (g.block q.0) b q.0 r.0 q.1 r.1 refl r.2 (and_r (in_frontier g s h q.0) (joined g.stored q.0 r.0) q.2)))

  pub hop-start : (i : ℕ) → in_region g s 0 i ≡ closed g.nodes g.block s i
  unfolding within
  hop-start i = refl

  pub hop-start-frontier : (i : ℕ) → in_frontier g s 0 i ≡ closed g.nodes g.block s i
  unfolding exactly within
  hop-start-frontier i = refl

  pub hop-region : (h i : ℕ) → in_region g s (suc h) i ≡ (in_region g s h i || closed g.nodes g.block (touched g.nodes g.stored (in_frontier g s h)) i)
  hop-region h i = step g.blocks (linked g) (seeded g s) h (g.block i) ∙ ap (λ (x : Bool). in_region g s h i || x) (hop-blocks h (g.block i))

  pub hop-frontier : (h i : ℕ) → in_frontier g s (suc h) i ≡ (closed g.nodes g.block (touched g.nodes g.stored (in_frontier g s h)) i && not (in_region g s h i))
  hop-frontier h i = step-frontier g.blocks (linked g) (seeded g s) h (g.block i) ∙ ap (λ (x : Bool). x && not (in_region g s h i)) (hop-blocks h (g.block i))

-- ---- the sums over visited nodes

module _ (g : Network) (s : ℕ → Bool) where
  -- a turn adds the frontier's counts
  pub sum-turn : (f : ℕ → ℕ) (h : ℕ) → sum_over g.nodes (visited g s (suc h)) f ≡ sum_over g.nodes (visited g s h) f + sum_over g.nodes (in_frontier g s h) f
  unfolding exactly
  sum-turn f zero = sum-split g.nodes (visited g s 1) (visited g s 0) (in_frontier g s 0) f (λ i hi. refl) (λ i hi t u. t)
  sum-turn f (suc h) = sum-split g.nodes (visited g s (suc (suc h))) (visited g s (suc h)) (in_frontier g s (suc h)) f
      (λ i hi. grow (in_region g s (suc h) i) (in_region g s h i) (λ t. within-stay g.blocks (linked g) (seeded g s) h (g.block i) t))
      (λ i hi t u. exactly-new g.blocks (linked g) (seeded g s) h (g.block i) u t)
    where
      grow : (a b : Bool) → (T b → T a) → a ≡ (b || (a && not b))
      grow true true f = refl
      grow true false f = refl
      grow false true f = absurd (f tt)
      grow false false f = refl

module _ (g : Network) (whole : Whole g) (s : ℕ → Bool) where
  -- at the loop's end after k turns, what was visited is what is asked for at h
  pub visited-ended : (h k : ℕ) → k ≤ h → (k ≡ h) ⊎ (T (any_at g.blocks (linked g) (seeded g s) k) → ⊥) → (i : ℕ) → i < g.nodes → visited g s k i ≡ visited g s h i
  visited-ended h k le (inl e) i hi = ap (λ (x : ℕ). visited g s x i) e
  visited-ended zero zero le (inr n) i hi = refl
  visited-ended zero (suc k) le (inr n) i hi = absurd (not-suc-le-zero le)
  visited-ended (suc h) zero le (inr n) i hi =
      bool-ext false (in_region g s h i) (λ t. absurd t)
      (λ t. absurd (n (any-at-i g.blocks (linked g) (seeded g s) 0 (g.block i) (whole.has_block i hi)
      (subst (λ (v : Bool). T v) (rest-within g.blocks (linked g) (seeded g s) 0 h (g.block i) n (omega arith) (whole.has_block i hi) ∙ exactly-zero g.blocks (linked g) (seeded g s) (g.block i)) t))))
  visited-ended (suc h) (suc k) le (inr n) i hi =
      bool-ext (in_region g s k i) (in_region g s h i) (within-mono g.blocks (linked g) (seeded g s) k h (g.block i) (omega arith)) back
    where
      hb : g.block i < g.blocks
      hb = whole.has_block i hi

      back' : T (in_region g s (suc k) i) → T (in_region g s k i) ⊎ (T (in_region g s k i) → ⊥) → T (in_region g s k i)
      back' t (inl u) = u
      back' t (inr f) = absurd (n (any-at-i g.blocks (linked g) (seeded g s) (suc k) (g.block i) hb (exactly-i g.blocks (linked g) (seeded g s) k (g.block i) t f)))

      back : T (in_region g s h i) → T (in_region g s k i)
      back t = back' (subst (λ (v : Bool). T v) (rest-within g.blocks (linked g) (seeded g s) (suc k) (suc h) (g.block i) n le hb) (within-stay g.blocks (linked g) (seeded g s) h (g.block i) t)) (decide (in_region g s k i))
