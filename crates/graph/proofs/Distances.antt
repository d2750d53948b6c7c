-- The laws of distance: the tests agree with the walks, one hop looks at the frontier alone, the search comes to rest before there are more
-- hops than blocks, and growing on from a region is growing by the sum. Assumes nothing.
use mathlib.Core.Path.{◌≡◌, refl, sym, ap, ap₂, ◌∙◌, subst}
use mathlib.Core.Logic.{◌↔◌, ◌⊎◌, inl, inr}
use mathlib.Core.Bool.{Bool, true, false, not, cond, ◌&&◌, ◌||◌}
use Prim.Native.Nat.{ℕ, zero, suc, ◌+◌, ◌≤◌, ◌<◌, min}
use native.Mathlib.Omega.{arith}
use native.Mathlib.Nat.{zero-add, suc-add}
use native.Mathlib.Decide.{le_ind, dec_le}
use lib.Dec.{T, T_not, not_T}
use Rattle.base.specs.Sets.{any_below, count_below}
use Rattle.base.proofs.Bools.{bool-ext, decide, and_l, and_r, and_i, or_l, or_r, or-e}
use Rattle.base.proofs.Sets.{any-i, any-e, any-cong, count-le, count-lt, count-pos}
use Rattle.graph.specs.Distance.{Walk, here, next, Within, Distance, within, exactly, any_at, farthest_to, farthest, completed}

module _ (B : ℕ) (link : ℕ → ℕ → Bool) (seeded : ℕ → Bool) where
  abbrev W : ℕ → ℕ → Bool
  W h b = within B link seeded h b

  abbrev X : ℕ → ℕ → Bool
  X h b = exactly B link seeded h b

  -- what links from a block within h lead to
  abbrev reached : ℕ → ℕ → Bool
  reached h b = any_below B (λ c. W h c && link c b)

  pub within-stay : (h b : ℕ) → T (W h b) → T (W (suc h) b)
  unfolding within
  within-stay h b t = or_l (W h b) (reached h b) t

  pub within-link : (h c b : ℕ) → c < B → T (W h c) → T (link c b) → T (W (suc h) b)
  unfolding within
  within-link h c b hc t l = or_r (W h b) (reached h b) (any-i B (λ x. W h x && link x b) c hc (and_i (W h c) (link c b) t l))

  pub within-case : (h b : ℕ) → T (W (suc h) b) → T (W h b) ⊎ ((c : ℕ) × (c < B) × T (W h c) × T (link c b))
  unfolding within
  within-case h b t = at (or-e (W h b) (reached h b) t)
    where
      at : T (W h b) ⊎ T (reached h b) → T (W h b) ⊎ ((c : ℕ) × (c < B) × T (W h c) × T (link c b))
      at (inl a) = inl a
      at (inr a) = let r : (c : ℕ) × (c < B) × T (W h c && link c b) = any-e B (λ c. W h c && link c b) a in
          inr (r.0, r.1, and_l (W h r.0) (link r.0 b) r.2, and_r (W h r.0) (link r.0 b) r.2)

  pub within-mono : (h m b : ℕ) → h ≤ m → T (W h b) → T (W m b)
  within-mono h m b le t = le_ind (λ (x : ℕ). T (W x b)) t (λ x k a. within-stay x b a) m le

  -- the test and the walks agree
  pub walk-within : {k b : ℕ} → Walk B link seeded k b → (b < B) × T (W k b)
  unfolding within
  walk-within (here h t) = (h, t)
  walk-within (next {k = k} {c = c} {b = b} w h l) = let r : (c < B) × T (W k c) = walk-within w in (h, within-link k c b r.0 r.1 l)

  pub within-walk : (h b : ℕ) → b < B → T (W h b) → Within B link seeded h b
  unfolding within
  within-walk zero b hb t = (zero, omega arith, here hb t)
  within-walk (suc h) b hb t = at (within-walk h b hb) (λ c hc. within-walk h c hc) (within-case h b t)
    where
      at : (T (W h b) → Within B link seeded h b) → ((c : ℕ) → c < B → T (W h c) → Within B link seeded h c)
          → T (W h b) ⊎ ((c : ℕ) × (c < B) × T (W h c) × T (link c b)) → Within B link seeded (suc h) b
      at ih jh (inl a) = let r : Within B link seeded h b = ih a in (r.0, omega arith, r.2)
      at ih jh (inr a) = let r : Within B link seeded h a.0 = jh a.0 a.1 a.2 in (suc r.0, omega arith, next r.2 hb a.3)

  -- document 01's words: stated for itself
  pub within-iff : (h b : ℕ) → b < B → T (W h b) ↔ Within B link seeded h b
  within-iff h b hb = (within-walk h b hb, λ w. within-mono w.0 h b w.1 (walk-within w.2).1)

  -- ---- exactly
  pub exactly-zero : (b : ℕ) → W 0 b ≡ X 0 b
  unfolding exactly
  exactly-zero b = refl

  pub exactly-within : (h b : ℕ) → T (X h b) → T (W h b)
  unfolding exactly
  exactly-within zero b t = t
  exactly-within (suc h) b t = and_l (W (suc h) b) (not (W h b)) t

  pub exactly-new : (h b : ℕ) → T (X (suc h) b) → T (W h b) → ⊥
  unfolding exactly
  exactly-new h b t = T_not (W h b) (and_r (W (suc h) b) (not (W h b)) t)

  pub exactly-i : (h b : ℕ) → T (W (suc h) b) → (T (W h b) → ⊥) → T (X (suc h) b)
  unfolding exactly
  exactly-i h b t n = and_i (W (suc h) b) (not (W h b)) t (not_T (W h b) n)

  -- within h: at exactly h, or within h - 1
  pub within-split : (h b : ℕ) → T (W h b) → T (X h b) ⊎ ((g : ℕ) × (suc g ≡ h) × T (W g b))
  unfolding exactly
  within-split zero b t = inl t
  within-split (suc h) b t = at (decide (W h b))
    where
      at : T (W h b) ⊎ (T (W h b) → ⊥) → T (X (suc h) b) ⊎ ((g : ℕ) × (suc g ≡ suc h) × T (W g b))
      at (inl a) = inr (h, refl, a)
      at (inr n) = inl (exactly-i h b t n)

  pub exactly-least : (h b k : ℕ) → T (X h b) → T (W k b) → h ≤ k
  exactly-least zero b k t w = omega arith
  exactly-least (suc h) b k t w = at (dec_le (suc h) k)
    where
      at : Dec (suc h ≤ k) → suc h ≤ k
      at (yes le) = le
      at (no n) = absurd (exactly-new h b t (within-mono k h b (omega arith) w))

  -- document 01's words: stated for itself
  pub distance-iff : (h b : ℕ) → b < B → T (X h b) ↔ Distance B link seeded h b
  distance-iff h b hb = (to, from)
    where
      to : T (X h b) → Distance B link seeded h b
      to t =
          let w : Within B link seeded h b = within-walk h b hb (exactly-within h b t) in
          let le : h ≤ w.0 = exactly-least h b w.0 t (walk-within w.2).1 in
          let e : w.0 ≡ h = omega arith in
          (subst (λ (x : ℕ). Walk B link seeded x b) e w.2, λ k v. exactly-least h b k t (walk-within v).1)

      from' : Distance B link seeded h b → T (X h b) ⊎ ((g : ℕ) × (suc g ≡ h) × T (W g b)) → T (X h b)
      from' d (inl x) = x
      from' d (inr r) =
          let w : Within B link seeded r.0 b = within-walk r.0 b hb r.2 in
          let le : h ≤ w.0 = d.1 w.0 w.2 in
          absurd (omega arith)

      from : Distance B link seeded h b → T (X h b)
      from d = from' d (within-split h b (walk-within d.0).1)

  -- ---- expanding the frontier alone is enough
  pub step_case : (h b : ℕ) → T (W (suc h) b) → T (W h b) ⊎ ((c : ℕ) × (c < B) × T (X h c) × T (link c b))
  step_case h b t = at (within-case h b t)
    where
      go : (c : ℕ) → c < B → T (link c b) → T (X h c) ⊎ ((g : ℕ) × (suc g ≡ h) × T (W g c)) → T (W h b) ⊎ ((c : ℕ) × (c < B) × T (X h c) × T (link c b))
      go c hc l (inl x) = inr (c, hc, x, l)
      go c hc l (inr r) = inl (subst (λ (x : ℕ). T (W x b)) r.1 (within-link r.0 c b hc r.2 l))

      at : T (W h b) ⊎ ((c : ℕ) × (c < B) × T (W h c) × T (link c b)) → T (W h b) ⊎ ((c : ℕ) × (c < B) × T (X h c) × T (link c b))
      at (inl a) = inl a
      at (inr a) = go a.0 a.1 a.3 (within-split h a.0 a.2)

  pub step : (h b : ℕ) → W (suc h) b ≡ (W h b || any_below B (λ c. X h c && link c b))
  step h b = bool-ext (W (suc h) b) (W h b || F) to from
    where
      F : Bool
      F = any_below B (λ c. X h c && link c b)

      to' : T (W h b) ⊎ ((c : ℕ) × (c < B) × T (X h c) × T (link c b)) → T (W h b || F)
      to' (inl a) = or_l (W h b) F a
      to' (inr a) = or_r (W h b) F (any-i B (λ c. X h c && link c b) a.0 a.1 (and_i (X h a.0) (link a.0 b) a.2 a.3))

      to : T (W (suc h) b) → T (W h b || F)
      to t = to' (step_case h b t)

      from' : T (W h b) ⊎ T F → T (W (suc h) b)
      from' (inl a) = within-stay h b a
      from' (inr a) = let r : (c : ℕ) × (c < B) × T (X h c && link c b) = any-e B (λ c. X h c && link c b) a in
          within-link h r.0 b r.1 (exactly-within h r.0 (and_l (X h r.0) (link r.0 b) r.2)) (and_r (X h r.0) (link r.0 b) r.2)

      from : T (W h b || F) → T (W (suc h) b)
      from t = from' (or-e (W h b) F t)

  -- the next frontier: what the frontier leads to, less the region
  pub step-frontier : (h b : ℕ) → X (suc h) b ≡ (any_below B (λ c. X h c && link c b) && not (W h b))
  unfolding exactly
  step-frontier h b = rw (step h b) (absorb (W h b) (any_below B (λ c. X h c && link c b)))
    where
      absorb : (a f : Bool) → ((a || f) && not a) ≡ (f && not a)
      absorb true true = refl
      absorb true false = refl
      absorb false true = refl
      absorb false false = refl

  -- ---- the search comes to rest

  abbrev A : ℕ → Bool
  A h = any_at B link seeded h

  pub any-at-i : (h b : ℕ) → b < B → T (X h b) → T (A h)
  unfolding any_at
  any-at-i h b hb t = any-i B (λ x. X h x) b hb t

  pub any-at-e : (h : ℕ) → T (A h) → (b : ℕ) × (b < B) × T (X h b)
  unfolding any_at
  any-at-e h t = any-e B (λ x. X h x) t

  -- a block at distance h + 1 is linked to one at distance h
  pub any-at-down : (h : ℕ) → T (A (suc h)) → T (A h)
  any-at-down h t = at (any-at-e (suc h) t)
    where
      go : (b : ℕ) → T (X (suc h) b) → T (W h b) ⊎ ((c : ℕ) × (c < B) × T (X h c) × T (link c b)) → T (A h)
      go b x (inl w) = absurd (exactly-new h b x w)
      go b x (inr r) = any-at-i h r.0 r.1 r.2

      at : (b : ℕ) × (b < B) × T (X (suc h) b) → T (A h)
      at r = go r.0 r.2 (step_case h r.0 (exactly-within (suc h) r.0 r.2))

  pub empty-up : (k m : ℕ) → k ≤ m → (T (A k) → ⊥) → T (A m) → ⊥
  empty-up k m le n = le_ind (λ (x : ℕ). T (A x) → ⊥) n (λ x h f t. f (any-at-down x t)) m le

  pub any-at-below : (k m : ℕ) → k ≤ m → T (A m) → T (A k)
  any-at-below k m le t = at (decide (A k))
    where
      at : T (A k) ⊎ (T (A k) → ⊥) → T (A k)
      at (inl a) = a
      at (inr n) = absurd (empty-up k m le n t)

  -- an empty frontier at k: nothing is added ever after
  pub rest-within : (k m b : ℕ) → (T (A k) → ⊥) → k ≤ m → b < B → W m b ≡ W k b
  rest-within k m b n le hb = bool-ext (W m b) (W k b) (le_ind (λ (x : ℕ). T (W x b) → T (W k b)) (λ t. t) more m le) (within-mono k m b le)
    where
      at : (x : ℕ) → k ≤ x → (T (W x b) → T (W k b)) → T (W x b) ⊎ ((c : ℕ) × (c < B) × T (X x c) × T (link c b)) → T (W k b)
      at x h f (inl a) = f a
      at x h f (inr r) = absurd (empty-up k x h n (any-at-i x r.0 r.1 r.2))

      more : (x : ℕ) → k ≤ x → (T (W x b) → T (W k b)) → T (W (suc x) b) → T (W k b)
      more x h f t = at x h f (step_case x b t)

  pub rest-exactly : (k m b : ℕ) → (T (A k) → ⊥) → k ≤ m → b < B → X m b ≡ X k b
  rest-exactly k m b n le hb = bool-ext (X m b) (X k b) (λ t. absurd (empty-up k m le n (any-at-i m b hb t))) (λ t. absurd (n (any-at-i k b hb t)))

  -- every distance is below the number of blocks
  crowd : (h b : ℕ) → b < B → T (X h b) → h < count_below B (λ c. W h c)
  unfolding exactly
  crowd zero b hb t = count-pos B (λ c. W 0 c) b hb t
  crowd (suc h) b hb t = at (step_case h b (exactly-within (suc h) b t)) (λ c hc x. crowd h c hc x)
    where
      at : T (W h b) ⊎ ((c : ℕ) × (c < B) × T (X h c) × T (link c b)) → ((c : ℕ) → c < B → T (X h c) → h < count_below B (λ c. W h c)) → suc h < count_below B (λ c. W (suc h) c)
      at (inl w) ih = absurd (exactly-new h b t w)
      at (inr r) ih = omega (
        arith,
        ih r.0 r.1 r.2,
        count-lt B (λ c. W h c) (λ c. W (suc h) c) (λ i hi w. within-stay h i w) b hb (exactly-new h b t) (exactly-within (suc h) b t),
      )

  pub distance-lt : (h b : ℕ) → b < B → T (X h b) → h < B
  distance-lt h b hb t = omega (arith, crowd h b hb t, count-le B (λ c. W h c))

  pub any-at-lt : (h : ℕ) → T (A h) → h < B
  any-at-lt h t = let r : (b : ℕ) × (b < B) × T (X h b) = any-at-e h t in distance-lt h r.0 r.1 r.2

  -- a count of links past M is as good as M, if M is at least the number of blocks
  pub cap-within : (M h b : ℕ) → B ≤ M → b < B → W h b ≡ W (min h M) b
  cap-within M h b le hb = at (dec_le h M)
    where
      at : Dec (h ≤ M) → W h b ≡ W (min h M) b
      at (yes k) = ap (λ (x : ℕ). W x b) (omega arith)
      at (no k) = rest-within M h b (λ t. absurd (omega (arith, any-at-lt M t))) (omega arith) hb ∙ ap (λ (x : ℕ). W x b) (omega arith)

  pub cap-exactly : (M h b : ℕ) → B ≤ M → b < B → X h b ≡ X (min h M) b
  cap-exactly M h b le hb = at (dec_le h M)
    where
      at : Dec (h ≤ M) → X h b ≡ X (min h M) b
      at (yes k) = ap (λ (x : ℕ). X x b) (omega arith)
      at (no k) = rest-exactly M h b (λ t. absurd (omega (arith, any-at-lt M t))) (omega arith) hb ∙ ap (λ (x : ℕ). X x b) (omega arith)

  -- ---- how many hops are made

  abbrev Far : ℕ → ℕ
  Far k = farthest_to B link seeded k

  -- E is a distance that occurs, and no larger one does
  pub far-occurs : (k : ℕ) → T (A 0) → T (A (Far k))
  unfolding farthest_to
  far-occurs zero t = t
  far-occurs (suc k) t = at (A (suc k)) (λ x. x) (far-occurs k t)
    where
      at : (v : Bool) → (T v → T (A (suc k))) → T (A (Far k)) → T (A (cond v (suc k) (Far k)))
      at true f ih = f tt
      at false f ih = ih

  pub far-largest : (k j : ℕ) → j ≤ k → T (A j) → j ≤ Far k
  unfolding farthest_to
  far-largest zero j h t = h
  far-largest (suc k) j h t = at (A (suc k)) refl (λ h'. far-largest k j h' t)
    where
      at : (v : Bool) → A (suc k) ≡ v → (j ≤ k → j ≤ Far k) → j ≤ cond v (suc k) (Far k)
      at true e ih = h
      at false e ih = ih (lt (dec_le j k))
        where
          lt : Dec (j ≤ k) → j ≤ k
          lt (yes l) = l
          lt (no l) = let q : j ≡ suc k = omega arith in absurd (subst (λ (v : Bool). T v) e (subst (λ (x : ℕ). T (A x)) q t))

  -- with a seed, a block stands at distance k exactly if k ≤ E
  pub any-at-iff : (k : ℕ) → T (A 0) → T (A k) ↔ (k ≤ farthest B link seeded)
  any-at-iff k t = (λ a. far-largest B k (omega (arith, any-at-lt k a)) a, λ h. any-at-below k (Far B) h (far-occurs B t))

  -- however large h is, no more hops are completed than there are blocks
  pub completed-le : (h : ℕ) → completed B link seeded h ≤ B
  unfolding completed
  completed-le h = at (A 0) refl
    where
      at : (v : Bool) → A 0 ≡ v → cond v (min h (Far B + 1)) 0 ≤ B
      at true e = omega (arith, any-at-lt (Far B) (far-occurs B (subst (λ (v : Bool). T v) (sym e) tt)))
      at false e = omega arith

  -- the hop loop: k turns made, none on an empty frontier, and it ended since k = h or the frontier is empty.
  -- Then k is hops_completed, and what it holds at k is what is asked for at h
  pub record Ended (h k : ℕ) : Type 0 where
    pub turns : k ≡ completed B link seeded h
    pub region : (b : ℕ) → b < B → W k b ≡ W h b
    pub frontier : (b : ℕ) → b < B → X k b ≡ X h b

  pub ended : (h k : ℕ) → k ≤ h → ((j : ℕ) → j < k → T (A j)) → (k ≡ h) ⊎ (T (A k) → ⊥) → Ended h k
  unfolding completed
  ended h k le all end = record { turns = tm end; region = rg end; frontier = fr end }
    where
      rg : (k ≡ h) ⊎ (T (A k) → ⊥) → (b : ℕ) → b < B → W k b ≡ W h b
      rg (inl e) b hb = ap (λ (x : ℕ). W x b) e
      rg (inr n) b hb = sym (rest-within k h b n le hb)

      fr : (k ≡ h) ⊎ (T (A k) → ⊥) → (b : ℕ) → b < B → X k b ≡ X h b
      fr (inl e) b hb = ap (λ (x : ℕ). X x b) e
      fr (inr n) b hb = sym (rest-exactly k h b n le hb)

      -- no turn on an empty frontier: k ≤ E + 1
      bound : T (A 0) → (x : ℕ) → ((j : ℕ) → j < x → T (A j)) → x ≤ Far B + 1
      bound t zero f = omega arith
      bound t (suc x) f = omega (arith, (any-at-iff x t).0 (f x (omega arith)))

      tm' : (v : Bool) → A 0 ≡ v → (k ≡ h) ⊎ (T (A k) → ⊥) → k ≡ cond v (min h (Far B + 1)) 0
      tm' true e (inl q) = omega (arith, bound (subst (λ (v : Bool). T v) (sym e) tt) k all)
      tm' true e (inr n) =
          let t : T (A 0) = subst (λ (v : Bool). T v) (sym e) tt in
          let far : Far B < k = at (dec_le k (Far B)) t in
          omega (arith, bound t k all)
        where
          at : Dec (k ≤ Far B) → T (A 0) → Far B < k
          at (yes l) t = absurd (n ((any-at-iff k t).1 l))
          at (no l) t = omega arith
      tm' false e d = none k all
        where
          none : (x : ℕ) → ((j : ℕ) → j < x → T (A j)) → x ≡ 0
          none zero f = refl
          none (suc x) f = absurd (subst (λ (v : Bool). T v) e (f 0 (omega arith)))

      tm : (k ≡ h) ⊎ (T (A k) → ⊥) → k ≡ cond (A 0) (min h (Far B + 1)) 0
      tm d = tm' (A 0) refl d

-- ---- growing on from what was grown

module _ (B : ℕ) (link : ℕ → ℕ → Bool) (seeded : ℕ → Bool) where
  pub compose-within : (a h b : ℕ) → within B link (within B link seeded a) h b ≡ within B link seeded (h + a) b
  unfolding within
  compose-within a zero b = ap (λ (x : ℕ). within B link seeded x b) (sym (zero-add a))
  compose-within a (suc h) b =
      ap₂ ◌||◌ (compose-within a h b) (any-cong B (λ c. within B link (within B link seeded a) h c && link c b) (λ c. within B link seeded (h + a) c && link c b) (λ c hc. ap (λ (x : Bool). x && link c b) (compose-within a h c)))
      ∙ ap (λ (x : ℕ). within B link seeded x b) (sym (suc-add h a))

  pub compose-exactly : (a h b : ℕ) → exactly B link (within B link seeded a) (suc h) b ≡ exactly B link seeded (suc h + a) b
  unfolding exactly
  compose-exactly a h b = ap₂ ◌&&◌ (compose-within a (suc h) b ∙ ap (λ (x : ℕ). within B link seeded x b) (suc-add h a)) (ap not (compose-within a h b))
      ∙ ap (λ (x : ℕ). exactly B link seeded x b) (sym (suc-add h a))

-- seeds that agree block by block give the same distances
module _ (B : ℕ) (link : ℕ → ℕ → Bool) (s t : ℕ → Bool) (same : (b : ℕ) → s b ≡ t b) where
  pub within-cong : (h b : ℕ) → within B link s h b ≡ within B link t h b
  unfolding within
  within-cong zero b = same b
  within-cong (suc h) b = ap₂ ◌||◌ (within-cong h b) (any-cong B (λ c. within B link s h c && link c b) (λ c. within B link t h c && link c b) (λ c hc. ap (λ (x : Bool). x && link c b) (within-cong h c)))

  pub exactly-cong : (h b : ℕ) → exactly B link s h b ≡ exactly B link t h b
  unfolding exactly
  exactly-cong zero b = within-cong zero b
  exactly-cong (suc h) b = ap₂ ◌&&◌ (within-cong (suc h) b) (ap not (within-cong h b))
