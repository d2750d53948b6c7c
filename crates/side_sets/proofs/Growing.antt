-- A row that is written word by word, up to a bound: the next word that is 0, the next word that is not, the last. Assumes nothing.
use mathlib.Core.Path.{◌≡◌, sym, ap, ◌∙◌, subst}
use mathlib.Core.Logic.{◌⊎◌, inl, inr, ◌≢◌}
use mathlib.Core.Bool.{Bool, ◌&&◌}
use mathlib.Core.List.{List}
use Prim.Native.Nat.{ℕ, ◌+◌, ◌*◌, ◌/◌, ◌≤◌, ◌<◌}
use native.Mathlib.Omega.{arith}
use lib.Dec.{T, ltb, ltb→lt, lt→ltb}
use lib.ListN.{length, get_or, set}
use lib.Seq.{get_or-set_same, get_or-set_other}
use borrow.Author.Tests.{lt-ltb}
use Rattle.base.proofs.Bools.{bool-ext, and_l, and_r, and_i, lt-or-le, eq-or-ne}
use Rattle.word.specs.Bits.{word_of}
use Rattle.word.proofs.Words.{word-ext, word_some, word-pos}
use Rattle.side.specs.Row.{Row}

-- the columns of p in the words below w
abbrev pub up_to : (ℕ → Bool) → ℕ → ℕ → Bool
up_to p w c = p c && ltb c (64 * w)

-- no words: the bound 0
pub row-none : (p : ℕ → Bool) (idx masks : List ℕ) (from : ℕ) → Row (up_to p 0) idx masks from from
row-none p idx masks from = record {
  rising = λ j k a b d. absurd (omega arith);
  mask = λ k a b. absurd (omega arith);
  used = λ k a b. absurd (omega arith);
  every = λ c t. absurd (omega (arith, ltb→lt c (64 * 0) (and_r (p c) (ltb c (64 * 0)) t)));
}

module _ (p : ℕ → Bool) (w : ℕ) {idx masks : List ℕ} {from to : ℕ} (r : Row (up_to p w) idx masks from to) where
  below : (k : ℕ) → from ≤ k → k < to → get_or idx k 0 < w
  below k a b =
      let u : 0 < word_of (up_to p w) (get_or idx k 0) = omega (arith, r.mask k a b, r.used k a b) in
      let s : (i : ℕ) × (64 * get_or idx k 0 ≤ i) × (i < 64 * get_or idx k 0 + 64) × T (up_to p w i) = word_some (up_to p w) 64 (64 * get_or idx k 0) u in
      let l : s.0 < 64 * w = ltb→lt s.0 (64 * w) (and_r (p s.0) (ltb s.0 (64 * w)) s.3) in
      omega (arith, s.1)

  -- a column of p below the bound
  old : (c : ℕ) → T (p c) → c < 64 * w → (k : ℕ) × (from ≤ k) × (k < to) × (get_or idx k 0 ≡ c / 64)
  old c t l = r.every c (and_i (p c) (ltb c (64 * w)) t (lt→ltb c (64 * w) l))

  -- the last: p has no column past the bound
  pub row-whole : ((c : ℕ) → T (p c) → c < 64 * w) → Row p idx masks from to
  row-whole h = record {
    rising = r.rising;
    mask = λ k a b. r.mask k a b ∙ word-ext (up_to p w) p 64 (64 * get_or idx k 0) (λ c l u. same c);
    used = r.used;
    every = λ c t. old c t (h c t);
  }
    where
      same : (c : ℕ) → up_to p w c ≡ p c
      same c = bool-ext (up_to p w c) (p c) (λ t. and_l (p c) (ltb c (64 * w)) t) (λ t. and_i (p c) (ltb c (64 * w)) t (lt→ltb c (64 * w) (h c t)))

  -- the next word is v, with mask m: between the bound and v there is no column
  module _ (v m : ℕ) (h : w ≤ v) (gap : (c : ℕ) → T (p c) → 64 * w ≤ c → 64 * v ≤ c) (e : m ≡ word_of p v) where
    cut : (u : ℕ) → u < w → word_of (up_to p w) u ≡ word_of (up_to p (v + 1)) u
    cut u l =
        word-ext (up_to p w) (up_to p (v + 1)) 64 (64 * u)
        (λ c a b. ap (λ (t : Bool). p c && t) (lt-ltb c (64 * w) (omega arith) ∙ sym (lt-ltb c (64 * (v + 1)) (omega arith))))

    -- a column up to v is below the bound or in v
    either : (c : ℕ) → T (up_to p (v + 1) c) → T (p c) × ((c < 64 * w) ⊎ ((64 * v ≤ c) × (c < 64 * v + 64)))
    either c t = (pc, go (lt-or-le c (64 * w)))
      where
        pc : T (p c)
        pc = and_l (p c) (ltb c (64 * (v + 1))) t

        go : (c < 64 * w) ⊎ (64 * w ≤ c) → (c < 64 * w) ⊎ ((64 * v ≤ c) × (c < 64 * v + 64))
        go (inl l) = inl l
        go (inr l) = inr (gap c pc l, omega (arith, ltb→lt c (64 * (v + 1)) (and_r (p c) (ltb c (64 * (v + 1))) t)))

    pub row-skip : m ≡ 0 → Row (up_to p (v + 1)) idx masks from to
    row-skip z = record {
      rising = r.rising;
      mask = λ k a b. r.mask k a b ∙ cut (get_or idx k 0) (below k a b);
      used = r.used;
      every = λ c t. all c (either c t).0 (either c t).1;
    }
      where
        all : (c : ℕ) → T (p c) → (c < 64 * w) ⊎ ((64 * v ≤ c) × (c < 64 * v + 64)) → (k : ℕ) × (from ≤ k) × (k < to) × (get_or idx k 0 ≡ c / 64)
        all c t (inl l) = old c t l
        all c t (inr l) = absurd (omega (arith, e, z, word-pos p 64 (64 * v) c l.0 l.1 t))

    pub row_put : from ≤ to → to < length idx → to < length masks → m ≢ 0 → Row (up_to p (v + 1)) (set idx to v) (set masks to m) from (to + 1)
    row_put o hi hm ne = record {
      rising = λ j k a b d. ris j k a b (eq-or-ne k to) d;
      mask = λ k a b. msk k a b (eq-or-ne k to);
      used = λ k a b. in_use k a b (eq-or-ne k to);
      every = λ c t. all c (either c t).0 (either c t).1;
    }
      where
        new : get_or (set idx to v) to 0 ≡ v
        new = get_or-set_same idx to v 0 hi

        kept : (k : ℕ) → k ≢ to → get_or (set idx to v) k 0 ≡ get_or idx k 0
        kept k n = get_or-set_other idx to k v 0 n

        ris : (j k : ℕ) → from ≤ j → j < k → (k ≡ to) ⊎ (k ≡ to → ⊥) → k < to + 1 → get_or (set idx to v) j 0 < get_or (set idx to v) k 0
        ris j k a b (inl s) d = subst (λ (x : ℕ). get_or (set idx to v) j 0 < get_or (set idx to v) x 0) (sym s) (omega (arith, new, kept j (λ q. omega arith), below j a (omega arith)))
        ris j k a b (inr n) d = omega (arith, kept j (λ q. omega arith), kept k n, r.rising j k a b (omega arith))

        last : word_of (up_to p (v + 1)) v ≡ m
        last =
            word-ext (up_to p (v + 1)) p 64 (64 * v)
            (λ c a b. bool-ext (up_to p (v + 1) c) (p c) (λ t. and_l (p c) (ltb c (64 * (v + 1))) t) (λ t. and_i (p c) (ltb c (64 * (v + 1))) t (lt→ltb c (64 * (v + 1)) (omega arith))))
            ∙ sym e

        msk : (k : ℕ) → from ≤ k → k < to + 1 → (k ≡ to) ⊎ (k ≡ to → ⊥) → get_or (set masks to m) k 0 ≡ word_of (up_to p (v + 1)) (get_or (set idx to v) k 0)
        msk k a b (inl s) =
            ap (λ (x : ℕ). get_or (set masks to m) x 0) s ∙ get_or-set_same masks to m 0 hm ∙ sym last
            ∙ ap (word_of (up_to p (v + 1))) (sym new ∙ ap (λ (x : ℕ). get_or (set idx to v) x 0) (sym s))
        msk k a b (inr n) =
            get_or-set_other masks to k m 0 n ∙ r.mask k a (omega arith) ∙ cut (get_or idx k 0) (below k a (omega arith))
            ∙ ap (word_of (up_to p (v + 1))) (sym (kept k n))

        in_use : (k : ℕ) → from ≤ k → k < to + 1 → (k ≡ to) ⊎ (k ≡ to → ⊥) → 0 < get_or (set masks to m) k 0
        in_use k a b (inl s) = subst (λ (x : ℕ). 0 < get_or (set masks to m) x 0) (sym s) (omega (arith, get_or-set_same masks to m 0 hm, ne))
        in_use k a b (inr n) = omega (arith, get_or-set_other masks to k m 0 n, r.used k a (omega arith))

        all : (c : ℕ) → T (p c) → (c < 64 * w) ⊎ ((64 * v ≤ c) × (c < 64 * v + 64)) → (k : ℕ) × (from ≤ k) × (k < to + 1) × (get_or (set idx to v) k 0 ≡ c / 64)
        all c t (inl l) =
            let f : (k : ℕ) × (from ≤ k) × (k < to) × (get_or idx k 0 ≡ c / 64) = old c t l in
            (f.0, f.1, omega (arith, f.2), kept f.0 (λ q. omega (arith, f.2)) ∙ f.3)
        all c t (inr l) = (to, o, omega arith, new ∙ omega (arith, l.0, l.1))
