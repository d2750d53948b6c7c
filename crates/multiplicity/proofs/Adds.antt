-- One more for each member of a mask, on a list of counts: word by word, in a word by its set bits from the lowest on. Assumes nothing.
use mathlib.Core.Path.{◌≡◌, refl, sym, ap, ◌∙◌, subst}
use mathlib.Core.Logic.{◌⊎◌, inl, inr, ◌≢◌}
use mathlib.Core.Bool.{Bool}
use mathlib.Core.List.{List, [], ◌∷◌}
use Prim.Native.Nat.{ℕ, zero, suc, ◌+◌, ◌-◌, ◌*◌, ◌/◌, ◌≤◌, ◌<◌}
use native.Mathlib.Nat.{zero-add}
use native.Mathlib.Omega.{arith}
use native.Mathlib.Decide.{ℕ_discrete}
use lib.Dec.{T}
use lib.ListN.{length, get_or, set, length-set}
use lib.Seq.{ext_get_or, get_or-set_same, get_or-set_other}
use Rattle.base.specs.Lists.{list_from}
use Rattle.base.specs.Sets.{one_if}
use Rattle.base.proofs.Bools.{T_true, T_false, lt-or-le}
use Rattle.base.proofs.Lists.{length-list_from, get_or-list_from}
use Rattle.base.proofs.Sets.{members-at, members-find, members-rising}
use Rattle.word.specs.Bits.{bit_at, set_bits}
use Rattle.word.proofs.Bits.{head_bit}
use Rattle.mask.specs.Mask.{in_mask, IsMask}
use Rattle.mask.proofs.Masks.{in-word, is-length, is_below}

-- ---- the first of the bits that are left, and the others

module _ (bits rest b : ℕ) (split : set_bits bits ≡ b ∷ set_bits rest) where
  low-lt : b < 64
  low-lt = (head_bit bits b (set_bits rest) split).0

  low_in : T (bit_at bits b)
  low_in = (head_bit bits b (set_bits rest) split).1

  -- a bit of the others is one place later in the list
  module _ (j : ℕ) (h : j < 64) (t : T (bit_at rest j)) where
    place : (k : ℕ) × (k < length (set_bits rest)) × (get_or (set_bits rest) k 0 ≡ j)
    place = members-find (bit_at rest) 0 64 j (omega arith) (omega arith) t

    later : get_or (set_bits bits) (suc place.0) 0 ≡ j
    later = ap (λ (l : List ℕ). get_or l (suc place.0) 0) split ∙ place.2

    in_list : suc place.0 < length (set_bits bits)
    in_list = omega (arith, place.1, ap length split)

    rest_in : T (bit_at bits j)
    rest_in = subst (λ (x : ℕ). T (bit_at bits x)) later (members-at (bit_at bits) 0 64 (suc place.0) in_list).2

    past-low : b < j
    past-low =
        let head : get_or (set_bits bits) 0 0 ≡ b = ap (λ (l : List ℕ). get_or l 0 0) split in
        omega (arith, members-rising (bit_at bits) 0 64 0 (suc place.0) (omega arith) in_list, head, later)

  rest-other : (j : ℕ) → j < 64 → T (bit_at bits j) → j ≢ b → T (bit_at rest j)
  rest-other j h t n =
      let f : (k : ℕ) × (k < length (set_bits bits)) × (get_or (set_bits bits) k 0 ≡ j) = members-find (bit_at bits) 0 64 j (omega arith) (omega arith) t in
      go f.0 (subst (λ (l : List ℕ). f.0 < length l) split f.1) (ap (λ (l : List ℕ). get_or l f.0 0) (sym split) ∙ f.2)
    where
      go : (k : ℕ) → k < length (b ∷ set_bits rest) → get_or (b ∷ set_bits rest) k 0 ≡ j → T (bit_at rest j)
      go zero l e = absurd (n (sym e))
      go (suc k) l e =
          let u : k < length (set_bits rest) = omega (arith, l) in
          subst (λ (x : ℕ). T (bit_at rest x)) e (members-at (bit_at rest) 0 64 k u).2

-- ---- a word

-- the members of word w are counted but for the bits that are left
pub record Walked (n : ℕ) (region old : List ℕ) (w : ℕ) (counts : List ℕ) (bits : ℕ) : Type 0 where
  pub long : length counts ≡ n
  pub member : (j : ℕ) → j < 64 → T (bit_at bits j) → T (in_mask region (64 * w + j))
  pub here : (j : ℕ) → j < 64 → (T (bit_at bits j) → ⊥) → get_or counts (64 * w + j) 0 ≡ get_or old (64 * w + j) 0 + one_if (in_mask region (64 * w + j))
  pub still : (j : ℕ) → j < 64 → T (bit_at bits j) → get_or counts (64 * w + j) 0 ≡ get_or old (64 * w + j) 0
  pub other : (k : ℕ) → k / 64 ≢ w → get_or counts k 0 ≡ get_or old k 0

module _ (n : ℕ) (region old : List ℕ) (w : ℕ) (m : IsMask n region) (within : w < length region) where
  pub walk_start : length old ≡ n → Walked n region old w old (get_or region w 0)
  walk_start e =
      record {
        long = e;
        member = λ j l t. subst (λ (x : Bool). T x) (sym (in-word region w j l)) t;
        here = λ j l f.
            let z : one_if (in_mask region (64 * w + j)) ≡ 0 = ap one_if (T_false (in_mask region (64 * w + j)) (λ t. f (subst (λ (x : Bool). T x) (in-word region w j l) t))) in
            omega arith;
        still = λ j l t. refl;
        other = λ k d. refl;
      }

  module _ (counts : List ℕ) (bits : ℕ) (x : Walked n region old w counts bits) (b rest : ℕ) (split : set_bits bits ≡ b ∷ set_bits rest) (i : ℕ) (e : i ≡ w * 64 + b) where
    -- the first is a node, not yet counted
    pub walk_node : (i < n) × (get_or counts i 0 ≡ get_or old i 0)
    walk_node =
        let l : b < 64 = low-lt bits rest b split in
        let q : i ≡ 64 * w + b = omega arith in
        rw q (is_below n region m _ (omega arith) (x.member _ l (low_in bits rest b split)), x.still _ l (low_in bits rest b split))

    -- it is counted
    pub walk_turn : Walked n region old w (set counts i (get_or counts i 0 + 1)) rest
    walk_turn =
        record {
          long = length-set counts i (get_or counts i 0 + 1) ∙ x.long;
          member = λ j l u. x.member j l (rest_in bits rest b split j l u);
          here = λ j l f. go j l f (ℕ_discrete j b);
          still = λ j l u. get_or-set_other counts i (64 * w + j) (get_or counts i 0 + 1) 0 (λ d. absurd (omega (arith, past-low bits rest b split j l u, d, e))) ∙ x.still j l (rest_in bits rest b split j l u);
          other = λ k d. get_or-set_other counts i k (get_or counts i 0 + 1) 0 (λ q. away k d q) ∙ x.other k d;
        }
      where
        next : List ℕ
        next = set counts i (get_or counts i 0 + 1)

        away : (k : ℕ) → k / 64 ≢ w → k ≡ i → ⊥
        away k d q = let u : k / 64 ≡ w = omega (arith, low-lt bits rest b split) in d u

        go : (j : ℕ) → j < 64 → (T (bit_at rest j) → ⊥) → Dec (j ≡ b) → get_or next (64 * w + j) 0 ≡ get_or old (64 * w + j) 0 + one_if (in_mask region (64 * w + j))
        go j l f (yes d) =
            let at : 64 * w + j ≡ i = omega (arith, e) in
            let set-in : T (bit_at bits j) = subst (λ (y : ℕ). T (bit_at bits y)) (sym d) (low_in bits rest b split) in
            let one : one_if (in_mask region (64 * w + j)) ≡ 1 = ap one_if (T_true (in_mask region (64 * w + j)) (x.member j l set-in)) in
            let was : get_or counts i 0 ≡ get_or old (64 * w + j) 0 = ap (λ (y : ℕ). get_or counts y 0) (sym at) ∙ x.still j l set-in in
            let now : get_or counts i 0 + 1 ≡ get_or old (64 * w + j) 0 + one_if (in_mask region (64 * w + j)) = omega (arith, was, one) in
            ap (λ (y : ℕ). get_or next y 0) at ∙ get_or-set_same counts i (get_or counts i 0 + 1) 0 (omega (arith, walk_node, x.long)) ∙ now
        go j l f (no d) =
            get_or-set_other counts i (64 * w + j) (get_or counts i 0 + 1) 0 (λ q. let u : j ≡ b = omega (arith, e) in d u)
            ∙ x.here j l (λ u. f (rest-other bits rest b split j l u d))

-- ---- the words

-- the members of the words before w are counted
pub record Added (n : ℕ) (region old counts : List ℕ) (w : ℕ) : Type 0 where
  pub long : length counts ≡ n
  pub done : (k : ℕ) → k < 64 * w → get_or counts k 0 ≡ get_or old k 0 + one_if (in_mask region k)
  pub left : (k : ℕ) → 64 * w ≤ k → get_or counts k 0 ≡ get_or old k 0

module _ (n : ℕ) (region old : List ℕ) where
  pub add_turn : (before counts : List ℕ) (w bits : ℕ) → Added n region old before w → Walked n region before w counts bits → set_bits bits ≡ [] → Added n region old counts (w + 1)
  add_turn before counts w bits a x z =
      record {
        long = x.long;
        done = λ k l. go k l (lt-or-le k (64 * w));
        left = λ k l. x.other k (λ e. absurd (omega arith)) ∙ a.left k (omega arith);
      }
    where
      go : (k : ℕ) → k < 64 * (w + 1) → (k < 64 * w) ⊎ (64 * w ≤ k) → get_or counts k 0 ≡ get_or old k 0 + one_if (in_mask region k)
      go k l (inl h) = x.other k (λ e. absurd (omega arith)) ∙ a.done k h
      go k l (inr h) =
          let at : 64 * w + (k - 64 * w) ≡ k = omega arith in
          let none : T (bit_at bits (k - 64 * w)) → ⊥ = λ t. absurd (omega (arith, (members-find (bit_at bits) 0 64 (k - 64 * w) (omega arith) (omega arith) t).1, ap length z)) in
          let added : get_or counts k 0 ≡ get_or before k 0 + one_if (in_mask region k) = subst (λ (m : ℕ). get_or counts m 0 ≡ get_or before m 0 + one_if (in_mask region m)) at (x.here (k - 64 * w) (omega arith) none) in
          omega (arith, added, a.left k h)

  pub add-end : IsMask n region → (counts : List ℕ) (w : ℕ) → length region ≤ w → Added n region old counts w → counts ≡ list_from (λ k. get_or old k 0 + one_if (in_mask region k)) n 0
  add-end m counts w h a =
      ext_get_or 0 counts (list_from f n 0) (a.long ∙ sym (length-list_from f n 0))
      (λ k l. let b : k < n = omega (arith, a.long) in a.done k (omega (arith, is-length n region m)) ∙ sym (get_or-list_from f n 0 k 0 b ∙ ap f (zero-add k)))
    where
      f : ℕ → ℕ
      f k = get_or old k 0 + one_if (in_mask region k)
