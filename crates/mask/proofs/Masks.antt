-- Laws of masks: what the words of a set hold, that an accepted mask is the words of its set, and one store, one operation, one count in them.
-- Assumes nothing.
use mathlib.Core.Path.{◌≡◌, refl, sym, ap, ap₂, ◌∙◌, subst}
use Rattle.std.specs.Prelude.{Ok}
use mathlib.Core.Logic.{◌⊎◌, inl, inr, ◌≢◌}
use mathlib.Core.Bool.{Bool, true, false, not, ◌&&◌, ◌||◌}
use mathlib.Core.List.{List}
use Prim.Native.Nat.{ℕ, ◌+◌, ◌-◌, ◌*◌, ◌/◌, ◌%◌, ◌^◌, ◌≤◌, ◌<◌}
use native.Mathlib.Omega.{arith}
use native.Mathlib.Nat.{zero-add}
use native.Mathlib.Decide.{ℕ_discrete}
use borrow.Author.Tests.{lt-ltb, le-ltb, le-leb, eq-eqb, leb-true}
use lib.Count.{trailing_le}
use lib.Dec.{T, ltb, lt→ltb, ltb→lt}
use lib.ListN.{length, get_or, set, take, replicate, length-replicate, get_or-replicate, length-set, replicate-append-replicate}
use lib.Seq.{ext_get_or, get_or-set_same, get_or-set_other, take_at}
use Rattle.base.specs.Checks.{side_limit}
use Rattle.base.specs.Sets.{every_below, count_below}
use Rattle.base.proofs.Bools.{decide, and_l, and_r, or_l, or_r, or-e, T_true, T_false, T_of, lt-or-le}
use Rattle.base.proofs.Checks.{checks, pass, last-pass, group-pass, group-stop, on-accepted, on-refused, kept, length-pass, passed, length-passed, both-passed}
use Rattle.base.proofs.Lists.{length-list_from, get_or-list_from, list_from-cong}
use Rattle.base.proofs.Sets.{every-i, every-e}
use Rattle.word.specs.Bits.{bit_at, word_of}
use Rattle.word.proofs.Words.{word_lt, bit_word, word-of-bits, word-ext, word_none}
use Rattle.mask.specs.Mask.{in_mask, words_needed, mask_words, clean, shape_check, mask_check, length_check, IsMask}
use Rattle.mask.specs.Answers.{pair_check}

-- ---- words and nodes

-- bit j of word w is node 64 w + j
pub in-word : (words : List ℕ) (w j : ℕ) → j < 64 → in_mask words (64 * w + j) ≡ bit_at (get_or words w 0) j
unfolding in_mask
in-word words w j h = ap₂ (λ (a b : ℕ). bit_at (get_or words a 0) b) (omega arith) (omega arith)

-- a test below the length
pub within : (len i : ℕ) (b : Bool) → i < len → (ltb i len && b) ≡ b
within len i b h = ap (λ (t : Bool). t && b) (lt-ltb i len h)

pub past : (len i : ℕ) (b : Bool) → len ≤ i → (ltb i len && b) ≡ false
past len i b h = ap (λ (t : Bool). t && b) (le-ltb i len h)

module _ (len : ℕ) (p : ℕ → Bool) where
  pub mask-length : length (mask_words len p) ≡ words_needed len
  unfolding mask_words
  mask-length = length-list_from (word_of (λ i. ltb i len && p i)) (words_needed len) 0

  pub word_at : (w : ℕ) → w < words_needed len → get_or (mask_words len p) w 0 ≡ word_of (λ i. ltb i len && p i) w
  unfolding mask_words
  word_at w h = get_or-list_from (word_of (λ i. ltb i len && p i)) (words_needed len) 0 w 0 h ∙ ap (word_of (λ i. ltb i len && p i)) (zero-add w)

  -- the words of a set hold that set, and nothing past the length
  in-set : (i : ℕ) → i < 64 * words_needed len → in_mask (mask_words len p) i ≡ (ltb i len && p i)
  unfolding in_mask
  in-set i h =
      ap (λ (x : ℕ). bit_at x (i % 64)) (word_at (i / 64) (omega arith))
      ∙ bit_word (λ i. ltb i len && p i) 64 (64 * (i / 64)) (i % 64) (omega arith)
      ∙ ap (λ (x : ℕ). ltb x len && p x) (omega arith)

  pub mask-holds : (i : ℕ) → i < len → in_mask (mask_words len p) i ≡ p i
  mask-holds i h = in-set i (omega arith) ∙ within len i (p i) h

  pub mask-past : (i : ℕ) → len ≤ i → i < 64 * words_needed len → in_mask (mask_words len p) i ≡ false
  mask-past i l h = in-set i h ∙ past len i (p i) l

-- sets that agree below the length have the same words
pub mask-cong : (len : ℕ) (p q : ℕ → Bool) → ((i : ℕ) → i < len → p i ≡ q i) → mask_words len p ≡ mask_words len q
unfolding mask_words
mask-cong len p q e =
    list_from-cong (word_of (λ i. ltb i len && p i)) (word_of (λ i. ltb i len && q i)) (words_needed len) 0
    (λ w l u. word-ext (λ i. ltb i len && p i) (λ i. ltb i len && q i) 64 (64 * w) (λ i a b. same i (decide (ltb i len))))
  where
    same : (i : ℕ) → T (ltb i len) ⊎ (T (ltb i len) → ⊥) → (ltb i len && p i) ≡ (ltb i len && q i)
    same i (inl t) = ap (λ (x : Bool). ltb i len && x) (e i (ltb→lt i len t))
    same i (inr f) = ap (λ (t : Bool). t && p i) (T_false (ltb i len) f) ∙ sym (ap (λ (t : Bool). t && q i) (T_false (ltb i len) f))

-- ---- an accepted mask

-- words of the right number, with no bit past the length, are the words of what they hold
pub mask-of : (len : ℕ) (words : List ℕ) → length words ≡ words_needed len → ((w : ℕ) → get_or words w 0 < 2 ^ 64) → clean len words ≡ true
    → words ≡ mask_words len (in_mask words)
unfolding clean
mask-of len words e fits c = ext_get_or 0 words (mask_words len (in_mask words)) (e ∙ sym (mask-length len (in_mask words))) each
  where
    bit : (w j : ℕ) → w < length words → j < 64 → (ltb (64 * w + j) len && in_mask words (64 * w + j)) ≡ bit_at (get_or words w 0) j
    bit w j l h =
        go (or-e (ltb (64 * w + j) len) (not (in_mask words (64 * w + j))) (every-e (64 * length words) (λ i. ltb i len || not (in_mask words i)) (T_of _ c) (64 * w + j) (omega arith)))
        ∙ in-word words w j h
      where
        go : T (ltb (64 * w + j) len) ⊎ T (not (in_mask words (64 * w + j))) → (ltb (64 * w + j) len && in_mask words (64 * w + j)) ≡ in_mask words (64 * w + j)
        go (inl t) = ap (λ (x : Bool). x && in_mask words (64 * w + j)) (T_true (ltb (64 * w + j) len) t)
        go (inr t) = none (in_mask words (64 * w + j)) t (ltb (64 * w + j) len)
          where
            none : (b : Bool) → T (not b) → (a : Bool) → (a && b) ≡ b
            none true t a = absurd t
            none false t true = refl
            none false t false = refl

    each : (w : ℕ) → w < length words → get_or words w 0 ≡ get_or (mask_words len (in_mask words)) w 0
    each w l =
        sym (word-of-bits (λ i. ltb i len && in_mask words i) 64 (64 * w) (get_or words w 0) (fits w) (λ j h. bit w j l h))
        ∙ sym (word_at len (in_mask words) w (omega (arith, e)))

pub accepted-shape : (len : ℕ) (words : List ℕ) → len ≤ side_limit → ((w : ℕ) → get_or words w 0 < 2 ^ 64) → shape_check len words ≡ Ok tt → IsMask len words
unfolding shape_check
accepted-shape len words h fits e =
    let a = both-passed _ _ e in
    record { short = h; exact = mask-of len words (length-passed _ _ a.0) fits (passed _ _ a.1) }

pub accepted-mask : (len : ℕ) (words : List ℕ) → ((w : ℕ) → get_or words w 0 < 2 ^ 64) → mask_check len words ≡ Ok tt → IsMask len words
unfolding mask_check
accepted-mask len words fits e =
    let a = both-passed _ _ e in
    accepted-shape len words (leb-true _ _ (passed _ _ a.0)) fits a.1

-- a mask of the length that it must have
pub accepted-length : (expected len : ℕ) (words : List ℕ) → expected ≤ side_limit → ((w : ℕ) → get_or words w 0 < 2 ^ 64) → length_check expected len words ≡ Ok tt
    → (len ≡ expected) × IsMask expected words
unfolding length_check
accepted-length expected len words h fits e =
    let a = both-passed _ _ e in
    let same : len ≡ expected = length-passed _ _ a.0 in
    (same, subst (λ (n : ℕ). IsMask n words) same (accepted-shape len words (omega arith) fits a.1))

-- two masks, the second of the first's length
pub accepted-pair : (len : ℕ) (words : List ℕ) (len2 : ℕ) (other : List ℕ) → ((w : ℕ) → get_or words w 0 < 2 ^ 64) → ((w : ℕ) → get_or other w 0 < 2 ^ 64)
    → pair_check len words len2 other ≡ Ok tt → IsMask len words × IsMask len other
unfolding pair_check
accepted-pair len words len2 other fits fits2 e =
    let a = both-passed _ _ e in
    let m : IsMask len words = accepted-mask len words fits a.0 in
    (m, (accepted-length len len2 other m.short fits2 a.1).1)

-- the words of a set are an accepted mask
pub mask_is : (len : ℕ) (p : ℕ → Bool) → len ≤ side_limit → IsMask len (mask_words len p)
mask_is len p h = record { short = h; exact = mask-cong len p (in_mask (mask_words len p)) (λ i l. sym (mask-holds len p i l)) }

pub is-of : (len : ℕ) (p : ℕ → Bool) (words : List ℕ) → len ≤ side_limit → words ≡ mask_words len p → IsMask len words
is-of len p words h e = subst (IsMask len) (sym e) (mask_is len p h)

-- and the check says so: what one call leaves, the next accepts
pub mask-accepted : (len : ℕ) (p : ℕ → Bool) → len ≤ side_limit → mask_check len (mask_words len p) ≡ Ok tt
unfolding mask_check shape_check clean
mask-accepted len p h =
    sym
    (pass _ _ _ _ (le-leb len side_limit h)
    (length-pass _ _ _ _ (eq-eqb _ _ (mask-length len p))
    (last-pass _ _ _
    (T_true (every_below (64 * length (mask_words len p)) (λ i. ltb i len || not (in_mask (mask_words len p) i)))
    (every-i (64 * length (mask_words len p)) (λ i. ltb i len || not (in_mask (mask_words len p) i)) (λ i l. go i l (lt-or-le i len))))
    refl)))
  where
    go : (i : ℕ) → i < 64 * length (mask_words len p) → (i < len) ⊎ (len ≤ i) → T (ltb i len || not (in_mask (mask_words len p) i))
    go i l (inl b) = or_l (ltb i len) (not (in_mask (mask_words len p) i)) (lt→ltb i len b)
    go i l (inr b) =
        or_r (ltb i len) (not (in_mask (mask_words len p) i))
        (T_of (not (in_mask (mask_words len p) i)) (ap not (mask-past len p i b (omega (arith, mask-length len p)))))

module _ (len : ℕ) (words : List ℕ) (m : IsMask len words) where
  pub is-length : length words ≡ words_needed len
  is-length = ap length m.exact ∙ mask-length len (in_mask words)

  pub is_word : (w : ℕ) → w < length words → get_or words w 0 ≡ word_of (λ i. ltb i len && in_mask words i) w
  is_word w h = ap (λ (l : List ℕ). get_or l w 0) m.exact ∙ word_at len (in_mask words) w (omega (arith, is-length))

  pub is-fits : (w : ℕ) → w < length words → get_or words w 0 < 2 ^ 64
  is-fits w h = subst (λ (x : ℕ). x < 2 ^ 64) (sym (is_word w h)) (word_lt (λ i. ltb i len && in_mask words i) 64 (64 * w))

  -- a member is below the length
  pub is_below : (i : ℕ) → i < 64 * length words → T (in_mask words i) → i < len
  is_below i h t =
      ltb→lt i len (and_l (ltb i len) (in_mask words i) (subst (λ (b : Bool). T b) (ap (λ (l : List ℕ). in_mask l i) m.exact ∙ in-set len (in_mask words) i (omega (arith, is-length))) t))

-- what a proof over a mask looks for by itself: how many words there are, and that a place in one is at most 64
pub ruleset sizes = (is-length, mask-length, trailing_le)

-- ---- stores

-- a store at word w: the new set agrees with the old one outside of it
pub mask-store : (len : ℕ) (q r : ℕ → Bool) (w x : ℕ) → w < words_needed len → x ≡ word_of (λ i. ltb i len && r i) w
    → ((i : ℕ) → i < len → i / 64 ≢ w → q i ≡ r i) → set (mask_words len q) w x ≡ mask_words len r
mask-store len q r w x h e other =
    ext_get_or 0 (set (mask_words len q) w x) (mask_words len r) (length-set (mask_words len q) w x ∙ mask-length len q ∙ sym (mask-length len r)) each
  where
    away : (v i : ℕ) → v ≢ w → 64 * v ≤ i → i < 64 * v + 64 → i / 64 ≢ w
    away v i n a b z = n (omega arith)

    same : (v i : ℕ) → v ≢ w → 64 * v ≤ i → i < 64 * v + 64 → T (ltb i len) ⊎ (T (ltb i len) → ⊥) → (ltb i len && q i) ≡ (ltb i len && r i)
    same v i n a b (inl t) = ap (λ (x : Bool). ltb i len && x) (other i (ltb→lt i len t) (away v i n a b))
    same v i n a b (inr f) = ap (λ (t : Bool). t && q i) (T_false (ltb i len) f) ∙ sym (ap (λ (t : Bool). t && r i) (T_false (ltb i len) f))

    go : (v : ℕ) → v < words_needed len → Dec (v ≡ w) → get_or (set (mask_words len q) w x) v 0 ≡ get_or (mask_words len r) v 0
    go v l (yes d) =
        ap (λ (k : ℕ). get_or (set (mask_words len q) w x) k 0) d
        ∙ get_or-set_same (mask_words len q) w x 0 (omega (arith, mask-length len q))
        ∙ e ∙ sym (word_at len r w h) ∙ ap (λ (k : ℕ). get_or (mask_words len r) k 0) (sym d)
    go v l (no n) =
        get_or-set_other (mask_words len q) w v x 0 n ∙ word_at len q v l
        ∙ word-ext (λ i. ltb i len && q i) (λ i. ltb i len && r i) 64 (64 * v) (λ i a b. same v i n a b (decide (ltb i len)))
        ∙ sym (word_at len r v l)

    each : (v : ℕ) → v < length (set (mask_words len q) w x) → get_or (set (mask_words len q) w x) v 0 ≡ get_or (mask_words len r) v 0
    each v l = go v (omega (arith, length-set (mask_words len q) w x, mask-length len q)) (ℕ_discrete v w)

-- no node
pub mask-none : (len : ℕ) → replicate {A = ℕ} (words_needed len) 0 ≡ mask_words len (λ i. false)
mask-none len =
    ext_get_or 0 (replicate {A = ℕ} (words_needed len) 0) (mask_words len (λ i. false)) (length-replicate {A = ℕ} (words_needed len) 0 ∙ sym (mask-length len (λ i. false))) each
  where
    each : (w : ℕ) → w < length (replicate {A = ℕ} (words_needed len) 0) → get_or (replicate {A = ℕ} (words_needed len) 0) w 0 ≡ get_or (mask_words len (λ i. false)) w 0
    each w h =
        let l : w < words_needed len = omega (arith, length-replicate {A = ℕ} (words_needed len) 0) in
        get_or-replicate {A = ℕ} (words_needed len) w 0 0 l
        ∙ sym (word_none (λ i. ltb i len && false) 64 (64 * w) (λ i a b t. and_r (ltb i len) false t))
        ∙ sym (word_at len (λ i. false) w l)

-- zeros to spare: the first of them are the empty mask
pub zeros-empty : (n m need : ℕ) → need ≡ words_needed n → need ≤ m → take need (replicate {A = ℕ} m 0) ≡ mask_words n (λ i. false)
zeros-empty n m need e h =
    let s : need + (m - need) ≡ m = omega arith in
    ap (λ (k : ℕ). take need (replicate {A = ℕ} k 0)) (sym s)
    ∙ ap (take need) (sym (replicate-append-replicate need (m - need) 0))
    ∙ take_at (replicate {A = ℕ} need 0) (replicate {A = ℕ} (m - need) 0) need (length-replicate {A = ℕ} need 0)
    ∙ ap (λ (k : ℕ). replicate {A = ℕ} k 0) e ∙ mask-none n

-- ---- a mask under another name

pub mask-as : (n m : ℕ) (x y : List ℕ) → n ≡ m → x ≡ y → IsMask m y → IsMask n x
mask-as n m x y e q h = subst (λ (k : ℕ). IsMask k x) (sym e) (subst (IsMask m) (sym q) h)

pub count-as : (n m : ℕ) (x y : List ℕ) (r : ℕ) → n ≡ m → x ≡ y → r ≡ count_below n (in_mask x) → r ≡ count_below m (in_mask y)
count-as n m x y r e q h = h ∙ ap₂ (λ (k : ℕ) (l : List ℕ). count_below k (in_mask l)) e q

-- an accepted mask of that length is accepted where its length is told
pub words-accepted : (side len : ℕ) (words : List ℕ) → len ≡ side → mask_check side words ≡ Ok tt → length_check side len words ≡ Ok tt
unfolding length_check mask_check
words-accepted side len words same e =
    sym (length-pass _ _ _ _ (eq-eqb len side same) (sym (subst (λ (n : ℕ). shape_check n words ≡ Ok tt) (sym same) (both-passed _ _ e).1)))

-- what the functions of a mask look for, each with its chain of checks unfolded
pub ruleset answers = (accepted-mask, accepted-pair, on-accepted, on-refused, kept, group-pass, group-stop, checks, sizes)
