-- What one read or store at a word of a mask is, as a set. Assumes nothing.
use mathlib.Core.Path.{◌≡◌, refl, sym, ap, ap₂, ◌∙◌}
use mathlib.Core.Logic.{◌⊎◌, inl, inr, ◌≢◌}
use mathlib.Core.Bool.{Bool, true, false, not, cond, ◌&&◌, ◌||◌, and_comm}
use mathlib.Core.List.{List}
use Prim.Native.Nat.{ℕ, ◌+◌, ◌-◌, ◌*◌, ◌/◌, ◌%◌, ◌^◌, ◌≤◌, ◌<◌}
use native.Mathlib.Omega.{arith}
use native.Mathlib.Numerals.{add-one}
use borrow.Author.Tests.{ltb-true, eq-eqb, ne_eqb, lt-ltb, le-ltb}
use lib.Bits.{bit_and, bit_or}
use lib.Dec.{T, leb, ltb, eqb, leb→le, lt→ltb, ltb→lt}
use lib.ListN.{length, get_or, set, take}
use lib.Seq.{take-suc}
use Rattle.base.specs.Lists.{is_in}
use Rattle.base.specs.Sets.{between}
use Rattle.base.proofs.Bools.{eqb_swap, eq-or-ne, lt-or-le, not-below, and_l, and_r, or-false, T_false}
use Rattle.base.proofs.Lists.{every-at, in-snoc}
use Rattle.base.proofs.Sets.{None}
use Rattle.word.specs.Bits.{bit_at, word_of}
use Rattle.word.proofs.Bits.{one_shl, bit-and}
use Rattle.word.proofs.Words.{word-ext, word_none, word-of-bits, word-op, or-bitwise, and-bitwise, and-not-bitwise, word-one, word_below, bit_word}
use Rattle.mask.specs.Mask.{in_mask, words_needed, mask_words, IsMask}
use Rattle.mask.specs.Answers.{with_node, with_word, with_range}
use Rattle.mask.proofs.Masks.{sizes, is-of, mask-none, mask-cong, mask-holds, word_at, is-length, is_word, mask-store, in-word}

-- reading a node
pub bit-read : (words : List ℕ) (i : ℕ) → bit_at (get_or words (i / 64) 0) (i % 64) ≡ in_mask words i
unfolding in_mask
bit-read words i = refl

-- node i's own bit, as a word
node-word : (i : ℕ) → (1 * 2 ^ (i % 64)) % 2 ^ 64 ≡ word_of (λ j. eqb j i) (i / 64)
node-word i =
    let e : 64 * (i / 64) + i % 64 ≡ i = omega arith in
    one_shl (i % 64) (omega arith) ∙ sym (word-one (64 * (i / 64)) (i % 64) 64 (omega arith))
    ∙ ap (λ (n : ℕ). word_of (λ j. eqb j n) (i / 64)) e

module _ (len : ℕ) (words : List ℕ) (m : IsMask len words) where
  abbrev held : ℕ → Bool
  held i = ltb i len && in_mask words i

  -- a store at word w that makes it the word of the set r
  stored : (r : ℕ → Bool) (w x : ℕ) → w < length words → x ≡ word_of (λ i. ltb i len && r i) w → ((i : ℕ) → i < len → i / 64 ≢ w → in_mask words i ≡ r i)
      → set words w x ≡ mask_words len r
  stored r w x h e other =
      ap (λ (l : List ℕ). set l w x) m.exact ∙ mask-store len (in_mask words) r w x (omega (arith, is-length len words m)) e other

  module _ (i : ℕ) (below : i < len) where
    room : i / 64 < length words
    room = omega (arith, is-length len words m)

    away : (v : Bool) (j : ℕ) → j < len → j / 64 ≢ i / 64 → in_mask words j ≡ cond (eqb j i) v (in_mask words j)
    away v j h n = sym (ap (λ (t : Bool). cond t v (in_mask words j)) (ne_eqb j i (λ e. n (ap (λ (x : ℕ). x / 64) e))))

    -- node i is set
    pub put_in : set words (i / 64) (bit_or (get_or words (i / 64) 0) ((1 * 2 ^ (i % 64)) % 2 ^ 64)) ≡ with_node len words i true
    put_in =
        stored (λ j. cond (eqb j i) true (in_mask words j)) (i / 64) (bit_or (get_or words (i / 64) 0) ((1 * 2 ^ (i % 64)) % 2 ^ 64)) room
        (ap₂ bit_or (is_word len words m (i / 64) room) (node-word i)
        ∙ word-op 64 bit_or (λ s t. s || t) (or-bitwise 64) held (λ j. eqb j i) (64 * (i / 64))
        ∙ word-ext (λ j. held j || eqb j i) (λ j. ltb j len && cond (eqb j i) true (in_mask words j)) 64 (64 * (i / 64)) (λ j l u. same j (eq-or-ne j i)))
        (away true)
      where
        hit : (a b : Bool) → ((a && b) || true) ≡ (true && true)
        hit true true = refl
        hit true false = refl
        hit false b = refl

        same : (j : ℕ) → (j ≡ i) ⊎ (j ≡ i → ⊥) → (held j || eqb j i) ≡ (ltb j len && cond (eqb j i) true (in_mask words j))
        same j (inl e) =
            ap (λ (t : Bool). held j || t) (eq-eqb j i e) ∙ hit (ltb j len) (in_mask words j)
            ∙ sym (ap₂ (λ (s t : Bool). s && cond t true (in_mask words j)) (lt-ltb j len (omega arith)) (eq-eqb j i e))
        same j (inr n) =
            ap (λ (t : Bool). held j || t) (ne_eqb j i n) ∙ or-false (held j)
            ∙ sym (ap (λ (t : Bool). ltb j len && cond t true (in_mask words j)) (ne_eqb j i n))

    -- node i is cleared
    pub put-out : set words (i / 64) (bit_and (get_or words (i / 64) 0) (2 ^ 64 - 1 - (1 * 2 ^ (i % 64)) % 2 ^ 64)) ≡ with_node len words i false
    put-out =
        stored (λ j. cond (eqb j i) false (in_mask words j)) (i / 64) (bit_and (get_or words (i / 64) 0) (2 ^ 64 - 1 - (1 * 2 ^ (i % 64)) % 2 ^ 64)) room
        (ap₂ (λ (a b : ℕ). bit_and a (2 ^ 64 - 1 - b)) (is_word len words m (i / 64) room) (node-word i)
        ∙ word-op 64 (λ a b. bit_and a (2 ^ 64 - 1 - b)) (λ s t. s && not t) (and-not-bitwise 64) held (λ j. eqb j i) (64 * (i / 64))
        ∙ word-ext (λ j. held j && not (eqb j i)) (λ j. ltb j len && cond (eqb j i) false (in_mask words j)) 64 (64 * (i / 64))
        (λ j l u. same (ltb j len) (in_mask words j) (eqb j i)))
        (away false)
      where
        same : (a b t : Bool) → ((a && b) && not t) ≡ (a && cond t false b)
        same true true true = refl
        same true true false = refl
        same true false true = refl
        same true false false = refl
        same false b t = refl

  -- `words[w] |= bits & valid`, valid being the bits below the length
  pub or-in : (w bits valid : ℕ) → w < length words → bits < 2 ^ 64 → valid ≡ word_of (λ i. ltb i len) w
      → set words w (bit_or (get_or words w 0) (bit_and bits valid)) ≡ with_word len words w bits
  or-in w bits valid h fits e =
      stored (λ i. in_mask words i || (eqb (i / 64) w && bit_at bits (i % 64))) w (bit_or (get_or words w 0) (bit_and bits valid)) h
      (ap₂ bit_or (is_word len words m w h)
      (ap₂ bit_and (sym own) e ∙ word-op 64 bit_and (λ s t. s && t) (and-bitwise 64) (λ i. bit_at bits (i % 64)) (λ i. ltb i len) (64 * w))
      ∙ word-op 64 bit_or (λ s t. s || t) (or-bitwise 64) held (λ i. bit_at bits (i % 64) && ltb i len) (64 * w)
      ∙ word-ext (λ i. held i || (bit_at bits (i % 64) && ltb i len)) (λ i. ltb i len && (in_mask words i || (eqb (i / 64) w && bit_at bits (i % 64)))) 64 (64 * w)
      (λ i l u. same (ltb i len) (in_mask words i) (bit_at bits (i % 64)) ∙ ap (λ (t : Bool). ltb i len && (in_mask words i || (t && bit_at bits (i % 64)))) (sym (here i l u))))
      (λ i l n. sym (ap (λ (t : Bool). in_mask words i || (t && bit_at bits (i % 64))) (ne_eqb (i / 64) w n) ∙ or-false (in_mask words i)))
    where
      own : word_of (λ i. bit_at bits (i % 64)) w ≡ bits
      own = word-of-bits (λ i. bit_at bits (i % 64)) 64 (64 * w) bits fits (λ j l. ap (bit_at bits) (omega arith))

      here : (i : ℕ) → 64 * w ≤ i → i < 64 * w + 64 → eqb (i / 64) w ≡ true
      here i l u = let e : i / 64 ≡ w = omega arith in eq-eqb (i / 64) w e

      same : (a b t : Bool) → ((a && b) || (t && a)) ≡ (a && (b || (true && t)))
      same true true t = refl
      same true false true = refl
      same true false false = refl
      same false b true = refl
      same false b false = refl

  -- a word past the words changes nothing
  pub or-past : (w bits : ℕ) → length words ≤ w → words ≡ with_word len words w bits
  or-past w bits h =
      m.exact
      ∙ mask-cong len (in_mask words) (λ i. in_mask words i || (eqb (i / 64) w && bit_at bits (i % 64)))
      (λ i l. sym (ap (λ (t : Bool). in_mask words i || (t && bit_at bits (i % 64))) (ne_eqb (i / 64) w (λ e. omega (arith, is-length len words m))) ∙ or-false (in_mask words i)))

-- one node more
pub fill-turn : (len : ℕ) (l words : List ℕ) (k : ℕ) → words ≡ mask_words len (λ i. is_in i (take k l)) → k < length l
    → with_node len words (get_or l k 0) true ≡ mask_words len (λ i. is_in i (take (k + 1) l))
fill-turn len l words k e h =
    mask-cong len (λ j. cond (eqb j (get_or l k 0)) true (in_mask words j)) (λ i. is_in i (take (k + 1) l))
    (λ i u. ap (cond (eqb i (get_or l k 0)) true) (ap (λ (x : List ℕ). in_mask x i) e ∙ mask-holds len (λ i. is_in i (take k l)) i u) ∙ turn i)
  where
    choose : (t b : Bool) → cond t true b ≡ (b || t)
    choose true true = refl
    choose true false = refl
    choose false true = refl
    choose false false = refl

    turn : (i : ℕ) → cond (eqb i (get_or l k 0)) true (is_in i (take k l)) ≡ is_in i (take (k + 1) l)
    turn i =
        choose (eqb i (get_or l k 0)) (is_in i (take k l)) ∙ ap (λ (t : Bool). is_in i (take k l) || t) (eqb_swap i (get_or l k 0))
        ∙ sym (in-snoc i (take k l) (get_or l k 0)) ∙ ap (is_in i) (sym (take-suc l k 0 h) ∙ ap (λ (n : ℕ). take n l) (sym (add-one k)))

-- the bits of word w below a bound: none, all, some
pub below_none : (bound w : ℕ) → bound ≤ w * 64 → 0 ≡ word_of (λ i. ltb i bound) w
below_none bound w h = sym (word_none (λ i. ltb i bound) 64 (64 * w) (λ i l u t. absurd (omega (arith, ltb→lt i bound t))))

pub below_all : (bound w : ℕ) → 64 ≤ bound - w * 64 → 2 ^ 64 - 1 ≡ word_of (λ i. ltb i bound) w
below_all bound w h =
    sym (word_below (64 * w) 64 64 (omega arith))
    ∙ word-ext (λ i. ltb i (64 * w + 64)) (λ i. ltb i bound) 64 (64 * w) (λ i l u. lt-ltb i (64 * w + 64) u ∙ sym (lt-ltb i bound (omega arith)))

pub below-some : (bound w : ℕ) → w * 64 < bound → bound - w * 64 < 64 → (1 * 2 ^ (bound - w * 64)) % 2 ^ 64 - 1 ≡ word_of (λ i. ltb i bound) w
below-some bound w l h =
    let e : 64 * w + (bound - w * 64) ≡ bound = omega arith in
    ap (λ (x : ℕ). x - 1) (one_shl (bound - w * 64) h)
    ∙ sym (word_below (64 * w) (bound - w * 64) 64 (omega arith)) ∙ ap (λ (n : ℕ). word_of (λ i. ltb i n) w) e

-- `below end & !below start`: word w of a range
pub range-word : (start end w hi lo : ℕ) → hi ≡ word_of (λ i. ltb i end) w → lo ≡ word_of (λ i. ltb i start) w → bit_and hi (2 ^ 64 - 1 - lo) ≡ word_of (between start end) w
range-word start end w hi lo eh el =
    ap₂ (λ (a b : ℕ). bit_and a (2 ^ 64 - 1 - b)) eh el
    ∙ word-op 64 (λ a b. bit_and a (2 ^ 64 - 1 - b)) (λ s t. s && not t) (and-not-bitwise 64) (λ i. ltb i end) (λ i. ltb i start) (64 * w)
    ∙ word-ext (λ i. ltb i end && not (ltb i start)) (between start end) 64 (64 * w) (λ i l u. ap (λ (t : Bool). ltb i end && t) (not-below i start) ∙ and_comm (ltb i end) (leb start i))

-- ---- a mask's members in a range

abbrev pub in_range : List ℕ → ℕ → ℕ → ℕ → Bool
in_range words start end i = in_mask words i && between start end i

-- the range's bits of word w
pub range-bits : (words : List ℕ) (start end w block : ℕ) → block ≡ word_of (between start end) w
    → (j : ℕ) → j < 64 → in_range words start end (64 * w + j) ≡ bit_at (bit_and (get_or words w 0) block) j
range-bits words start end w block e j h =
    ap₂ (λ (s t : Bool). s && t) (in-word words w j h) (sym (bit_word (between start end) 64 (64 * w) j h) ∙ ap (λ (x : ℕ). bit_at x j) (sym e))
    ∙ sym (bit-and (get_or words w 0) block j)

-- none lies before the first word
pub range-ahead : (words : List ℕ) (start end w : ℕ) → 64 * w ≤ start → None (in_range words start end) (64 * w)
range-ahead words start end w h i l t =
    omega (arith, leb→le start i (and_l (leb start i) (ltb i end) (and_r (in_mask words i) (between start end i) t)))

-- ---- a range of nodes, a word at a time

module _ (len : ℕ) (words : List ℕ) (start end : ℕ) where
  -- before word w is written
  abbrev pub ranged : ℕ → ℕ → Bool
  ranged w i = in_mask words i || (between start end i && ltb i (64 * w))

  pub range_none : IsMask len words → words ≡ mask_words len (ranged (start / 64))
  range_none m =
      m.exact
      ∙ mask-cong len (in_mask words) (ranged (start / 64))
      (λ i l. sym (ap (λ (t : Bool). in_mask words i || t) (T_false (between start end i && ltb i (64 * (start / 64))) (λ t. none i t)) ∙ or-false (in_mask words i)))
    where
      none : (i : ℕ) → T (between start end i && ltb i (64 * (start / 64))) → ⊥
      none i t =
          let a : start ≤ i = leb→le start i (and_l (leb start i) (ltb i end) (and_l (between start end i) (ltb i (64 * (start / 64))) t)) in
          absurd (omega (arith, ltb→lt i (64 * (start / 64)) (and_r (between start end i) (ltb i (64 * (start / 64))) t)))

  pub range-turn : (w block : ℕ) → w < words_needed len → end ≤ len → block ≡ word_of (between start end) w
      → set (mask_words len (ranged w)) w (bit_or (get_or (mask_words len (ranged w)) w 0) block) ≡ mask_words len (ranged (w + 1))
  range-turn w block h le e =
      mask-store len (ranged w) (ranged (w + 1)) w (bit_or (get_or (mask_words len (ranged w)) w 0) block) h
      (ap₂ bit_or (word_at len (ranged w) w h) e
      ∙ word-op 64 bit_or (λ s t. s || t) (or-bitwise 64) (λ i. ltb i len && ranged w i) (between start end) (64 * w)
      ∙ word-ext (λ i. (ltb i len && ranged w i) || between start end i) (λ i. ltb i len && ranged (w + 1) i) 64 (64 * w) (λ i l u. here i l u))
      (λ i l n. ap (λ (t : Bool). in_mask words i || (between start end i && t)) (away i n))
    where
      away : (i : ℕ) → i / 64 ≢ w → ltb i (64 * w) ≡ ltb i (64 * (w + 1))
      away i n = go (lt-or-le i (64 * w))
        where
          go : (i < 64 * w) ⊎ (64 * w ≤ i) → ltb i (64 * w) ≡ ltb i (64 * (w + 1))
          go (inl a) = lt-ltb i (64 * w) a ∙ sym (lt-ltb i (64 * (w + 1)) (omega arith))
          go (inr a) = le-ltb i (64 * w) a ∙ sym (le-ltb i (64 * (w + 1)) (past a))
            where
              past : 64 * w ≤ i → 64 * (w + 1) ≤ i
              past a = one (lt-or-le i (64 * (w + 1)))
                where
                  one : (i < 64 * (w + 1)) ⊎ (64 * (w + 1) ≤ i) → 64 * (w + 1) ≤ i
                  one (inl b) = let e : i / 64 ≡ w = omega arith in absurd (n e)
                  one (inr b) = b

      same : (a m s e : Bool) → (T e → T a) → ((a && (m || ((s && e) && false))) || (s && e)) ≡ (a && (m || ((s && e) && true)))
      same true true s e f = refl
      same true false true true f = refl
      same true false true false f = refl
      same true false false e f = refl
      same false m true true f = absurd (f tt)
      same false m true false f = refl
      same false m false e f = refl

      here : (i : ℕ) → 64 * w ≤ i → i < 64 * w + 64 → ((ltb i len && ranged w i) || between start end i) ≡ (ltb i len && ranged (w + 1) i)
      here i l u =
          ap (λ (x : Bool). (ltb i len && (in_mask words i || (between start end i && x))) || between start end i) (le-ltb i (64 * w) l)
          ∙ same (ltb i len) (in_mask words i) (leb start i) (ltb i end) (λ t. lt→ltb i len (omega (arith, ltb→lt i end t)))
          ∙ ap (λ (x : Bool). ltb i len && (in_mask words i || (between start end i && x))) (sym (lt-ltb i (64 * (w + 1)) (omega arith)))

  pub range-done : (w : ℕ) → words_needed end ≤ w → mask_words len (ranged w) ≡ with_range len words start end
  range-done w h =
      mask-cong len (ranged w) (λ i. in_mask words i || between start end i)
      (λ i l. ap (λ (t : Bool). in_mask words i || t) (whole (between start end i) (ltb i (64 * w)) (λ t. lt→ltb i (64 * w) (omega (arith, ltb→lt i end (and_r (leb start i) (ltb i end) t))))))
    where
      whole : (b t : Bool) → (T b → T t) → (b && t) ≡ b
      whole true true f = refl
      whole true false f = absurd (f tt)
      whole false t f = refl

-- what the functions of one word look for
pub ruleset stores = (bit-read, put_in, put-out, or-in, or-past, below-some, range-word, mask-none, sizes)

pub ruleset filling = (fill-turn, is-of, every-at, ltb-true, sizes)

pub ruleset ranging = (range-turn, sizes)
