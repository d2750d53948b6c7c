-- The mask of a row's entries: filled entry by entry, the row's words taken from it, the rest emptied entry by entry. Assumes nothing.
use Rattle.mask.proofs.Masks.{is-length}
use mathlib.Core.Path.{◌≡◌, refl, sym, ap, ap₂, ◌∙◌, subst}
use mathlib.Core.Logic.{◌⊎◌, inl, inr}
use mathlib.Core.Bool.{Bool, true, false, not, cond, ◌&&◌, ◌||◌, and-true, or_assoc}
use mathlib.Core.List.{List}
use Prim.Native.Nat.{ℕ, ◌+◌, ◌-◌, ◌*◌, ◌/◌, ◌%◌, ◌^◌, ◌≤◌, ◌<◌}
use native.Mathlib.Omega.{arith}
use borrow.Author.Tests.{eq-eqb, ne_eqb, eqb-true}
use lib.Bits.{bit_and, bit_or}
use lib.Dec.{T, ltb, eqb, lt→ltb, ltb→lt, T_not}
use lib.ListN.{length, get_or, set}
use lib.Seq.{slice}
use Rattle.base.specs.Lists.{is_in}
use Rattle.base.specs.Sets.{any_below}
use Rattle.base.proofs.Bools.{bool-ext, T_of, T_true, T_false, not-T-of, and_l, and_r, and_i, or-e, or-false, eqb_swap}
use Rattle.base.proofs.Lists.{in-empty, in-behind, in-ahead}
use Rattle.base.proofs.Sets.{any-i, any-e, any-cong, any_none, any-or}
use Rattle.word.specs.Bits.{bit_at, word_of}
use Rattle.word.proofs.Words.{word_lt, bit_word, word-of-bits, word-ext, word_none, word-op, word-empty, or-empty, or-bitwise, and-bitwise, and-not-bitwise}
use Rattle.mask.specs.Mask.{in_mask, words_needed, mask_words, IsMask}
use Rattle.mask.proofs.Masks.{mask-holds, mask-cong, mask_is, mask-store, word_at, is-of, is-length, is_word}
use Rattle.mask.specs.Answers.{with_node}
use Rattle.side.specs.Side.{row_holds}
use Rattle.side.specs.Check.{Rising}
use Rattle.side.proofs.Holding.{holds-none, holds-next, holds_not}

-- ---- one word of a set

-- whether it is 0
any_word : (n w x : ℕ) (q : ℕ → Bool) → x ≡ word_of (λ i. ltb i n && q i) w → not (eqb x 0) ≡ any_below n (λ c. q c && eqb (c / 64) w)
any_word n w x q e =
    ap (λ (y : ℕ). not (eqb y 0)) e
    ∙ word-empty 64 (word_of held w) (word_lt held 64 (64 * w))
    ∙ bool-ext (any_below 64 (bit_at (word_of held w))) (any_below n here) there back
  where
    held : ℕ → Bool
    held = λ i. ltb i n && q i

    here : ℕ → Bool
    here = λ c. q c && eqb (c / 64) w

    there : T (any_below 64 (bit_at (word_of held w))) → T (any_below n here)
    there t =
        let r : (j : ℕ) × (j < 64) × T (bit_at (word_of held w) j) = any-e 64 (bit_at (word_of held w)) t in
        let h : T (held (64 * w + r.0)) = subst (λ (b : Bool). T b) (bit_word held 64 (64 * w) r.0 r.1) r.2 in
        let d : (64 * w + r.0) / 64 ≡ w = omega (arith, r.1) in
        any-i n here (64 * w + r.0) (ltb→lt (64 * w + r.0) n (and_l (ltb (64 * w + r.0) n) (q (64 * w + r.0)) h))
        (and_i (q (64 * w + r.0)) (eqb ((64 * w + r.0) / 64) w) (and_r (ltb (64 * w + r.0) n) (q (64 * w + r.0)) h) (T_of (eqb ((64 * w + r.0) / 64) w) (eq-eqb ((64 * w + r.0) / 64) w d)))

    back : T (any_below n here) → T (any_below 64 (bit_at (word_of held w)))
    back t =
        let r : (c : ℕ) × (c < n) × T (here c) = any-e n here t in
        let d : r.0 / 64 ≡ w = eqb-true (r.0 / 64) w (T_true (eqb (r.0 / 64) w) (and_r (q r.0) (eqb (r.0 / 64) w) r.2)) in
        let s : 64 * w + r.0 % 64 ≡ r.0 = omega (arith, d) in
        let h : T (held r.0) = and_i (ltb r.0 n) (q r.0) (lt→ltb r.0 n r.1) (and_l (q r.0) (eqb (r.0 / 64) w) r.2) in
        any-i 64 (bit_at (word_of held w)) (r.0 % 64) (omega arith)
        (subst (λ (b : Bool). T b) (sym (bit_word held 64 (64 * w) (r.0 % 64) (omega arith) ∙ ap held s)) h)

-- one word more, joined to what was found
any-joined : (n w some x : ℕ) (p q : ℕ → Bool) → some < 2 ^ 64 → not (eqb some 0) ≡ any_below n p → x ≡ word_of (λ i. ltb i n && q i) w
    → not (eqb (bit_or some x) 0) ≡ any_below n (λ c. p c || (q c && eqb (c / 64) w))
any-joined n w some x p q small e f =
    or-empty 64 some x small (subst (λ (y : ℕ). y < 2 ^ 64) (sym f) (word_lt (λ i. ltb i n && q i) 64 (64 * w)))
    ∙ ap₂ ◌||◌ e (any_word n w x q f)
    ∙ sym (any-or n p (λ c. q c && eqb (c / 64) w))

joined_small : (n w some x : ℕ) (q : ℕ → Bool) → some < 2 ^ 64 → x ≡ word_of (λ i. ltb i n && q i) w → bit_or some x < 2 ^ 64
joined_small n w some x q small f = (or-bitwise 64).fits some x small (subst (λ (y : ℕ). y < 2 ^ 64) (sym f) (word_lt (λ i. ltb i n && q i) 64 (64 * w)))

-- a number of word w
same_word : (i w : ℕ) → 64 * w ≤ i → i < 64 * w + 64 → i / 64 ≡ w
same_word i w a b = omega arith

-- ---- the entries join

module _ (n : ℕ) (cols seen : List ℕ) (from : ℕ) where
  -- those before e have joined
  abbrev pub joined : ℕ → ℕ → Bool
  joined e c = in_mask seen c || is_in c (slice from e cols)

  pub join-start : IsMask n seen → seen ≡ mask_words n (joined from)
  join-start m =
      m.exact
      ∙ mask-cong n (in_mask seen) (joined from) (λ c l. sym (ap (λ (t : Bool). in_mask seen c || t) (in-empty c from cols) ∙ or-false (in_mask seen c)))

  pub join-turn : (e : ℕ) → from ≤ e → e < length cols → with_node n (mask_words n (joined e)) (get_or cols e 0) true ≡ mask_words n (joined (e + 1))
  join-turn e h l =
      mask-cong n (λ c. cond (eqb c (get_or cols e 0)) true (in_mask (mask_words n (joined e)) c)) (joined (e + 1))
      (λ c v. ap (cond (eqb c (get_or cols e 0)) true) (mask-holds n (joined e) c v)
      ∙ choose (eqb c (get_or cols e 0)) (in_mask seen c) (is_in c (slice from e cols))
      ∙ ap (λ (t : Bool). in_mask seen c || (is_in c (slice from e cols) || t)) (eqb_swap c (get_or cols e 0))
      ∙ ap (λ (t : Bool). in_mask seen c || t) (sym (in-behind c from e cols h l)))
    where
      choose : (t a b : Bool) → cond t true (a || b) ≡ (a || (b || t))
      choose true true b = refl
      choose true false true = refl
      choose true false false = refl
      choose false true b = refl
      choose false false true = refl
      choose false false false = refl

-- ---- a row's words take their columns

module _ (n : ℕ) (idx masks region seen : List ℕ) (from : ℕ) where
  -- what the words before k leave
  abbrev pub taken : ℕ → ℕ → Bool
  taken k c = in_mask seen c && not (row_holds idx masks from k c)

  -- their columns inside the region that were not there to take
  abbrev pub lacking : ℕ → ℕ → Bool
  lacking k c = in_mask region c && row_holds idx masks from k c && not (in_mask seen c)

  pub record Taking (k : ℕ) (now : List ℕ) (missing : ℕ) : Type 0 where
    pub left : now ≡ mask_words n (taken k)
    pub small : missing < 2 ^ 64
    pub found : not (eqb missing 0) ≡ any_below n (lacking k)

  pub take_start : IsMask n seen → from ≤ length idx → from ≤ length masks → Taking from seen 0
  take_start m hi hm =
      record {
        left = m.exact ∙ mask-cong n (in_mask seen) (taken from) (λ c l. sym (ap (λ (t : Bool). in_mask seen c && not t) (none c) ∙ and-true (in_mask seen c)));
        small = omega arith;
        found = sym (any_none n (lacking from) (λ c l t. not-T-of (row_holds idx masks from from c) (none c) (and_r (in_mask region c) (row_holds idx masks from from c) (and_l (in_mask region c && row_holds idx masks from from c) (not (in_mask seen c)) t))));
      }
    where
      none : (c : ℕ) → row_holds idx masks from from c ≡ false
      none c = holds-none idx masks from c hi hm

  module _ (k : ℕ) (h : from ≤ k) (hi : k < length idx) (hm : k < length masks) (ris : Rising idx from (k + 1)) (fits : get_or masks k 0 < 2 ^ 64) (here : get_or idx k 0 < words_needed n) where
    abbrev w : ℕ
    w = get_or idx k 0

    abbrev m : ℕ
    m = get_or masks k 0

    own : m ≡ word_of (λ i. bit_at m (i % 64)) w
    own = sym (word-of-bits (λ i. bit_at m (i % 64)) 64 (64 * w) m fits (λ j l. ap (bit_at m) (omega arith)))

    next : (c : ℕ) → row_holds idx masks from (k + 1) c ≡ (row_holds idx masks from k c || (eqb (c / 64) w && bit_at m (c % 64)))
    next = holds-next idx masks from k h hi hm ris

    -- the words before k are others
    fresh : (c : ℕ) → c / 64 ≡ w → row_holds idx masks from k c ≡ false
    fresh c e = holds_not idx masks from k h (omega arith) (omega arith) (λ i j a b d. ris i j a b (omega arith)) c (λ j a b f. omega (arith, ris j k a b (omega arith)))

    -- `seen[w] & !mask`
    take_word : set (mask_words n (taken k)) w (bit_and (get_or (mask_words n (taken k)) w 0) (2 ^ 64 - 1 - m)) ≡ mask_words n (taken (k + 1))
    take_word =
        mask-store n (taken k) (taken (k + 1)) w (bit_and (get_or (mask_words n (taken k)) w 0) (2 ^ 64 - 1 - m)) here
        (ap₂ (λ (a b : ℕ). bit_and a (2 ^ 64 - 1 - b)) (word_at n (taken k) w here) own
        ∙ word-op 64 (λ a b. bit_and a (2 ^ 64 - 1 - b)) (λ s t. s && not t) (and-not-bitwise 64) (λ i. ltb i n && taken k i) (λ i. bit_at m (i % 64)) (64 * w)
        ∙ word-ext (λ i. (ltb i n && taken k i) && not (bit_at m (i % 64))) (λ i. ltb i n && taken (k + 1) i) 64 (64 * w) inside)
        (λ i l ne. ap (λ (t : Bool). in_mask seen i && not t) (sym (next i ∙ ap (λ (t : Bool). row_holds idx masks from k i || (t && bit_at m (i % 64))) (ne_eqb (i / 64) w ne) ∙ or-false (row_holds idx masks from k i))))
      where
        same : (a s b m : Bool) → ((a && (s && not b)) && not m) ≡ (a && (s && not (b || (true && m))))
        same true true true m = refl
        same true true false m = refl
        same true false b m = refl
        same false s b m = refl

        inside : (i : ℕ) → 64 * w ≤ i → i < 64 * w + 64 → ((ltb i n && taken k i) && not (bit_at m (i % 64))) ≡ (ltb i n && taken (k + 1) i)
        inside i l u =
            same (ltb i n) (in_mask seen i) (row_holds idx masks from k i) (bit_at m (i % 64))
            ∙ ap (λ (t : Bool). ltb i n && (in_mask seen i && not (row_holds idx masks from k i || (t && bit_at m (i % 64))))) (sym (eq-eqb (i / 64) w (same_word i w l u)))
            ∙ ap (λ (t : Bool). ltb i n && (in_mask seen i && not t)) (sym (next i))

    -- `mask & region[w] & !seen[w]`
    lack_word : IsMask n region → bit_and (bit_and m (get_or region w 0)) (2 ^ 64 - 1 - get_or (mask_words n (taken k)) w 0) ≡ word_of (λ i. ltb i n && (in_mask region i && bit_at m (i % 64) && not (in_mask seen i))) w
    lack_word g =
        ap₂ (λ (a b : ℕ). bit_and a (2 ^ 64 - 1 - b))
        (ap₂ bit_and own (is_word n region g w (omega (arith, is-length n region g)))
        ∙ word-op 64 bit_and (λ s t. s && t) (and-bitwise 64) (λ i. bit_at m (i % 64)) (λ i. ltb i n && in_mask region i) (64 * w))
        (word_at n (taken k) w here)
        ∙ word-op 64 (λ a b. bit_and a (2 ^ 64 - 1 - b)) (λ s t. s && not t) (and-not-bitwise 64) (λ i. bit_at m (i % 64) && (ltb i n && in_mask region i)) (λ i. ltb i n && taken k i) (64 * w)
        ∙ word-ext (λ i. (bit_at m (i % 64) && (ltb i n && in_mask region i)) && not (ltb i n && taken k i)) (λ i. ltb i n && (in_mask region i && bit_at m (i % 64) && not (in_mask seen i))) 64 (64 * w)
        (λ i l u. ap (λ (t : Bool). (bit_at m (i % 64) && (ltb i n && in_mask region i)) && not (ltb i n && (in_mask seen i && not t))) (fresh i (same_word i w l u))
        ∙ same (bit_at m (i % 64)) (ltb i n) (in_mask region i) (in_mask seen i))
      where
        same : (m a p s : Bool) → ((m && (a && p)) && not (a && (s && not false))) ≡ (a && (p && m && not s))
        same true true true true = refl
        same true true true false = refl
        same true true false s = refl
        same true false p s = refl
        same false true true s = refl
        same false true false s = refl
        same false false p s = refl

    pub take_turn : IsMask n region → (now : List ℕ) (missing : ℕ) → Taking k now missing
        → Taking (k + 1) (set now w (bit_and (get_or now w 0) (2 ^ 64 - 1 - m))) (bit_or missing (bit_and (bit_and m (get_or region w 0)) (2 ^ 64 - 1 - get_or now w 0)))
    take_turn g now missing inv =
        record {
          left = ap (λ (x : List ℕ). set x w (bit_and (get_or x w 0) (2 ^ 64 - 1 - m))) inv.left ∙ take_word;
          small = joined_small n w missing _ new inv.small word;
          found = any-joined n w missing _ (lacking k) new inv.small inv.found word
              ∙ any-cong n (λ c. lacking k c || (new c && eqb (c / 64) w)) (lacking (k + 1))
              (λ c v. same (in_mask region c) (row_holds idx masks from k c) (eqb (c / 64) w) (bit_at m (c % 64)) (in_mask seen c) ∙ ap (λ (t : Bool). in_mask region c && t && not (in_mask seen c)) (sym (next c)));
        }
      where
        new : ℕ → Bool
        new = λ c. in_mask region c && bit_at m (c % 64) && not (in_mask seen c)

        word : bit_and (bit_and m (get_or region w 0)) (2 ^ 64 - 1 - get_or now w 0) ≡ word_of (λ i. ltb i n && new i) w
        word = ap (λ (x : List ℕ). bit_and (bit_and m (get_or region w 0)) (2 ^ 64 - 1 - get_or x w 0)) inv.left ∙ lack_word g

        same : (p a e m s : Bool) → ((p && a && not s) || ((p && m && not s) && e)) ≡ (p && (a || (e && m)) && not s)
        same false a e m s = refl
        same true true e true true = refl
        same true true e true false = refl
        same true true e false true = refl
        same true true e false false = refl
        same true false true true true = refl
        same true false true true false = refl
        same true false true false s = refl
        same true false false true true = refl
        same true false false true false = refl
        same true false false false s = refl

-- ---- the rest is emptied

module _ (n : ℕ) (cols region seen : List ℕ) (to : ℕ) where
  -- what is inside the region
  abbrev pub within-region : List ℕ → ℕ → Bool
  within-region now c = in_mask region c && in_mask now c

  pub record Draining (e : ℕ) (now : List ℕ) (extra : ℕ) : Type 0 where
    pub mask : IsMask n now
    pub ahead : (c : ℕ) → c < n → T (in_mask now c) → T (is_in c (slice e to cols))
    pub small : extra < 2 ^ 64
    pub found : (not (eqb extra 0) || any_below n (within-region now)) ≡ any_below n (within-region seen)

  module _ (now : List ℕ) (m : IsMask n now) (w : ℕ) (here : w < words_needed n) where
    abbrev rest : ℕ → Bool
    rest c = in_mask now c && not (eqb (c / 64) w)

    clear_word : set now w 0 ≡ mask_words n rest
    clear_word =
        ap (λ (x : List ℕ). set x w 0) m.exact
        ∙ mask-store n (in_mask now) rest w 0 here (sym (word_none (λ i. ltb i n && rest i) 64 (64 * w) none)) (λ i l ne. sym (ap (λ (t : Bool). in_mask now i && not t) (ne_eqb (i / 64) w ne) ∙ and-true (in_mask now i)))
      where
        none : (i : ℕ) → 64 * w ≤ i → i < 64 * w + 64 → T (ltb i n && rest i) → ⊥
        none i l u t = T_not (eqb (i / 64) w) (and_r (in_mask now i) (not (eqb (i / 64) w)) (and_r (ltb i n) (rest i) t)) (T_of (eqb (i / 64) w) (eq-eqb (i / 64) w (same_word i w l u)))

    -- `seen[w] & region[w]`
    rest_word : IsMask n region → bit_and (get_or now w 0) (get_or region w 0) ≡ word_of (λ i. ltb i n && within-region now i) w
    rest_word g =
        ap₂ bit_and (is_word n now m w (omega (arith, is-length n now m))) (is_word n region g w (omega (arith, is-length n region g)))
        ∙ word-op 64 bit_and (λ s t. s && t) (and-bitwise 64) (λ i. ltb i n && in_mask now i) (λ i. ltb i n && in_mask region i) (64 * w)
        ∙ word-ext (λ i. (ltb i n && in_mask now i) && (ltb i n && in_mask region i)) (λ i. ltb i n && within-region now i) 64 (64 * w) (λ i l u. same (ltb i n) (in_mask now i) (in_mask region i))
      where
        same : (a s p : Bool) → ((a && s) && (a && p)) ≡ (a && (p && s))
        same true true true = refl
        same true true false = refl
        same true false true = refl
        same true false false = refl
        same false s p = refl

  pub drain_turn : IsMask n region → to ≤ length cols → (e : ℕ) (now : List ℕ) (extra : ℕ) → Draining e now extra → e < to → get_or cols e 0 < n
      → Draining (e + 1) (set now (get_or cols e 0 / 64) 0) (bit_or extra (bit_and (get_or now (get_or cols e 0 / 64) 0) (get_or region (get_or cols e 0 / 64) 0)))
  drain_turn g hc e now extra inv l u =
      record {
        mask = is-of n left (set now w 0) g.short cleared;
        ahead = λ c v t. later c v (subst (λ (b : Bool). T b) (holds c v) t);
        small = joined_small n w extra _ (within-region now) inv.small word;
        found = ap (λ (b : Bool). b || any_below n (within-region (set now w 0))) (or-empty 64 extra _ inv.small fits ∙ ap (λ (b : Bool). not (eqb extra 0) || b) (any_word n w _ (within-region now) word))
            ∙ or_assoc (not (eqb extra 0)) (any_below n (λ c. within-region now c && eqb (c / 64) w)) (any_below n (within-region (set now w 0)))
            ∙ ap (λ (b : Bool). not (eqb extra 0) || b)
            (sym (any-or n (λ c. within-region now c && eqb (c / 64) w) (within-region (set now w 0)))
            ∙ any-cong n (λ c. (within-region now c && eqb (c / 64) w) || within-region (set now w 0) c) (within-region now)
            (λ c v. ap (λ (t : Bool). (within-region now c && eqb (c / 64) w) || (in_mask region c && t)) (holds c v) ∙ same (in_mask region c) (in_mask now c) (eqb (c / 64) w)))
            ∙ inv.found;
      }
    where
      w : ℕ
      w = get_or cols e 0 / 64

      room : w < words_needed n
      room = omega arith

      left : ℕ → Bool
      left = rest now inv.mask w room

      cleared : set now w 0 ≡ mask_words n left
      cleared = clear_word now inv.mask w room

      holds : (c : ℕ) → c < n → in_mask (set now w 0) c ≡ left c
      holds c v = ap (λ (x : List ℕ). in_mask x c) cleared ∙ mask-holds n left c v

      word : bit_and (get_or now w 0) (get_or region w 0) ≡ word_of (λ i. ltb i n && within-region now i) w
      word = rest_word now inv.mask w room g

      fits : bit_and (get_or now w 0) (get_or region w 0) < 2 ^ 64
      fits = subst (λ (y : ℕ). y < 2 ^ 64) (sym word) (word_lt (λ i. ltb i n && within-region now i) 64 (64 * w))

      later : (c : ℕ) → c < n → T (left c) → T (is_in c (slice (e + 1) to cols))
      later c v t = go (or-e (is_in c (slice (e + 1) to cols)) (eqb (get_or cols e 0) c) (subst (λ (b : Bool). T b) (in-ahead c e to cols l hc) (inv.ahead c v (and_l (in_mask now c) (not (eqb (c / 64) w)) t))))
        where
          go : T (is_in c (slice (e + 1) to cols)) ⊎ T (eqb (get_or cols e 0) c) → T (is_in c (slice (e + 1) to cols))
          go (inl a) = a
          go (inr a) =
              let d : get_or cols e 0 ≡ c = eqb-true (get_or cols e 0) c (T_true (eqb (get_or cols e 0) c) a) in
              absurd (T_not (eqb (c / 64) w) (and_r (in_mask now c) (not (eqb (c / 64) w)) t) (T_of (eqb (c / 64) w) (eq-eqb (c / 64) w (ap (λ (x : ℕ). x / 64) (sym d)))))

      same : (p s e : Bool) → (((p && s) && e) || (p && (s && not e))) ≡ (p && s)
      same false s e = refl
      same true false e = refl
      same true true true = refl
      same true true false = refl

  pub drain_end : (e : ℕ) (now : List ℕ) (extra : ℕ) → Draining e now extra → e ≡ to → (not (eqb extra 0) ≡ any_below n (within-region seen)) × (now ≡ mask_words n (λ i. false))
  drain_end e now extra inv end = (
    sym (ap (λ (b : Bool). not (eqb extra 0) || b) (any_none n (within-region now) (λ c v t. none c v (and_r (in_mask region c) (in_mask now c) t))) ∙ or-false (not (eqb extra 0))) ∙ inv.found,
    inv.mask.exact ∙ mask-cong n (in_mask now) (λ i. false) (λ c v. T_false (in_mask now c) (none c v)),
  )
    where
      none : (c : ℕ) → c < n → T (in_mask now c) → ⊥
      none c v t = not-T-of (is_in c (slice e to cols)) (ap (λ (x : ℕ). is_in c (slice x to cols)) end ∙ in-empty c to cols) (inv.ahead c v t)

-- ---- the entries' columns join the mask
pub ruleset joining = (join-start, join-turn, is-length)
