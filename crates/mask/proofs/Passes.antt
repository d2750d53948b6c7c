-- A pass over a mask's words, one word a turn: whether a node is in it, how many are, an operation with another mask, the members in rising
-- order. Assumes nothing.
use mathlib.Core.Path.{◌≡◌, refl, sym, ap, ap₂, ◌∙◌}
use mathlib.Core.Bool.{Bool, true, false, ◌&&◌, not, ◌||◌}
use mathlib.Core.List.{List, [], ◌∷◌, ◌++◌, map}
use Prim.Native.Nat.{ℕ, suc, ◌+◌, ◌-◌, ◌*◌, ◌/◌, ◌%◌, ◌^◌, ◌≤◌, ◌<◌}
use native.Mathlib.Omega.{arith}
use native.Mathlib.Nat.{lt_of_le_of_lt}
use lib.Bits.{bit_and, bit_or, and_le_l}
use lib.Count.{ones}
use lib.Dec.{T, ltb, eqb}
use lib.ListN.{length, get_or, set, drop, length-drop}
use Rattle.std.specs.List.{list_any, sum_by}
use Rattle.base.specs.Sets.{any_below, count_below, members_from, members_below}
use Rattle.base.specs.Lists.{written, over}
use Rattle.base.proofs.Bools.{and_l, T_true, not-T-of}
use Rattle.base.proofs.Passes.{sum-list}
use Rattle.base.proofs.Lists.{at_head, put_next, put_whole, put-ahead, put-end}
use Rattle.base.proofs.Sets.{sum-cong, count-cong, any-i, any_none, count_past, members-zero, members-append, members-past, any-cong, any_append, any-past}
use Rattle.word.specs.Bits.{bit_at, set_bits, word_from}
use Rattle.word.specs.Answers.{on}
use Rattle.word.specs.declared.Operation.{Operation}
use Rattle.word.proofs.Bits.{zero_bit, bit-and, ones-count}
use Rattle.word.proofs.Turns.{some_turn, turn-members}
use Rattle.word.proofs.Answers.{off}
use Rattle.word.proofs.Words.{word-ext, on-words, word-empty, or-empty, count-words}
use Rattle.mask.specs.Mask.{in_mask, IsMask}
use Rattle.mask.specs.Answers.{combined}
use Rattle.mask.proofs.Masks.{sizes, mask-length, in-word, word_at, is-length, is_word, is_below, is-fits}

-- ---- a list of words

-- whether one of them is not 0: word w holds the members from 64 w on
any_words : (l : List ℕ) (p : ℕ → Bool) → ((w : ℕ) → w < length l → get_or l w 0 < 2 ^ 64)
    → ((w j : ℕ) → w < length l → j < 64 → p (64 * w + j) ≡ bit_at (get_or l w 0) j)
    → list_any (λ x. not (eqb x 0)) l ≡ any_below (64 * length l) p
any_words [] p fits e = sym (any_none 0 p (λ i h t. omega arith))
any_words (x ∷ l) p fits e =
    let long : 64 + 64 * length l ≡ 64 * length (x ∷ l) = omega arith in
    ap₂ ◌||◌
    (word-empty 64 x (fits 0 (omega arith)) ∙ any-cong 64 (bit_at x) p (λ j h. sym (e 0 j (omega arith) h) ∙ ap p (omega arith)))
    (any_words l (λ i. p (64 + i)) (λ w h. fits (suc w) (omega arith)) (λ w j h k. ap p (omega arith) ∙ e (suc w) j (omega arith) k))
    ∙ sym (any_append 64 (64 * length l) p) ∙ ap (λ (n : ℕ). any_below n p) long

-- the bits of two words in common
common-bits : (a b : List ℕ) (w j : ℕ) → j < 64 → (in_mask a (64 * w + j) && in_mask b (64 * w + j)) ≡ bit_at (bit_and (get_or a w 0) (get_or b w 0)) j
common-bits a b w j h =
    ap₂ (λ (s t : Bool). s && t) (in-word a w j h) (in-word b w j h) ∙ sym (bit-and (get_or a w 0) (get_or b w 0) j)

-- ---- a mask holds nothing past its length

module _ (len : ℕ) (words : List ℕ) (m : IsMask len words) where
  -- whether a node was found, as the words joined
  pub any-turn : (w some : ℕ) → w < length words → some < 2 ^ 64 → not (eqb some 0) ≡ any_below (64 * w) (in_mask words)
      → not (eqb (bit_or some (get_or words w 0)) 0) ≡ any_below (64 * (w + 1)) (in_mask words)
  any-turn w some h fits e =
      let x : 64 * w + 64 ≡ 64 * (w + 1) = omega arith in
      let f : get_or words w 0 < 2 ^ 64 = is-fits len words m w h in
      or-empty 64 some (get_or words w 0) fits f
      ∙ ap₂ ◌||◌ e (word-empty 64 (get_or words w 0) f ∙ any-cong 64 (bit_at (get_or words w 0)) (λ j. in_mask words (64 * w + j)) (λ j l. sym (in-word words w j l)))
      ∙ sym (any_append (64 * w) 64 (in_mask words)) ∙ ap (λ (k : ℕ). any_below k (in_mask words)) x

  pub any-whole : any_below (64 * length words) (in_mask words) ≡ any_below len (in_mask words)
  any-whole =
      any-past len (64 * length words) (in_mask words) (omega (arith, is-length len words m))
      (λ i l u t. omega (arith, is_below len words m i u t))

  pub any-list : list_any (λ x. not (eqb x 0)) words ≡ any_below len (in_mask words)
  any-list = any_words words (in_mask words) (is-fits len words m) (λ w j h k. in-word words w j k) ∙ any-whole

  -- with another mask: a word that has a bit in common, and none that has
  module _ (other : List ℕ) where
    abbrev both : ℕ → Bool
    both i = in_mask words i && in_mask other i

    abbrev common : ℕ → ℕ
    common w = bit_and (get_or words w 0) (get_or other w 0)

    pub common-some : (w : ℕ) → w < length words → (common w ≡ 0 → ⊥) → true ≡ any_below len both
    common-some w h n =
        let r : (i : ℕ) × (64 * w ≤ i) × (i < 64 * (w + 1)) × T (both i) =
        some_turn both w (common w) (common-bits words other w) (lt_of_le_of_lt (and_le_l (get_or words w 0) (get_or other w 0)) (is-fits len words m w h)) n in
        sym (T_true (any_below len both) (any-i len both r.0 (is_below len words m r.0 (omega (arith, r.2)) (and_l (in_mask words r.0) (in_mask other r.0) r.3)) r.3))

    pub common-none : ((w : ℕ) → w < length words → common w ≡ 0) → false ≡ any_below len both
    common-none h =
        sym (any_none len both (λ i l. not-T-of (both i)
        (let e : i ≡ 64 * (i / 64) + i % 64 = omega arith in
        ap both e ∙ common-bits words other (i / 64) (i % 64) (omega arith) ∙ ap (λ (x : ℕ). bit_at x (i % 64)) (h (i / 64) (omega (arith, is-length len words m))) ∙ zero_bit (i % 64))))

  pub count-list : sum_by ones words ≡ count_below len (in_mask words)
  count-list =
      sum-list ones words
      ∙ sum-cong (length words) (λ w. ones (get_or words w 0)) (λ w. count_below 64 (λ j. in_mask words (64 * w + j)))
      (λ w h. ones-count 64 (get_or words w 0) (is-fits len words m w h) ∙ count-cong 64 (bit_at (get_or words w 0)) (λ j. in_mask words (64 * w + j)) (λ j l. sym (in-word words w j l)))
      ∙ count-words (length words) (in_mask words)
      ∙ count_past len (64 * length words) (in_mask words) (omega (arith, is-length len words m)) (λ i l u t. omega (arith, is_below len words m i u t))

  pub members-all : members_below (64 * length words) (in_mask words) ≡ members_below len (in_mask words)
  members-all =
      members-past (in_mask words) len (64 * length words) (omega (arith, is-length len words m))
      (λ i l u t. omega (arith, is_below len words m i u t))

-- ---- an operation with another mask

pub op-turn : (o : Operation) (len : ℕ) (a b : List ℕ) → IsMask len a → IsMask len b → (w : ℕ) → w < length a
    → word_from (λ i. on o (bit_at (get_or a w 0) i) (bit_at (get_or b w 0) i)) 64 0 ≡ get_or (combined (on o) len a b) w 0
op-turn o len a b ma mb w h =
    ap₂ (λ (x y : ℕ). word_from (λ i. on o (bit_at x i) (bit_at y i)) 64 0) (is_word len a ma w h) (is_word len b mb w (omega (arith, is-length len a ma, is-length len b mb)))
    ∙ on-words 64 (on o) (λ i. ltb i len && in_mask a i) (λ i. ltb i len && in_mask b i) (64 * w)
    ∙ word-ext (λ i. on o (ltb i len && in_mask a i) (ltb i len && in_mask b i)) (λ i. ltb i len && on o (in_mask a i) (in_mask b i)) 64 (64 * w)
    (λ i l u. both (ltb i len) (in_mask a i) (in_mask b i))
    ∙ sym (word_at len (λ i. on o (in_mask a i) (in_mask b i)) w (omega (arith, is-length len a ma)))
  where
    both : (t x y : Bool) → on o (t && x) (t && y) ≡ (t && on o x y)
    both true x y = refl
    both false x y = off o

-- the first w words are combined
module _ (o : Operation) (len : ℕ) (a b : List ℕ) (ma : IsMask len a) (mb : IsMask len b) where
  combined-length : length (combined (on o) len a b) ≡ length a
  combined-length = mask-length len (λ i. on o (in_mask a i) (in_mask b i)) ∙ sym (is-length len a ma)

  pub combine-turn : (l : List ℕ) (w r : ℕ) → l ≡ written w (combined (on o) len a b) a → w < length a
      → r ≡ word_from (λ i. on o (bit_at (get_or l w 0) i) (bit_at (get_or b w 0) i)) 64 0 → set l w r ≡ written (w + 1) (combined (on o) len a b) a
  combine-turn l w r e h v =
      let same : get_or l w 0 ≡ get_or a w 0 = ap (λ (x : List ℕ). get_or x w 0) e ∙ put-ahead (combined (on o) len a b) a w 0 (omega (arith, combined-length)) h in
      put_next (combined (on o) len a b) a l w r 0 (omega (arith, combined-length)) h e
      (v ∙ ap (λ (x : ℕ). word_from (λ i. on o (bit_at x i) (bit_at (get_or b w 0) i)) 64 0) same ∙ op-turn o len a b ma mb w h)

  pub combine-end : (w : ℕ) → w ≡ length a → written w (combined (on o) len a b) a ≡ combined (on o) len a b
  combine-end w h = put_whole (combined (on o) len a b) a (written w (combined (on o) len a b) a) w combined-length h refl

-- ---- listing the members

-- what the words from w on hold
abbrev pub ahead : List ℕ → ℕ → List ℕ
ahead words w = members_from (in_mask words) (64 * w) (64 * (length words - w))

pub open-word : (words : List ℕ) (w : ℕ) → w < length words
    → ahead words w ≡ map (λ (i : ℕ). 64 * w + i) (set_bits (get_or words w 0)) ++ ahead words (w + 1)
open-word words w h =
    let e : 64 * (length words - w) ≡ 64 + 64 * (length words - (w + 1)) = omega arith in
    let f : 64 * w + 64 ≡ 64 * (w + 1) = omega arith in
    ap (members_from (in_mask words) (64 * w)) e
    ∙ members-append (in_mask words) (64 * w) 64 (64 * (length words - (w + 1)))
    ∙ ap₂ (λ (a b : List ℕ). a ++ b) (turn-members (in_mask words) w (get_or words w 0) (λ j l. in-word words w j l))
    (ap (λ (b : ℕ). members_from (in_mask words) b (64 * (length words - (w + 1)))) f)

-- one member, of the word's bits that are left: `t` is what later words hold
pub member-turn : (l t left rest : List ℕ) (n w b : ℕ) → left ≡ b ∷ rest → drop n l ≡ map (λ (i : ℕ). 64 * w + i) left ++ t
    → (n < length l) × (64 * w + b ≡ get_or l n 0) × (drop (n + 1) l ≡ map (λ (i : ℕ). 64 * w + i) rest ++ t)
member-turn l t left rest n w b h e =
    at_head l n (64 * w + b) (map (λ (i : ℕ). 64 * w + i) rest ++ t) 0 (e ∙ ap (λ (m : List ℕ). map (λ (i : ℕ). 64 * w + i) m ++ t) h)

-- n of the members are written, and `rest` is to come
pub record Written (members rest before out : List ℕ) (n : ℕ) : Type 0 where
  pub room : n ≤ length members
  pub done : out ≡ written n members before
  pub left : drop n members ≡ rest

pub written-start : (len : ℕ) (words out : List ℕ) → IsMask len words → Written (members_below len (in_mask words)) (ahead words 0) out out 0
written-start len words out m =
    let all : length words ≡ length words - 0 = omega arith in
    record { room = omega arith; done = refl; left = sym (members-all len words m) ∙ ap (λ (k : ℕ). members_from (in_mask words) 0 (64 * k)) all }

module _ (l before out : List ℕ) (n w : ℕ) where
  pub written-open : (words : List ℕ) → w < length words → Written l (ahead words w) before out n
      → Written l (map (λ (i : ℕ). 64 * w + i) (set_bits (get_or words w 0)) ++ ahead words (w + 1)) before out n
  written-open words h s = record { room = s.room; done = s.done; left = s.left ∙ open-word words w h }

  module _ (t left : List ℕ) (s : Written l (map (λ (i : ℕ). 64 * w + i) left ++ t) before out n) where
    module _ (b : ℕ) (rest : List ℕ) (h : left ≡ b ∷ rest) where
      pub written-room : n < length l
      written-room = (member-turn l t left rest n w b h s.left).0

      pub written-turn : length l ≤ length before → Written l (map (λ (i : ℕ). 64 * w + i) rest ++ t) before (set out n (w * 64 + b)) (n + 1)
      written-turn room =
          let e = member-turn l t left rest n w b h s.left in
          let v : w * 64 + b ≡ get_or l n 0 = omega (arith, e.1) in
          record { room = omega (arith, e.0); done = put_next l before out n (w * 64 + b) 0 e.0 (omega (arith, e.0)) s.done v; left = e.2 }

    pub written-done : left ≡ [] → Written l t before out n
    written-done z = record { room = s.room; done = s.done; left = s.left ∙ ap (λ (m : List ℕ). map (λ (i : ℕ). 64 * w + i) m ++ t) z }

  pub written-end : (words : List ℕ) → length words ≤ w → Written l (ahead words w) before out n → out ≡ over l before
  written-end words h s =
      let over : 64 * (length words - w) ≡ 0 = omega arith in
      let none : drop n l ≡ [] = s.left ∙ ap (members_from (in_mask words) (64 * w)) over ∙ members-zero (in_mask words) (64 * w) in
      put-end l before out n (omega (arith, s.room, ap length none, length-drop n l)) s.done

-- what the operation looks for
pub ruleset combining = (combine-turn, combine-end, sizes)
