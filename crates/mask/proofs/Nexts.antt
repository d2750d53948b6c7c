-- The next member of a mask: the lowest set bit of what is left of a word, or of the first later word that is not 0. Assumes nothing.
use mathlib.Core.Path.{◌≡◌, sym, ap, ap₂, ◌∙◌, subst}
use Rattle.std.specs.Prelude.{Some, None}
use mathlib.Core.Logic.{◌⊎◌, inl, inr, ◌≢◌}
use mathlib.Core.Bool.{Bool}
use mathlib.Core.List.{List}
use Prim.Native.Nat.{ℕ, ◌+◌, ◌-◌, ◌*◌, ◌/◌, ◌%◌, ◌^◌, ◌≤◌, ◌<◌}
use native.Mathlib.Omega.{arith}
use lib.Count.{count_trailing_zeros}
use lib.Dec.{T}
use lib.ListN.{length, get_or}
use native.Mathlib.Nat.{lt_of_le_of_lt, div-le_self, div-one}
use Rattle.base.specs.Sets.{first_below}
use Rattle.base.proofs.Bools.{lt-or-le, not-T-of}
use Rattle.base.proofs.Sets.{First, first-from, none_from, first-at}
use Rattle.word.specs.Bits.{bit_at}
use Rattle.word.proofs.Bits.{bit-shr, first_bit, zero_bit}
use Rattle.word.proofs.Words.{bit_past}
use Rattle.mask.specs.Mask.{in_mask, IsMask}
use Rattle.mask.specs.Walk.{next_member_of, StepsOn}
use Rattle.mask.specs.declared.inner.Mask.{Mask}
use Rattle.mask.specs.declared.inner.Members.{Members}
use Rattle.mask.proofs.Masks.{sizes, in-word, is-length, is-fits, is_below}

-- no member from `from` up to `to`
abbrev pub NoMember : List ℕ → ℕ → ℕ → Type 0
NoMember words from to = (i : ℕ) → from ≤ i → i < to → T (in_mask words i) → ⊥

pub none-join : (words : List ℕ) (a b c : ℕ) → NoMember words a b → NoMember words b c → NoMember words a c
none-join words a b c x y i h l t = go (lt-or-le i b)
  where
    go : (i < b) ⊎ (b ≤ i) → ⊥
    go (inl k) = x i h k t
    go (inr k) = y i k l t

module _ (len : ℕ) (words : List ℕ) (m : IsMask len words) where
  -- what stands in a word from bit s on
  module _ (w s : ℕ) (l : w < length words) where
    abbrev ahead : ℕ
    ahead = get_or words w 0 / 2 ^ s

    fits : ahead < 2 ^ 64
    fits = lt_of_le_of_lt (div-le_self (get_or words w 0) (2 ^ s)) (is-fits len words m w l)

    bit-ahead : (j : ℕ) → s + j < 64 → in_mask words (64 * w + s + j) ≡ bit_at ahead j
    bit-ahead j h =
        let e : 64 * w + s + j ≡ 64 * w + (s + j) = omega arith in
        ap (in_mask words) e ∙ in-word words w (s + j) h ∙ sym (bit-shr (get_or words w 0) s j)

    pub none_ahead : ahead ≡ 0 → NoMember words (64 * w + s) (64 * (w + 1))
    none_ahead z i a b t =
        let e : 64 * w + s + (i - (64 * w + s)) ≡ i = omega arith in
        not-T-of (in_mask words i) (ap (in_mask words) (sym e) ∙ bit-ahead (i - (64 * w + s)) (omega arith) ∙ ap (λ (x : ℕ). bit_at x (i - (64 * w + s))) z ∙ zero_bit (i - (64 * w + s))) t

    pub record Found : Type 0 where
      pub inside : 64 * w + s + count_trailing_zeros 64 ahead < len
      pub member : T (in_mask words (64 * w + s + count_trailing_zeros 64 ahead))
      pub none : NoMember words (64 * w + s) (64 * w + s + count_trailing_zeros 64 ahead)

    pub found : ahead ≢ 0 → Found
    found n =
        let f : (count_trailing_zeros 64 ahead < 64) × First 64 (bit_at ahead) (count_trailing_zeros 64 ahead) = first_bit 64 ahead (omega arith) fits in
        let low : s + count_trailing_zeros 64 ahead < 64 = low_in (lt-or-le (s + count_trailing_zeros 64 ahead) 64) (f.1.passes f.0) in
        let is : T (in_mask words (64 * w + s + count_trailing_zeros 64 ahead)) = subst (λ (v : Bool). T v) (sym (bit-ahead (count_trailing_zeros 64 ahead) low)) (f.1.passes f.0) in
        record {
          inside = is_below len words m (64 * w + s + count_trailing_zeros 64 ahead) (omega arith) is;
          member = is;
          none = λ i a b t.
              let e : 64 * w + s + (i - (64 * w + s)) ≡ i = omega arith in
              f.1.before (i - (64 * w + s)) (omega arith) (subst (λ (v : Bool). T v) (bit-ahead (i - (64 * w + s)) (omega arith)) (subst (λ (k : ℕ). T (in_mask words k)) (sym e) t));
        }
      where
        low_in : (s + count_trailing_zeros 64 ahead < 64) ⊎ (64 ≤ s + count_trailing_zeros 64 ahead) → T (bit_at ahead (count_trailing_zeros 64 ahead)) → s + count_trailing_zeros 64 ahead < 64
        low_in (inl a) t = a
        low_in (inr a) t =
            absurd (not-T-of (bit_at ahead (count_trailing_zeros 64 ahead)) (bit-shr (get_or words w 0) s (count_trailing_zeros 64 ahead) ∙ bit_past (get_or words w 0) 64 (s + count_trailing_zeros 64 ahead) (is-fits len words m w l) a) t)

  -- what a scan has found, and has not
  pub next_here : (from w s : ℕ) (l : w < length words) → from ≤ 64 * w + s → NoMember words from (64 * w + s) → get_or words w 0 / 2 ^ s ≢ 0
      → 64 * w + s + count_trailing_zeros 64 (get_or words w 0 / 2 ^ s) ≡ next_member_of len words from
  next_here from w s l h none n =
      let f : Found w s l = found w s l n in
      first-from (in_mask words) from len (64 * w + s + count_trailing_zeros 64 (get_or words w 0 / 2 ^ s)) (omega arith) f.inside f.member
      (λ i a b t. go i a b t (lt-or-le i (64 * w + s)) f)
    where
      go : (i : ℕ) → from ≤ i → i < 64 * w + s + count_trailing_zeros 64 (get_or words w 0 / 2 ^ s) → T (in_mask words i) → (i < 64 * w + s) ⊎ (64 * w + s ≤ i) → Found w s l → ⊥
      go i a b t (inl c) f = none i a c t
      go i a b t (inr c) f = f.none i c b t

  pub next_none : (from w : ℕ) → from ≤ len → length words ≤ w → NoMember words from (64 * w) → len ≡ next_member_of len words from
  next_none from w h l none = none_from (in_mask words) from len h (λ i a b t. none i a (omega (arith, is-length len words m)) t)

  -- the two places where a scan stops, in its own numbers
  pub next_split : (from : ℕ) → from / 64 < length words → get_or words (from / 64) 0 / 2 ^ (from % 64) ≢ 0
      → from + count_trailing_zeros 64 (get_or words (from / 64) 0 / 2 ^ (from % 64)) ≡ next_member_of len words from
  next_split from l n =
      let e : from ≡ 64 * (from / 64) + from % 64 = omega arith in
      ap (λ (k : ℕ). k + count_trailing_zeros 64 (get_or words (from / 64) 0 / 2 ^ (from % 64))) e
      ∙ next_here from (from / 64) (from % 64) l (omega arith) (λ i a b t. absurd (omega arith)) n

  pub next_later : (from w : ℕ) → w < length words → from ≤ 64 * w → NoMember words from (64 * w) → get_or words w 0 ≢ 0
      → w * 64 + count_trailing_zeros 64 (get_or words w 0) ≡ next_member_of len words from
  next_later from w l h none n =
      let whole : get_or words w 0 / 2 ^ 0 ≡ get_or words w 0 = div-one (get_or words w 0) in
      let e : w * 64 + count_trailing_zeros 64 (get_or words w 0) ≡ 64 * w + 0 + count_trailing_zeros 64 (get_or words w 0) = omega arith in
      e ∙ ap (λ (m : ℕ). 64 * w + 0 + count_trailing_zeros 64 m) (sym whole)
      ∙ next_here from w 0 l (omega arith) (λ i a b t. none i a (omega arith) t) (λ z. n (sym whole ∙ z))

  pub next_over : (from w : ℕ) → w < length words → NoMember words from (64 * w) → get_or words w 0 ≡ 0 → NoMember words from (64 * (w + 1))
  next_over from w l none z =
      none-join words from (64 * w + 0) (64 * (w + 1)) (λ i a b t. none i a (omega arith) t) (none_ahead w 0 l (div-one (get_or words w 0) ∙ z))

-- ---- for a walk from member to member

pub next_within : (len : ℕ) (words : List ℕ) (from : ℕ) → from ≤ len → next_member_of len words from ≤ len
next_within len words from h = omega (arith, (first-at (len - from) (λ j. in_mask words (from + j))).within)

pub record Next (len : ℕ) (words : List ℕ) (from i : ℕ) : Type 0 where
  pub since : from ≤ i
  pub within : i ≤ len
  pub member : i < len → T (in_mask words i)
  pub none : NoMember words from i

pub next-is : (len : ℕ) (words : List ℕ) (from i : ℕ) → from ≤ len → i ≡ next_member_of len words from → Next len words from i
next-is len words from i h e =
    let f : First (len - from) (λ j. in_mask words (from + j)) (first_below (len - from) (λ j. in_mask words (from + j))) = first-at (len - from) (λ j. in_mask words (from + j)) in
    record {
      since = omega arith;
      within = omega (arith, f.within);
      member = λ l. subst (λ (k : ℕ). T (in_mask words k)) (sym e) (f.passes (omega arith));
      none = λ k a b t.
          let s : from + (k - from) ≡ k = omega arith in
          f.before (k - from) (omega arith) (subst (λ (x : ℕ). T (in_mask words x)) (sym s) t);
    }

-- ---- for a walk by `Mask::members`

-- the walk is over this mask
pub record Over (len : ℕ) (words : List ℕ) (s : Members) : Type 0 where
  pub sized : s.mask.len ≡ len
  pub held : s.mask.words.now ≡ words

-- the member that comes next, or the length
abbrev pub coming : ℕ → List ℕ → Members → ℕ
coming len words s = next_member_of len words s.at

-- one member was given
pub record Given (len : ℕ) (words : List ℕ) (s : Members) (i : ℕ) (t : Members) : Type 0 where
  pub here : i ≡ coming len words s
  pub inside : i < len
  pub over : Over len words t
  pub next : Next len words (i + 1) (coming len words t)

module _ (len : ℕ) (words : List ℕ) (s : Members) where
  pub walk-starts : s.at ≡ 0 → Next len words 0 (coming len words s)
  walk-starts e = next-is len words 0 (coming len words s) (omega arith) (ap (next_member_of len words) e)

  module _ (o : Over len words s) (t : Members) where
    same : next_member_of s.mask.len s.mask.words.now s.at ≡ coming len words s
    same = ap₂ (λ (n : ℕ) (w : List ℕ). next_member_of n w s.at) o.sized o.held

    pub walk-gives : (i : ℕ) → StepsOn s (Some i) t → Given len words s i t
    walk-gives i (e, (h, l, k)) =
        let inside : i < len = omega (arith, l, o.sized) in
        record {
          here = h ∙ same;
          inside = inside;
          over = record { sized = ap (λ (m : Mask). m.len) e ∙ o.sized; held = ap (λ (m : Mask). m.words.now) e ∙ o.held };
          next = next-is len words (i + 1) (coming len words t) (omega (arith, inside)) (ap (next_member_of len words) k);
        }

    pub walk-ends : StepsOn s None t → len ≤ coming len words s
    walk-ends (e, h) = omega (arith, sym same ∙ h ∙ o.sized)

-- what the scan looks for
pub ruleset walking = (none_ahead, next_over, sizes)
