-- What is new in a mask, a word at a time: the three words that `settle` stores, and whether anything is new. Assumes nothing.
use mathlib.Core.Path.{◌≡◌, refl, sym, ap, ap₂, ◌∙◌, subst}
use mathlib.Core.Bool.{Bool, true, false, not, ◌&&◌, ◌||◌}
use mathlib.Core.List.{List}
use Prim.Native.Nat.{ℕ, ◌+◌, ◌-◌, ◌*◌, ◌^◌, ◌<◌}
use native.Mathlib.Omega.{arith}
use lib.Bits.{bit_and, bit_or}
use lib.Dec.{eqb}
use lib.ListN.{length, get_or, set, get_or-replicate}
use Rattle.base.specs.Lists.{written}
use Rattle.base.specs.Sets.{any_below}
use Rattle.base.proofs.Lists.{put_next, put_whole, put-ahead}
use Rattle.base.proofs.Sets.{any_none}
use Rattle.word.specs.declared.Operation.{Operation}
use Rattle.word.proofs.Words.{op-bits, or-bitwise, and-not-bitwise}
use Rattle.mask.specs.Mask.{in_mask, words_needed, mask_words, IsMask}
use Rattle.mask.specs.Answers.{combined, union, and_not_of}
use Rattle.mask.proofs.Masks.{mask-length, mask-cong, mask-holds, mask_is, mask-none, is-length, is-fits}
use Rattle.mask.proofs.Passes.{op-turn, any-turn, any-whole}

-- ---- the three words

pub zero_word : (n w : ℕ) → w < words_needed n → ◌≡◌ {A = ℕ} 0 (get_or (mask_words n (λ i. false)) w 0)
zero_word n w h = sym (get_or-replicate {A = ℕ} (words_needed n) w 0 0 h) ∙ ap (λ (l : List ℕ). get_or l w 0) (mask-none n)

module _ (n : ℕ) (region reached : List ℕ) (mg : IsMask n region) (mr : IsMask n reached) where
  -- what is new
  abbrev pub fresh : List ℕ
  fresh = combined and_not_of n reached region

  pub fresh-is : IsMask n fresh
  fresh-is = mask_is n (λ i. and_not_of (in_mask reached i) (in_mask region i)) mg.short

  pub fresh-word : (w : ℕ) → w < length region → bit_and (get_or reached w 0) (2 ^ 64 - 1 - get_or region w 0) ≡ get_or fresh w 0
  fresh-word w h =
      let l : w < length reached = omega (arith, is-length n region mg, is-length n reached mr) in
      op-bits 64 (λ a b. bit_and a (2 ^ 64 - 1 - b)) (λ s t. s && not t) (and-not-bitwise 64) (get_or reached w 0) (get_or region w 0) (is-fits n reached mr w l) (is-fits n region mg w h)
      ∙ op-turn Operation.AndNot n reached region mr mg w l

  -- the region with it
  pub region-word : (w : ℕ) → w < length region → bit_or (get_or region w 0) (get_or fresh w 0) ≡ get_or (combined union n region reached) w 0
  region-word w h =
      op-bits 64 bit_or (λ s t. s || t) (or-bitwise 64) (get_or region w 0) (get_or fresh w 0) (is-fits n region mg w h)
      (is-fits n fresh fresh-is w (omega (arith, is-length n region mg, mask-length n (λ i. and_not_of (in_mask reached i) (in_mask region i)))))
      ∙ op-turn Operation.Union n region fresh mg fresh-is w h
      ∙ ap (λ (l : List ℕ). get_or l w 0)
      (mask-cong n (λ i. in_mask region i || in_mask fresh i) (λ i. in_mask region i || in_mask reached i)
      (λ i u. ap (λ (t : Bool). in_mask region i || t) (mask-holds n (λ i. and_not_of (in_mask reached i) (in_mask region i)) i u) ∙ same (in_mask region i) (in_mask reached i)))
    where
      same : (s t : Bool) → (s || (t && not s)) ≡ (s || t)
      same true t = refl
      same false true = refl
      same false false = refl

-- ---- what `settle` has done at word w

pub record Settled (n : ℕ) (region₀ frontier₀ reached₀ region frontier reached : List ℕ) (some w : ℕ) : Type 0 where
  pub region_is : region ≡ written w (combined union n region₀ reached₀) region₀
  pub frontier_is : frontier ≡ written w (combined and_not_of n reached₀ region₀) frontier₀
  pub reached_is : reached ≡ written w (mask_words n (λ i. false)) reached₀
  pub fits : some < 2 ^ 64
  pub found : not (eqb some 0) ≡ any_below (64 * w) (in_mask (combined and_not_of n reached₀ region₀))

module _ (n : ℕ) (region frontier reached : List ℕ) (mg : IsMask n region) (mf : IsMask n frontier) (mr : IsMask n reached) where
  abbrev New : List ℕ
  New = combined and_not_of n reached region

  abbrev All : List ℕ
  All = combined union n region reached

  abbrev Spent : List ℕ
  Spent = mask_words n (λ i. false)

  new-long : length New ≡ words_needed n
  new-long = mask-length n (λ i. and_not_of (in_mask reached i) (in_mask region i))

  all-long : length All ≡ words_needed n
  all-long = mask-length n (λ i. union (in_mask region i) (in_mask reached i))

  spent-long : length Spent ≡ words_needed n
  spent-long = mask-length n (λ i. false)

  long : (length region ≡ words_needed n) × (length frontier ≡ words_needed n) × (length reached ≡ words_needed n)
  long = (is-length n region mg, is-length n frontier mf, is-length n reached mr)

  pub settle-start : Settled n region frontier reached region frontier reached 0 0
  settle-start = record {
    region_is = refl;
    frontier_is = refl;
    reached_is = refl;
    fits = omega arith;
    found = sym (any_none (64 * 0) (in_mask New) (λ i h t. omega arith));
  }

  module _ (g f r : List ℕ) (some w : ℕ) (s : Settled n region frontier reached g f r some w) where
    -- the word that a turn makes
    abbrev x : ℕ
    x = bit_and (get_or r w 0) (2 ^ 64 - 1 - get_or g w 0)

    pub settle_turn : w < length region → Settled n region frontier reached (set g w (bit_or (get_or g w 0) x)) (set f w x) (set r w 0) (bit_or some x) (w + 1)
    settle_turn h =
        let k : w < words_needed n = omega (arith, long.0) in
        let a : get_or g w 0 ≡ get_or region w 0 = ap (λ (l : List ℕ). get_or l w 0) s.region_is ∙ put-ahead All region w 0 (omega (arith, all-long)) (omega (arith, long.0)) in
        let b : get_or r w 0 ≡ get_or reached w 0 = ap (λ (l : List ℕ). get_or l w 0) s.reached_is ∙ put-ahead Spent reached w 0 (omega (arith, spent-long)) (omega (arith, long.2)) in
        let e : x ≡ get_or New w 0 = ap₂ (λ (u v : ℕ). bit_and u (2 ^ 64 - 1 - v)) b a ∙ fresh-word n region reached mg mr w (omega (arith, long.0)) in
        let v : bit_or (get_or g w 0) x ≡ get_or All w 0 = ap₂ bit_or a e ∙ region-word n region reached mg mr w (omega (arith, long.0)) in
        let m : IsMask n New = fresh-is n region reached mg mr in
        record {
          region_is = put_next All region g w (bit_or (get_or g w 0) x) 0 (omega (arith, all-long)) (omega (arith, long.0)) s.region_is v;
          frontier_is = put_next New frontier f w x 0 (omega (arith, new-long)) (omega (arith, long.1)) s.frontier_is e;
          reached_is = put_next Spent reached r w 0 0 (omega (arith, spent-long)) (omega (arith, long.2)) s.reached_is (zero_word n w k);
          fits = (or-bitwise 64).fits some x s.fits (subst (λ (u : ℕ). u < 2 ^ 64) (sym e) (is-fits n New m w (omega (arith, new-long))));
          found = ap (λ (u : ℕ). not (eqb (bit_or some u) 0)) e ∙ any-turn n New m w some (omega (arith, new-long)) s.fits s.found;
        }

    pub settle-end : w ≡ length region → (not (eqb some 0) ≡ any_below n (in_mask f)) × (g ≡ All) × (f ≡ New) × (r ≡ Spent)
    settle-end h =
        let w-is : w ≡ words_needed n = omega (arith, long.0) in
        let end : f ≡ New = put_whole New frontier f w (new-long ∙ sym long.1) (w-is ∙ sym long.1) s.frontier_is in (
          s.found ∙ ap (λ (k : ℕ). any_below (64 * k) (in_mask New)) (w-is ∙ sym new-long) ∙ any-whole n New (fresh-is n region reached mg mr) ∙ ap (λ (l : List ℕ). any_below n (in_mask l)) (sym end),
          put_whole All region g w (all-long ∙ sym long.0) (w-is ∙ sym long.0) s.region_is,
          end,
          put_whole Spent reached r w (spent-long ∙ sym long.2) (w-is ∙ sym long.2) s.reached_is,
        )
