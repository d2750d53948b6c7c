-- Regions in a flat list: the words of each, what it holds, the check of the bits past the nodes, and what acceptance gives. Assumes nothing.
use mathlib.Core.Path.{◌≡◌, sym, ap, ◌∙◌, subst}
use Rattle.std.specs.Prelude.{Ok}
use mathlib.Core.Logic.{◌⊎◌, inl, inr, ◌≢◌}
use mathlib.Core.Bool.{Bool, true}
use mathlib.Core.List.{List}
use Prim.Native.Nat.{ℕ, ◌+◌, ◌-◌, ◌*◌, ◌/◌, ◌%◌, ◌^◌, ◌≤◌, ◌<◌}
use native.Mathlib.Omega.{arith}
use native.Mathlib.Nat.{mul-le-mul_right, zero-add}
use borrow.Author.Tests.{leb-true, eqb-true}
use Rattle.std.proofs.Common.{eq-eqb}
use Rattle.std.specs.List.{list_all, range_with_len}
use Rattle.std.proofs.lemmas.List.FromFn.{length-range_with_len, get_or-range_with_len}
use lib.Dec.{eqb}
use lib.ListN.{length, get_or, take, length-take, length-drop, get_or-eq_default}
use lib.Seq.{length-slice}
use Rattle.base.specs.Checks.{side_limit}
use Rattle.base.specs.Sets.{every_below}
use Rattle.base.proofs.Bools.{bool-ext, T_true, T_of, not-T-of, lt-or-le}
use Rattle.base.proofs.Checks.{passed, length-passed, both-passed}
use Rattle.base.proofs.Lists.{every-at, every-all, get_or-slice}
use Rattle.base.proofs.Sets.{every-i, every-e}
use Rattle.mask.specs.Mask.{words_needed, clean}
use Rattle.mask.proofs.Masks.{mask-of}
use Rattle.mask.proofs.Shape.{clean-whole, clean-none, clean-some}
use Rattle.multiplicity.specs.Multiplicity.{region_at, regions_check, AreRegions}

-- ---- places in the flat list

part_in : (regions q w : ℕ) → q < regions → q * w + w ≤ regions * w
part_in regions q w h = omega (arith, mul-le-mul_right {m = q + 1} {n = regions} w (omega arith))

module _ (n : ℕ) (words : List ℕ) (q : ℕ) where
  -- the words of region q
  pub region-length : (q + 1) * words_needed n ≤ length words → length (region_at n words q) ≡ words_needed n
  region-length h = length-slice (q * words_needed n) ((q + 1) * words_needed n) words h ∙ omega arith

  pub region-word : (w : ℕ) → w < words_needed n → get_or (region_at n words q) w 0 ≡ get_or words (q * words_needed n + w) 0
  region-word w h = get_or-slice (q * words_needed n) ((q + 1) * words_needed n) words w (omega arith)

  pub region-fits : ((w : ℕ) → get_or words w 0 < 2 ^ 64) → (w : ℕ) → get_or (region_at n words q) w 0 < 2 ^ 64
  region-fits fits w = go (lt-or-le w (words_needed n))
    where
      go : (w < words_needed n) ⊎ (words_needed n ≤ w) → get_or (region_at n words q) w 0 < 2 ^ 64
      go (inl h) = subst (λ (x : ℕ). x < 2 ^ 64) (sym (region-word w h)) (fits (q * words_needed n + w))
      go (inr h) =
          subst (λ (x : ℕ). x < 2 ^ 64)
          (sym (get_or-eq_default (region_at n words q) 0 {n = w} (omega (arith, length-drop (q * words_needed n) (take ((q + 1) * words_needed n) words), length-take ((q + 1) * words_needed n) words))))
          (omega arith)

-- ---- the bits past the nodes

-- the last word of region q, of `each` words, has no bit past the nodes
abbrev pub last_none : ℕ → ℕ → List ℕ → ℕ → Bool
last_none each n words q = eqb (get_or words (q * each + (each - 1)) 0 / 2 ^ (n % 64)) 0

module _ (n regions : ℕ) (words : List ℕ) (flat : length words ≡ regions * words_needed n) where
  region_long : (q : ℕ) → q < regions → length (region_at n words q) ≡ words_needed n
  region_long q h = region-length n words q (omega (arith, part_in regions q (words_needed n) h, flat))

  -- nothing is past them
  pub all-i : ((q : ℕ) → q < regions → clean n (region_at n words q) ≡ true) → true ≡ every_below regions (λ q. clean n (region_at n words q))
  all-i f = sym (T_true (every_below regions (λ q. clean n (region_at n words q))) (every-i regions (λ q. clean n (region_at n words q)) (λ q h. T_of (clean n (region_at n words q)) (f q h))))

  pub all_whole : n % 64 ≡ 0 → true ≡ every_below regions (λ q. clean n (region_at n words q))
  all_whole z = all-i (λ q h. clean-whole n (region_at n words q) (region_long q h) z)

  module _ (q : ℕ) (h : q < regions) (some : n % 64 ≢ 0) where
    last_word : get_or (region_at n words q) (words_needed n - 1) 0 ≡ get_or words (q * words_needed n + (words_needed n - 1)) 0
    last_word = region-word n words q (words_needed n - 1) (omega arith)

    pub clean-next : get_or words (q * words_needed n + (words_needed n - 1)) 0 / 2 ^ (n % 64) ≡ 0 → clean n (region_at n words q) ≡ true
    clean-next z = clean-none n (region_at n words q) (region_long q h) some (ap (λ (x : ℕ). x / 2 ^ (n % 64)) last_word ∙ z)

  -- all regions' last words, one after the other
  pub all-last : n % 64 ≢ 0 → ((w : ℕ) → get_or words w 0 < 2 ^ 64) → list_all (last_none (words_needed n) n words) (range_with_len 0 regions) ≡ every_below regions (λ q. clean n (region_at n words q))
  all-last some fits =
      bool-ext (list_all (last_none (words_needed n) n words) numbers) (every_below regions (λ q. clean n (region_at n words q)))
      (λ t. every-i regions (λ q. clean n (region_at n words q)) (λ q h. T_of _ (clean-next q h some (eqb-true _ _ (ap (last_none (words_needed n) n words) (sym (at q h)) ∙ every-at (last_none (words_needed n) n words) 0 numbers q (T_true _ t) (omega (arith, long)))))))
      (λ u. T_of _ (every-all (last_none (words_needed n) n words) 0 numbers (λ q l. let h : q < regions = omega (arith, long) in ap (last_none (words_needed n) n words) (at q h) ∙ of-clean q h (T_true _ (every-e regions (λ q. clean n (region_at n words q)) u q h)))))
    where
      numbers : List ℕ
      numbers = range_with_len 0 regions

      at : (q : ℕ) → q < regions → get_or numbers q 0 ≡ q
      at q h = get_or-range_with_len 0 regions q 0 h ∙ zero-add q

      long : length numbers ≡ regions
      long = length-range_with_len 0 regions

      of-clean : (q : ℕ) → q < regions → clean n (region_at n words q) ≡ true → last_none (words_needed n) n words q ≡ true
      of-clean q h t = go (lt-or-le x 1)
        where
          x : ℕ
          x = get_or words (q * words_needed n + (words_needed n - 1)) 0 / 2 ^ (n % 64)

          go : (x < 1) ⊎ (1 ≤ x) → eqb x 0 ≡ true
          go (inl l) = eq-eqb x 0 (omega arith)
          go (inr l) =
              absurd
              (not-T-of (clean n (region_at n words q))
              (clean-some n (region_at n words q) (region_long q h) some (subst (λ (y : ℕ). y < 2 ^ 64) (sym (last_word q h some)) (fits _)) (λ e. absurd (omega (arith, ap (λ (y : ℕ). y / 2 ^ (n % 64)) (last_word q h some), e))))
              (T_of _ t))

-- ---- acceptance

pub accepted-regions : (n regions : ℕ) (words : List ℕ) → ((w : ℕ) → get_or words w 0 < 2 ^ 64) → regions_check n regions words ≡ Ok tt → AreRegions n regions words
unfolding regions_check
accepted-regions n regions words fits e =
    let a = both-passed _ _ e in
    let b = both-passed _ _ a.1 in
    let d = both-passed _ _ b.1 in
    let few : n ≤ side_limit = leb-true _ _ (passed _ _ a.0) in
    let flat : length words ≡ regions * words_needed n = length-passed _ _ d.0 in
    record {
      few_nodes = few;
      few_regions = leb-true _ _ (passed _ _ b.0);
      flat = flat;
      masks = λ q h.
          record {
            short = few;
            exact =
                mask-of n (region_at n words q) (region_long n regions words flat q h) (region-fits n words q fits)
                (T_true (clean n (region_at n words q)) (every-e regions (λ q. clean n (region_at n words q)) (T_of _ (passed _ _ d.1)) q h));
          };
    }
