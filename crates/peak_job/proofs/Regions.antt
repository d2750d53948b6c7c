-- What a prepared region leaves, as the five lines of its answer; and that its mask and its lists, which the program makes itself, are not refused.
-- Assumes nothing.
use mathlib.Core.Path.{◌≡◌, refl, sym, ap, ap₂, ◌∙◌, subst}
use Rattle.std.specs.Prelude.{Result, Ok, Err}
use Rattle.base.specs.Checks.{Check, answer}
use Rattle.base.specs.declared.Refusal.TheVariants.{ListTooShort}
use mathlib.Core.Bool.{Bool}
use mathlib.Core.List.{List}
use Prim.Native.Nat.{ℕ, ◌+◌, ◌≤◌, ◌<◌}
use native.Mathlib.Omega.{arith}
use borrow.Author.Tests.{le-leb, lt-ltb}
use lib.Dec.{leb, ltb}
use lib.ListN.{length, take}
use Rattle.base.specs.Checks.{must, ◌then◌, leaves}
use Rattle.base.specs.Lists.{over, over_with_zeros}
use Rattle.base.specs.Sets.{count_below, members_below}
use Rattle.base.specs.declared.Refusal.{Refusal}
use Rattle.base.proofs.Checks.{last-pass, both-pass, both-passed, then-none}
use Rattle.base.proofs.Lists.{over-own, zeros-own}
use Rattle.base.proofs.Sets.{count-members}
use Rattle.csr32.specs.Matrix.{stored, IsMatrix}
use Rattle.mask.specs.Mask.{words_needed, in_mask, mask_check, length_check, IsMask}
use Rattle.mask.proofs.Masks.{mask-length, mask_is, words-accepted}
use Rattle.dof_layout.specs.Layout.{total_of}
use Rattle.side.specs.Check.{side_room}
use Rattle.graph.specs.Network.{Network, frontier_words, hops_made, in_frontier}
use Rattle.growth.specs.Lent.{masks_room}
use Rattle.pattern.specs.Pattern.{pattern_ptr, pattern_columns, pairs_inside}
use Rattle.pattern.proofs.Writing.{ptr-length}
use Rattle.numeric_plan.proofs.Pairs.{pattern-pairs}
use Rattle.cutting.specs.Cut.{network_of, region_of}
use Rattle.prepared_field_region.specs.Prepared.{local_room, prepare_room, prepare_inputs, prepare_check}
use Rattle.cutting.proofs.Local.{few_pairs}
use Rattle.prepared_field_region.specs.declared.PreparedFieldAwareLocalRegion.{PreparedFieldAwareLocalRegion}
use Rattle.job_text.specs.Answer.{result_lines}
use Rattle.peak_job.specs.Answer.{region_text}
use Rattle.peak_job.specs.Steps.{Arrays}

-- ---- the checks

-- mask and room accepted, the prepared region's checks are the matrix and the layout
pub check-is : (matrix square room : Check) (n : ℕ) (words : List ℕ) → mask_check n words ≡ Ok tt → room ≡ Ok tt
    → prepare_check (prepare_inputs matrix square n n words) room ≡ (matrix then square)
unfolding prepare_check prepare_inputs
check-is matrix square room n words m r =
    ap (λ (x : Check). (matrix then (square then length_check n n words)) then x) r
    ∙ then-none (matrix then (square then length_check n n words))
    ∙ ap (λ (x : Check). matrix then (square then x)) (words-accepted n n words refl m)
    ∙ ap (λ (x : Check). matrix then x) (then-none square)

-- what both accept, the prepared region's inputs do
pub inputs-pass : (matrix square : Check) (n : ℕ) (words : List ℕ) → mask_check n words ≡ Ok tt → (matrix then square) ≡ Ok tt → prepare_inputs matrix square n n words ≡ Ok tt
unfolding prepare_inputs
inputs-pass matrix square n words m e =
    let b = both-passed matrix square e in
    both-pass matrix (square then length_check n n words) b.0 (both-pass square (length_check n n words) b.1 (words-accepted n n words refl m))

pub le-25 : (a b : ℕ) → a ≤ b → must (leb a b) ListTooShort ≡ Ok tt
le-25 a b h = sym (last-pass _ _ _ (le-leb a b h) refl)

lt-25 : (a b : ℕ) → a < b → must (ltb a b) ListTooShort ≡ Ok tt
lt-25 a b h = sym (last-pass _ _ _ (lt-ltb a b h) refl)

-- the arrays have the room
pub room-enough : (n entries : ℕ) (rptr ridx rmasks cptr cidx cmasks starts order region frontier scratch nodes pointers columns source_ptr sources : List ℕ) → n ≤ 256 → entries ≤ 1023
    → Arrays rptr ridx rmasks cptr cidx cmasks starts order region frontier scratch nodes pointers columns source_ptr sources
    → prepare_room n n entries (length rptr) (length ridx) (length rmasks) (length cptr) (length cidx) (length cmasks) (length starts) (length order) (length region) (length frontier) (length scratch) (length nodes) (length pointers) (length columns) (length source_ptr) (length sources) ≡ Ok tt
unfolding prepare_room side_room masks_room local_room
room-enough n entries rptr ridx rmasks cptr cidx cmasks starts order region frontier scratch nodes pointers columns source_ptr sources few short a =
    let few_words : words_needed n ≤ 4 = omega arith in
    both-pass _ _
    (both-pass _ _ (side rptr ridx rmasks a.row_pointers a.row_words a.row_masks)
    (both-pass _ _ (side cptr cidx cmasks a.column_pointers a.column_words a.column_masks)
    (both-pass _ _ (lt-25 n (length starts) (omega (arith, a.begins))) (le-25 entries (length order) (omega (arith, a.ordered))))))
    (both-pass _ _
    (both-pass _ _ (le-25 (words_needed n) (length region) (omega (arith, few_words, a.inside)))
    (both-pass _ _ (le-25 (words_needed n) (length frontier) (omega (arith, few_words, a.reached))) (le-25 (words_needed n) (length scratch) (omega (arith, few_words, a.spent)))))
    (both-pass _ _ (le-25 n (length nodes) (omega (arith, a.members)))
    (both-pass _ _ (lt-25 n (length pointers) (omega (arith, a.local_pointers)))
    (both-pass _ _ (le-25 entries (length columns) (omega (arith, a.local_columns)))
    (both-pass _ _ (lt-25 entries (length source_ptr) (omega (arith, a.source_pointers))) (le-25 entries (length sources) (omega (arith, a.entry_sources))))))))
  where
    side : (p i m : List ℕ) → 1024 ≤ length p → 1024 ≤ length i → 1024 ≤ length m
        → (must (ltb n (length p)) ListTooShort then must (leb entries (length i)) ListTooShort then must (leb entries (length m)) ListTooShort) ≡ Ok tt
    side p i m hp hi hm =
        both-pass _ _ (lt-25 n (length p) (omega (arith, few, hp))) (both-pass _ _ (le-25 entries (length i) (omega (arith, short, hi))) (le-25 entries (length m) (omega (arith, short, hm))))

-- ---- what an answer of prepare_region says of its checks

pub prepared : (check : Check) (x p : PreparedFieldAwareLocalRegion) (r : Result PreparedFieldAwareLocalRegion Refusal) → r ≡ answer check x → r ≡ Ok p
    → (check ≡ Ok tt) × (p ≡ x)
prepared (Ok tt) x p r e f = (refl, cc)
prepared (Err q) x p r e f = absurd (let z : ◌≡◌ {A = ℕ} 0 1 = cc in omega arith)

pub refused : (check : Check) (x : PreparedFieldAwareLocalRegion) (q : Refusal) (r : Result PreparedFieldAwareLocalRegion Refusal) → r ≡ answer check x → r ≡ Err q
    → check ≡ Err q
refused (Ok tt) x q r e f = absurd (let z : ◌≡◌ {A = ℕ} 0 1 = cc in omega arith)
refused (Err s) x q r e f = cc

pub left_is : (check : Check) (new old l : List ℕ) → l ≡ leaves check new old → check ≡ Ok tt → l ≡ new
left_is check new old l e a = e ∙ ap (λ (x : Check). leaves x new old) a

-- ---- its lists, as the five lines

module _ (n : ℕ) (ptr cols blocks words : List ℕ) (h : ℕ) (matrix : IsMatrix n n ptr cols) (sized : n ≡ total_of blocks) where
  abbrev g : Network
  g = network_of ptr cols blocks

  abbrev p : ℕ → Bool
  p = region_of ptr cols blocks words h

  abbrev s : ℕ → ℕ → Bool
  s = stored ptr cols

  pub frontier-mask : IsMask n (frontier_words g words h)
  unfolding frontier_words
  frontier-mask = subst (λ (k : ℕ). IsMask k (frontier_words g words h)) (sym sized) (mask_is g.nodes (in_frontier g (in_mask words) h) (omega (arith, sized, matrix.few_rows)))

  frontier_long : length (frontier_words g words h) ≡ words_needed n
  unfolding frontier_words
  frontier_long = mask-length g.nodes (in_frontier g (in_mask words) h) ∙ ap words_needed (sym sized)

  pub frontier-part : (f old : List ℕ) → f ≡ over (frontier_words g words h) old → take (words_needed n) f ≡ frontier_words g words h
  frontier-part f old e = ap (take (words_needed n)) e ∙ over-own (frontier_words g words h) old (words_needed n) frontier_long

  pub frontier_room : (f old : List ℕ) → f ≡ over (frontier_words g words h) old → IsMask n (take (words_needed n) f)
  frontier_room f old e = subst (λ (l : List ℕ). IsMask n l) (sym (frontier-part f old e)) frontier-mask

  pub pairs_fit : pairs_inside n p s ≤ length cols
  pairs_fit = few_pairs n p s ptr cols matrix refl

  module _ (inside pairs completed : ℕ) (ei : inside ≡ count_below n p) (eq : pairs ≡ pairs_inside n p s) (eh : completed ≡ hops_made g (in_mask words) h) where
    pub text-is : (members f local_ptr local_cols nodes old pointers columns : List ℕ) → members ≡ over_with_zeros (members_below n p) n nodes → f ≡ over (frontier_words g words h) old
        → local_ptr ≡ over_with_zeros (pattern_ptr n p s) (n + 1) pointers → local_cols ≡ over_with_zeros (pattern_columns n p s) (length cols) columns
        → result_lines (take inside members) (members_below n (in_mask (take (words_needed n) f))) completed (take (inside + 1) local_ptr) (take pairs local_cols) ≡ region_text n ptr cols blocks words h
    unfolding region_text
    text-is members f local_ptr local_cols nodes old pointers columns em ef ep ec =
        let a : take inside members ≡ members_below n p = ap₂ (λ (k : ℕ) (l : List ℕ). take k l) ei em ∙ zeros-own (members_below n p) nodes (count_below n p) n (count-members n p) in
        let b : members_below n (in_mask (take (words_needed n) f)) ≡ members_below n (in_mask (frontier_words g words h)) = ap (λ (x : List ℕ). members_below n (in_mask x)) (frontier-part f old ef) in
        let d : take (inside + 1) local_ptr ≡ pattern_ptr n p s = ap₂ (λ (k : ℕ) (l : List ℕ). take (k + 1) l) ei ep ∙ zeros-own (pattern_ptr n p s) pointers (count_below n p + 1) (n + 1) (ptr-length n s p) in
        let k : take pairs local_cols ≡ pattern_columns n p s = ap₂ (λ (k : ℕ) (l : List ℕ). take k l) eq ec ∙ zeros-own (pattern_columns n p s) columns (pairs_inside n p s) (length cols) (pattern-pairs n p s) in
        λ j. result_lines (a j) (b j) (eh j) (d j) (k j)
