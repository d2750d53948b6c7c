-- Laws of layouts: running totals, the one block of each node, what each check of a block says, and what an accepted layout is.
-- Assumes nothing.
use mathlib.Core.Path.{◌≡◌, refl, sym, ap, ◌∙◌, subst}
use Rattle.std.specs.Prelude.{Ok, Err}
use Rattle.base.specs.declared.Refusal.TheVariants.{OverLimit}
use mathlib.Core.Logic.{◌⊎◌, inl, inr, ◌≢◌}
use mathlib.Core.Bool.{true, false, not}
use mathlib.Core.List.{List}
use Prim.Native.Nat.{ℕ, zero, suc, ◌+◌, ◌≤◌, ◌<◌}
use native.Mathlib.Omega.{arith}
use native.Mathlib.Nat.{zero-add}
use native.Mathlib.Numerals.{add-one}
use borrow.Author.Tests.{eq-eqb, ne_eqb, le-leb, lt-leb, leb-true, eqb-false, not-true}
use lib.Dec.{T, leb, ltb, eqb, leb→le, ltb→lt, le→leb, lt→ltb}
use lib.ListN.{length, get_or}
use lib.Seq.{ext_get_or, get_or-take}
use Rattle.base.specs.Checks.{side_limit}
use Rattle.base.specs.Lists.{same_list}
use Rattle.base.specs.Sets.{any_below}
use Rattle.base.proofs.Bools.{and_l, and_r, and_i, eq-or-ne}
use Rattle.base.proofs.Checks.{checks, group-pass, last-pass, passed, length-passed, both-passed, checks-passed}
use Rattle.base.proofs.Lists.{length-list_from, get_or-list_from, same-list, list_same, other-list, step_of}
use Rattle.base.proofs.Sets.{first-is, sum-zero, sum-suc, sum_mono}
use Rattle.twins.specs.Keys.{same_key}
use Rattle.dof_layout.specs.Layout.{start_of, total_of, offsets_of, in_block, block_of, is_kind_code, block_check, blocks_check, layout_check, AreBlocks, IsLayout}

-- ---- running totals

module _ (components : List ℕ) where
  pub start-zero : start_of components 0 ≡ 0
  unfolding start_of
  start-zero = sum-zero (λ i. get_or components i 0)

  pub start-next : (b : ℕ) → start_of components (b + 1) ≡ start_of components b + get_or components b 0
  unfolding start_of
  start-next b = sum-suc b (λ i. get_or components i 0)

  pub start-suc : (b : ℕ) → start_of components (suc b) ≡ start_of components b + get_or components b 0
  start-suc b = ap (start_of components) (sym (add-one b)) ∙ start-next b

  pub start-mono : (a b : ℕ) → a ≤ b → start_of components a ≤ start_of components b
  unfolding start_of
  start-mono a b h = sum_mono a b (λ i. get_or components i 0) h

  -- the nodes of a block are nodes of the layout
  pub start_within : (b : ℕ) → b < length components → start_of components b + get_or components b 0 ≤ total_of components
  start_within b h = omega (arith, start-next b, start-mono (b + 1) (length components))

  pub offsets-length : length (offsets_of components) ≡ suc (length components)
  unfolding offsets_of
  offsets-length = length-list_from (start_of components) (suc (length components)) 0

  pub offset_at : (b : ℕ) → b ≤ length components → get_or (offsets_of components) b 0 ≡ start_of components b
  unfolding offsets_of
  offset_at b h = get_or-list_from (start_of components) (suc (length components)) 0 b 0 (omega arith) ∙ ap (start_of components) (zero-add b)

  -- what a loop over the totals needs
  pub ruleset totals = (start-zero, start-next, start_within, offsets-length, offset_at, other-list, get_or-take)

  -- a list of that length with those totals
  pub offsets_are : (l : List ℕ) → length l ≡ suc (length components) → ((b : ℕ) → b ≤ length components → get_or l b 0 ≡ start_of components b) → l ≡ offsets_of components
  offsets_are l e f = ext_get_or 0 l (offsets_of components) (e ∙ sym offsets-length) (λ b h. f b (omega arith) ∙ sym (offset_at b (omega arith)))

  -- where all totals but the last are right, the last decides
  pub last-decides : (l : List ℕ) (b total : ℕ) → length l ≡ suc (length components) → b ≡ length components → total ≡ start_of components b
      → ((a : ℕ) → a < b → get_or l a 0 ≡ start_of components a) → eqb (get_or l b 0) total ≡ same_list l (offsets_of components)
  last-decides l b total e all run f = go (eq-or-ne (get_or l b 0) total)
    where
      each : get_or l b 0 ≡ total → (a : ℕ) → a ≤ length components → get_or l a 0 ≡ start_of components a
      each s a h = one (eq-or-ne a b)
        where
          one : (a ≡ b) ⊎ (a ≡ b → ⊥) → get_or l a 0 ≡ start_of components a
          one (inl d) = ap (λ (n : ℕ). get_or l n 0) d ∙ s ∙ run ∙ ap (start_of components) (sym d)
          one (inr n) = f a (omega arith)

      go : (get_or l b 0 ≡ total) ⊎ (get_or l b 0 ≡ total → ⊥) → eqb (get_or l b 0) total ≡ same_list l (offsets_of components)
      go (inl s) = eq-eqb (get_or l b 0) total s ∙ sym (same-list l (offsets_of components) (offsets_are l e (each s)))
      go (inr n) =
          ne_eqb (get_or l b 0) total n
          ∙ sym (other-list l (offsets_of components) (λ d. n (ap (λ (x : List ℕ). get_or x b 0) d ∙ offset_at b (omega arith) ∙ sym run)))

  -- ---- the one block of a node

  pub in-block : (b i : ℕ) → start_of components b ≤ i → i < start_of components (suc b) → T (in_block components b i)
  in-block b i l u = and_i (leb (start_of components b) i) (ltb i (start_of components (suc b))) (le→leb _ _ l) (lt→ltb _ _ u)

  pub block-from : (b i : ℕ) → T (in_block components b i) → start_of components b ≤ i
  block-from b i t = leb→le _ _ (and_l (leb (start_of components b) i) (ltb i (start_of components (suc b))) t)

  pub block-below : (b i : ℕ) → T (in_block components b i) → i < start_of components (suc b)
  block-below b i t = ltb→lt _ _ (and_r (leb (start_of components b) i) (ltb i (start_of components (suc b))) t)

  -- the block whose offsets bracket a node is its block
  pub block-is : (b i : ℕ) → b < length components → T (in_block components b i) → block_of components i ≡ b
  unfolding block_of
  block-is b i h t =
      first-is (length components) (λ a. in_block components a i) b h t
      (λ a l u. absurd (omega (arith, start-mono (suc a) b l, block-below a i u, block-from b i t)))

  -- and every node of the layout has one
  pub block-holds : (i : ℕ) → i < total_of components → (block_of components i < length components) × T (in_block components (block_of components i) i)
  block-holds i h =
      let r : (b : ℕ) × (b < length components) × (start_of components b ≤ i) × (i < start_of components (b + 1)) = step_of (start_of components) (length components) i start-zero h in
      let t : T (in_block components r.0 i) = in-block r.0 i r.2 (subst (λ (b : ℕ). i < start_of components b) (add-one r.0) r.3) in
      subst (λ (b : ℕ). (b < length components) × T (in_block components b i)) (sym (block-is r.0 i r.1 t)) (r.1, t)

  -- every node is in exactly one block
  pub one_block : (i : ℕ) → i < total_of components
      → (b : ℕ) × (b < length components) × T (in_block components b i) × ((a : ℕ) → a < length components → T (in_block components a i) → a ≡ b)
  one_block i h =
      let r : (block_of components i < length components) × T (in_block components (block_of components i) i) = block-holds i h in
      (block_of components i, r.0, r.1, λ a l t. sym (block-is a i l t))

-- the offsets of a built layout
pub total-at : (offsets components : List ℕ) (b : ℕ) → offsets ≡ offsets_of components → b ≤ length components → get_or offsets b 0 ≡ start_of components b
total-at offsets components b e h = ap (λ (x : List ℕ). get_or x b 0) e ∙ offset_at components b h

-- the last of them
pub total-is : (offsets components : List ℕ) → offsets ≡ offsets_of components → get_or offsets (length components) 0 ≡ total_of components
total-is offsets components e = total-at offsets components (length components) e (omega arith)

pub offsets-count : (offsets components : List ℕ) → offsets ≡ offsets_of components → length offsets ≡ suc (length components)
offsets-count offsets components e = ap length e ∙ offsets-length components

-- ---- what the last check of block b says, and what acceptance gives

module _ (kinds ids fields components : List ℕ) (b : ℕ) (kind : is_kind_code (get_or kinds b 0) ≡ true) (some : get_or components b 0 ≢ 0) (new : any_below b (λ a. same_key kinds ids fields a b) ≡ false) where
  first : not (any_below b (λ a. same_key kinds ids fields a b)) ≡ true
  first = ap not new

  pub block_1 : side_limit < start_of components b + get_or components b 0 → block_check kinds ids fields components b ≡ Err OverLimit
  unfolding block_check
  block_1 l = let e : leb (start_of components (suc b)) side_limit ≡ false = lt-leb _ _ (omega (arith, start-suc components b)) in sym (search (checks, first) depth 20)

  pub block-ok : start_of components b + get_or components b 0 ≤ side_limit → block_check kinds ids fields components b ≡ Ok tt
  unfolding block_check
  block-ok l = let e : leb (start_of components (suc b)) side_limit ≡ true = le-leb _ _ (omega (arith, start-suc components b)) in sym (search (checks, first) depth 20)

-- what an accepted block gives: it is not empty, and its nodes are within the limit
pub block-passed : (kinds ids fields components : List ℕ) (b : ℕ) → block_check kinds ids fields components b ≡ Ok tt
    → (0 < get_or components b 0) × (start_of components (suc b) ≤ side_limit)
unfolding block_check
block-passed kinds ids fields components b e =
    let p = both-passed _ _ e in
    let q = both-passed _ _ p.1 in
    let r = both-passed _ _ q.1 in
    let z : get_or components b 0 ≢ 0 = eqb-false _ _ (not-true _ (passed _ _ q.0)) in
    (omega arith, leb-true _ _ (passed _ _ r.1))

-- ---- an accepted layout

pub accepted-blocks : (kinds ids fields components : List ℕ) → blocks_check kinds ids fields components ≡ Ok tt → AreBlocks kinds ids fields components
unfolding blocks_check
accepted-blocks kinds ids fields components e =
    let p = both-passed _ _ e in
    let q = both-passed _ _ p.1 in
    let r = both-passed _ _ q.1 in
    let s = both-passed _ _ r.1 in
    let n : length kinds ≢ 0 = eqb-false _ _ (not-true _ (passed _ _ p.0)) in
    let each : (b : ℕ) → b < length kinds → (0 < get_or components b 0) × (start_of components (suc b) ≤ side_limit) =
    λ b l. block-passed kinds ids fields components b (checks-passed (length kinds) (block_check kinds ids fields components) s.1 b l) in
    let c : length components ≡ length kinds = length-passed _ _ s.0 in
    record {
      some = omega arith;
      ids_length = length-passed _ _ q.0;
      fields_length = length-passed _ _ r.0;
      components_length = c;
      filled = λ b l. (each b l).0;
      short = ends (length components) c n each;
    }
  where
    ends : (m : ℕ) → m ≡ length kinds → length kinds ≢ 0 → ((b : ℕ) → b < length kinds → (0 < get_or components b 0) × (start_of components (suc b) ≤ side_limit)) → start_of components m ≤ side_limit
    ends zero e n f = absurd (n (sym e))
    ends (suc m) e n f = (f m (omega arith)).1

-- no block is empty
pub none-empty : (kinds ids fields components : List ℕ) → AreBlocks kinds ids fields components → (b : ℕ) → b < length components → 0 < get_or components b 0
none-empty kinds ids fields components a b h = a.filled b (omega (arith, a.components_length))

pub accepted-layout : (kinds ids fields components offsets : List ℕ) → layout_check kinds ids fields components offsets ≡ Ok tt
    → IsLayout kinds ids fields components offsets
unfolding layout_check
accepted-layout kinds ids fields components offsets e =
    let p = both-passed _ _ e in
    record { blocks = accepted-blocks kinds ids fields components p.0; running = list_same _ _ (passed _ _ p.1) }

-- the offsets that `new` writes are accepted with its blocks: what one call leaves, the next accepts
pub built-accepted : (kinds ids fields components : List ℕ) → blocks_check kinds ids fields components ≡ Ok tt
    → layout_check kinds ids fields components (offsets_of components) ≡ Ok tt
unfolding layout_check
built-accepted kinds ids fields components e = sym (group-pass _ _ _ e (last-pass _ _ _ (same-list (offsets_of components) (offsets_of components) refl) refl))

-- no block of accepted blocks is empty
pub filled-of : (kinds ids fields components : List ℕ) → AreBlocks kinds ids fields components → (b : ℕ) → b < length components → 0 < get_or components b 0
filled-of kinds ids fields components m b h = m.filled b (omega (arith, m.components_length))

pub ruleset views = (filled-of)

-- an offset
pub ruleset starts = (total-at, offsets-count, start-mono)
