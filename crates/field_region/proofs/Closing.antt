-- Closing to blocks, a block at a time: what a block taken whole or left makes of the mask. Assumes nothing.
use mathlib.Core.Path.{◌≡◌, refl, sym, ap, ap₂, ◌∙◌, subst}
use Rattle.std.specs.Prelude.{Ok}
use mathlib.Core.Logic.{◌⊎◌, inl, inr, ◌≢◌}
use native.Mathlib.Nat.{lt_of_le_of_lt}
use native.Mathlib.Numerals.{add-one}
use Rattle.word.proofs.Turns.{some_turn}
use mathlib.Core.Bool.{Bool, ◌&&◌, ◌||◌}
use mathlib.Core.List.{List}
use Prim.Native.Nat.{ℕ, suc, ◌+◌, ◌*◌, ◌/◌, ◌^◌, ◌≤◌, ◌<◌}
use native.Mathlib.Omega.{arith}
use borrow.Author.Tests.{leb-true}
use lib.Bits.{bit_and, bit_or, and_le_l}
use lib.Dec.{T, leb, ltb, leb→le, lt→ltb, ltb→lt}
use lib.ListN.{length, get_or, set}
use Rattle.base.specs.Sets.{between}
use Rattle.base.proofs.Bools.{bool-ext, and_l, and_r, and_i, or_l, or_r, or-e, eq-or-ne}
use Rattle.base.proofs.Checks.{passed, both-passed}
use Rattle.base.proofs.Sets.{None}
use Rattle.word.specs.Bits.{word_of}
use Rattle.mask.specs.Mask.{in_mask, words_needed, mask_words, IsMask}
use Rattle.mask.specs.Answers.{with_range}
use Rattle.mask.proofs.Masks.{mask-cong, mask-holds, accepted-length}
use Rattle.mask.proofs.Nexts.{NoMember}
use Rattle.mask.proofs.Stores.{in_range, ranged, range-bits, range_none, range-turn, range-done}
use Rattle.dof_layout.specs.Layout.{start_of, total_of, in_block, block_of, IsLayout}
use Rattle.dof_layout.proofs.Layouts.{start-mono, block-is, block-below, block-holds, accepted-layout}
use Rattle.graph.specs.Network.{closed}
use Rattle.graph.proofs.Networks.{holding-i, holding-e}
use Rattle.field_region.specs.Closure.{close_check}
use Rattle.field_region.proofs.Blocks.{Block}

-- ---- a block at a time

module _ (components : List ℕ) (p : ℕ → Bool) where
  abbrev whole : ℕ → Bool
  whole i = closed (total_of components) (block_of components) p i

  -- the blocks before b are closed, the others as p has them
  abbrev pub closed_to : ℕ → ℕ → Bool
  closed_to b i = p i || (ltb (block_of components i) b && whole i)

  -- what is in by its block
  by-block : (b i : ℕ) → block_of components i < b → T (whole i) → T (closed_to b i)
  by-block b i l t = or_r (p i) (ltb (block_of components i) b && whole i) (and_i (ltb (block_of components i) b) (whole i) (lt→ltb (block_of components i) b l) t)

  -- one block more
  wider : (b i : ℕ) → T (closed_to b i) → T (closed_to (b + 1) i)
  wider b i t = go (or-e (p i) (ltb (block_of components i) b && whole i) t)
    where
      go : T (p i) ⊎ T (ltb (block_of components i) b && whole i) → T (closed_to (b + 1) i)
      go (inl u) = or_l (p i) (ltb (block_of components i) (b + 1) && whole i) u
      go (inr u) =
          by-block (b + 1) i (omega (arith, ltb→lt (block_of components i) b (and_l (ltb (block_of components i) b) (whole i) u))) (and_r (ltb (block_of components i) b) (whole i) u)

  -- it adds the block's own nodes only
  narrower : (b i : ℕ) → T (closed_to (b + 1) i) → T (closed_to b i) ⊎ ((block_of components i ≡ b) × T (whole i))
  narrower b i t = go (or-e (p i) (ltb (block_of components i) (b + 1) && whole i) t)
    where
      go : T (p i) ⊎ T (ltb (block_of components i) (b + 1) && whole i) → T (closed_to b i) ⊎ ((block_of components i ≡ b) × T (whole i))
      go (inl u) = inl (or_l (p i) (ltb (block_of components i) b && whole i) u)
      go (inr u) = which (eq-or-ne (block_of components i) b)
        where
          c : T (whole i)
          c = and_r (ltb (block_of components i) (b + 1)) (whole i) u

          l : block_of components i < b + 1
          l = ltb→lt (block_of components i) (b + 1) (and_l (ltb (block_of components i) (b + 1)) (whole i) u)

          which : (block_of components i ≡ b) ⊎ (block_of components i ≡ b → ⊥) → T (closed_to b i) ⊎ ((block_of components i ≡ b) × T (whole i))
          which (inl e) = inr (e, c)
          which (inr n) = inl (by-block b i (omega (arith, l)) c)

  -- before block b is closed, its nodes are as p has them
  own : (b i : ℕ) → block_of components i ≡ b → T (closed_to b i) → T (p i)
  own b i e t = go (or-e (p i) (ltb (block_of components i) b && whole i) t)
    where
      go : T (p i) ⊎ T (ltb (block_of components i) b && whole i) → T (p i)
      go (inl u) = u
      go (inr u) = absurd (omega (arith, ltb→lt (block_of components i) b (and_l (ltb (block_of components i) b) (whole i) u)))

  pub closing-none : mask_words (total_of components) p ≡ mask_words (total_of components) (closed_to 0)
  closing-none = mask-cong (total_of components) p (closed_to 0) (λ i l. bool-ext (p i) (closed_to 0 i) (or_l (p i) (ltb (block_of components i) 0 && whole i)) (λ t. from i (or-e (p i) (ltb (block_of components i) 0 && whole i) t)))
    where
      from : (i : ℕ) → T (p i) ⊎ T (ltb (block_of components i) 0 && whole i) → T (p i)
      from i (inl t) = t
      from i (inr t) = absurd (omega (arith, ltb→lt (block_of components i) 0 (and_l (ltb (block_of components i) 0) (whole i) t)))

  module _ (b : ℕ) (words : List ℕ) (h : b < length components) (e : words ≡ mask_words (total_of components) (closed_to b)) where
    -- the words hold what is closed so far
    held : (i : ℕ) → i < total_of components → in_mask words i ≡ closed_to b i
    held i l = ap (λ (x : List ℕ). in_mask x i) e ∙ mask-holds (total_of components) (closed_to b) i l

    inside : (i : ℕ) → T (in_block components b i) → i < total_of components
    inside i t = omega (arith, block-below components b i t, start-mono components (suc b) (length components) h)

    module _ (start end : ℕ) (k : Block components b start end) where
      ee : start_of components (suc b) ≡ end
      ee = ap (start_of components) (sym (add-one b)) ∙ k.ends

      range-is : (i : ℕ) → in_block components b i ≡ between start end i
      range-is i = ap₂ (λ (x y : ℕ). between x y i) k.starts ee

      -- a node of the block is selected: all join
      closing-take : (j : ℕ) → T (in_range words start end j) → with_range (total_of components) words start end ≡ mask_words (total_of components) (closed_to (b + 1))
      closing-take j t =
          mask-cong (total_of components) (λ i. in_mask words i || between start end i) (closed_to (b + 1))
          (λ i l. ap₂ (λ (x y : Bool). x || y) (held i l) (sym (range-is i)) ∙ bool-ext (closed_to b i || in_block components b i) (closed_to (b + 1) i) (λ u. to i (or-e (closed_to b i) (in_block components b i) u)) (λ u. from i l (narrower b i u)))
        where
          at : T (in_block components b j)
          at = subst (λ (x : Bool). T x) (sym (range-is j)) (and_r (in_mask words j) (between start end j) t)

          picked : T (p j)
          picked = own b j (block-is components b j h at) (subst (λ (x : Bool). T x) (held j (inside j at)) (and_l (in_mask words j) (between start end j) t))

          to : (i : ℕ) → T (closed_to b i) ⊎ T (in_block components b i) → T (closed_to (b + 1) i)
          to i (inl u) = wider b i u
          to i (inr u) =
              let d : block_of components i ≡ b = block-is components b i h u in
              by-block (b + 1) i (omega arith) (holding-i (total_of components) (block_of components) p (block_of components i) j (inside j at) (block-is components b j h at ∙ sym d) picked)

          from : (i : ℕ) → i < total_of components → T (closed_to b i) ⊎ ((block_of components i ≡ b) × T (whole i)) → T (closed_to b i || in_block components b i)
          from i l (inl u) = or_l (closed_to b i) (in_block components b i) u
          from i l (inr u) = or_r (closed_to b i) (in_block components b i) (subst (λ (x : ℕ). T (in_block components x i)) u.0 (block-holds components i l).1)

      -- a bit of one of its words is set
      pub closing-word : (w block : ℕ) → block ≡ word_of (between start end) w → get_or words w 0 < 2 ^ 64 → bit_and (get_or words w 0) block ≢ 0
          → with_range (total_of components) words start end ≡ mask_words (total_of components) (closed_to (b + 1))
      closing-word w block eb fits n =
          let r = some_turn (in_range words start end) w (bit_and (get_or words w 0) block) (range-bits words start end w block eb) (lt_of_le_of_lt (and_le_l (get_or words w 0) block) fits) n in
          closing-take r.0 r.3

      -- none is: it is closed as it is
      pub closing-leave : (w : ℕ) → end ≤ 64 * w → None (in_range words start end) (64 * w) → words ≡ mask_words (total_of components) (closed_to (b + 1))
      closing-leave w u none =
          e ∙ mask-cong (total_of components) (closed_to b) (closed_to (b + 1)) (λ i l. bool-ext (closed_to b i) (closed_to (b + 1) i) (wider b i) (λ t. from i (narrower b i t)))
        where
          free : (j : ℕ) → j < total_of components → block_of components j ≡ b → T (p j) → ⊥
          free j l d t =
              let at : T (in_block components b j) = subst (λ (x : ℕ). T (in_block components x j)) d (block-holds components j l).1 in
              none j (omega (arith, block-below components b j at, ee))
              (and_i (in_mask words j) (between start end j) (subst (λ (x : Bool). T x) (sym (held j l)) (or_l (p j) (ltb (block_of components j) b && whole j) t))
              (subst (λ (x : Bool). T x) (range-is j) at))

          from : (i : ℕ) → T (closed_to b i) ⊎ ((block_of components i ≡ b) × T (whole i)) → T (closed_to b i)
          from i (inl t) = t
          from i (inr t) =
              let r : (j : ℕ) × (j < total_of components) × (block_of components j ≡ block_of components i) × T (p j) = holding-e (total_of components) (block_of components) p (block_of components i) t.1 in
              absurd (free r.0 r.1 (r.2 ∙ t.0) r.3)

  pub closing-all : (b : ℕ) → length components ≤ b → mask_words (total_of components) (closed_to b) ≡ mask_words (total_of components) (closed (total_of components) (block_of components) p)
  closing-all b h = mask-cong (total_of components) (closed_to b) whole (λ i l. bool-ext (closed_to b i) (whole i) (λ t. to i l (or-e (p i) (ltb (block_of components i) b && whole i) t)) (λ t. by-block b i (omega (arith, (block-holds components i l).0)) t))
    where
      to : (i : ℕ) → i < total_of components → T (p i) ⊎ T (ltb (block_of components i) b && whole i) → T (whole i)
      to i l (inl t) = holding-i (total_of components) (block_of components) p (block_of components i) i l refl t
      to i l (inr t) = and_r (ltb (block_of components i) b) (whole i) t

-- ---- what a block's words tell

-- a block that ends at or before the next selected node has none
pub range-passed : (words : List ℕ) (start end next : ℕ) → NoMember words start next → end ≤ next → (n : ℕ) → None (in_range words start end) n
range-passed words start end next none h n i l t =
    let r = and_r (in_mask words i) (between start end i) t in
    none i (leb→le start i (and_l (leb start i) (ltb i end) r)) (omega (arith, ltb→lt i end (and_r (leb start i) (ltb i end) r))) (and_l (in_mask words i) (between start end i) t)

-- a block within one word is taken by one store
pub range-one : (len : ℕ) (words : List ℕ) (start end w block : ℕ) → IsMask len words → end ≤ len → w < words_needed len → w ≡ start / 64 → words_needed end ≤ w + 1
    → block ≡ word_of (between start end) w → set words w (bit_or (get_or words w 0) block) ≡ with_range len words start end
range-one len words start end w block m le h ew done eb =
    let e : words ≡ mask_words len (ranged len words start end w) = range_none len words start end m ∙ ap (λ (v : ℕ). mask_words len (ranged len words start end v)) (sym ew) in
    ap (λ (l : List ℕ). set l w (bit_or (get_or l w 0) block)) e ∙ range-turn len words start end w block h le eb
    ∙ range-done len words start end (w + 1) done

-- ---- what acceptance gives

pub accepted-close : (kinds ids fields components offsets : List ℕ) (len : ℕ) (words out : List ℕ) → ((w : ℕ) → get_or words w 0 < 2 ^ 64)
    → close_check kinds ids fields components offsets len words out ≡ Ok tt
    → IsLayout kinds ids fields components offsets × (len ≡ total_of components) × IsMask (total_of components) words × (words_needed (total_of components) ≤ length out)
unfolding close_check
accepted-close kinds ids fields components offsets len words out fits e =
    let p = both-passed _ _ e in
    let q = both-passed _ _ p.1 in
    let lay : IsLayout kinds ids fields components offsets = accepted-layout kinds ids fields components offsets p.0 in
    let m = accepted-length (total_of components) len words lay.blocks.short fits q.0 in
    (lay, m.0, m.1, leb-true _ _ (passed _ _ q.1))
