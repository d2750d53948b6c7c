-- Which members' rows have a pair, marked one after the other. Assumes nothing.
use mathlib.Core.Path.{◌≡◌, refl, sym, ap, ◌∙◌}
use mathlib.Core.Logic.{◌⊎◌, inl, inr}
use mathlib.Core.Bool.{Bool, true, false, cond, ◌&&◌}
use mathlib.Core.List.{List}
use Prim.Native.Nat.{ℕ, ◌+◌, ◌≤◌, ◌<◌}
use native.Mathlib.Omega.{arith}
use borrow.Author.Tests.{eq-eqb, ne_eqb}
use lib.Dec.{T, eqb, ltb}
use Rattle.base.specs.Sets.{count_below}
use Rattle.base.proofs.Bools.{T_true, T_false, lt-or-le, eq-or-ne}
use Rattle.mask.specs.Mask.{in_mask, mask_words}
use Rattle.mask.specs.Answers.{with_node}
use Rattle.mask.proofs.Masks.{within, past, mask-holds, mask-cong}
use Rattle.mask.proofs.Nexts.{Next, NoMember}
use Rattle.pattern.specs.Pattern.{inside}
use Rattle.binding.specs.Steps.{has_pair}

module _ (n : ℕ) (region : List ℕ) (s : ℕ → ℕ → Bool) where
  abbrev paired : ℕ → Bool
  paired = has_pair n (in_mask region) s

  -- of the nodes below r, those that are members and have a pair
  abbrev pub Marks : List ℕ → ℕ → Type 0
  Marks words r = words ≡ mask_words n (λ i. ltb i r && paired i)

  -- a node that is no member has none
  outside : (i from to : ℕ) → NoMember region from to → from ≤ i → i < to → paired i ≡ false
  outside i from to none h l = ap (λ (t : Bool). t && ltb 0 (count_below n (inside (in_mask region) s i))) (T_false (in_mask region i) (none i h l))

  pub marks-first : (words : List ℕ) (r : ℕ) → Next n region 0 r → words ≡ mask_words n (λ i. false) → Marks words r
  marks-first words r next e = e ∙ mask-cong n (λ i. false) (λ i. ltb i r && paired i) (λ i l. each i (lt-or-le i r))
    where
      each : (i : ℕ) → (i < r) ⊎ (r ≤ i) → false ≡ (ltb i r && paired i)
      each i (inl h) = sym (within r i (paired i) h ∙ outside i 0 r next.none (omega arith) h)
      each i (inr h) = sym (past r i (paired i) h)

  pub marks-turn : (words words' : List ℕ) (r r' pairs : ℕ) → Marks words r → r < n → T (in_mask region r) → Next n region (r + 1) r'
      → pairs ≡ count_below n (inside (in_mask region) s r) → words' ≡ cond (ltb 0 pairs) (with_node n words r true) words → Marks words' r'
  marks-turn words words' r r' pairs inv l t next own e = e ∙ go (ltb 0 pairs) refl
    where
      before : (i : ℕ) → i < n → in_mask words i ≡ (ltb i r && paired i)
      before i h = ap (λ (x : List ℕ). in_mask x i) inv ∙ mask-holds n (λ i. ltb i r && paired i) i h

      -- row r has a pair where it has pairs
      here : ltb 0 pairs ≡ (ltb r r' && paired r)
      here =
          ap (λ (k : ℕ). ltb 0 k) own
          ∙ sym (within r' r (paired r) (omega (arith, next.since)) ∙ ap (λ (b : Bool). b && ltb 0 (count_below n (inside (in_mask region) s r))) (T_true (in_mask region r) t))

      -- and between r and the next member there is none
      away : (i : ℕ) → (i ≡ r → ⊥) → (i < r) ⊎ (r ≤ i) → (i < r') ⊎ (r' ≤ i) → (ltb i r && paired i) ≡ (ltb i r' && paired i)
      away i q (inl x) y = within r i (paired i) x ∙ sym (within r' i (paired i) (omega (arith, next.since)))
      away i q (inr x) (inl y) = past r i (paired i) x ∙ sym (within r' i (paired i) y ∙ outside i (r + 1) r' next.none (omega (arith, q)) y)
      away i q (inr x) (inr y) = past r i (paired i) x ∙ sym (past r' i (paired i) y)

      with_it : (i : ℕ) → i < n → ltb 0 pairs ≡ true → (i ≡ r) ⊎ (i ≡ r → ⊥) → cond (eqb i r) true (in_mask words i) ≡ (ltb i r' && paired i)
      with_it i h b (inl q) = ap (λ (x : Bool). cond x true (in_mask words i)) (eq-eqb i r q) ∙ sym b ∙ here ∙ ap (λ (k : ℕ). ltb k r' && paired k) (sym q)
      with_it i h b (inr q) = ap (λ (x : Bool). cond x true (in_mask words i)) (ne_eqb i r q) ∙ before i h ∙ away i q (lt-or-le i r) (lt-or-le i r')

      without : (i : ℕ) → ltb 0 pairs ≡ false → (i ≡ r) ⊎ (i ≡ r → ⊥) → (ltb i r && paired i) ≡ (ltb i r' && paired i)
      without i b (inl q) = past r i (paired i) (omega arith) ∙ sym b ∙ here ∙ ap (λ (k : ℕ). ltb k r' && paired k) (sym q)
      without i b (inr q) = away i q (lt-or-le i r) (lt-or-le i r')

      go : (b : Bool) → ltb 0 pairs ≡ b → cond b (with_node n words r true) words ≡ mask_words n (λ i. ltb i r' && paired i)
      go true b = mask-cong n (λ i. cond (eqb i r) true (in_mask words i)) (λ i. ltb i r' && paired i) (λ i h. with_it i h b (eq-or-ne i r))
      go false b = inv ∙ mask-cong n (λ i. ltb i r && paired i) (λ i. ltb i r' && paired i) (λ i h. without i b (eq-or-ne i r))

  pub marks-last : (words : List ℕ) (r : ℕ) → Marks words r → n ≤ r → words ≡ mask_words n paired
  marks-last words r inv h = inv ∙ mask-cong n (λ i. ltb i r && paired i) paired (λ i l. within r i (paired i) (omega arith))
