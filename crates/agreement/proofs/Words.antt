-- The columns of a row, word by word and bit by bit: whether all of them are in a set. Assumes nothing.
use mathlib.Core.Path.{◌≡◌, sym, ap, ◌∙◌, subst}
use mathlib.Core.Bool.{Bool, true}
use mathlib.Core.List.{List}
use Prim.Native.Nat.{ℕ, ◌+◌, ◌-◌, ◌*◌, ◌/◌, ◌%◌, ◌≤◌, ◌<◌}
use native.Mathlib.Omega.{arith}
use lib.Dec.{T}
use lib.ListN.{length, get_or}
use Rattle.base.specs.Lists.{every}
use Rattle.base.specs.Sets.{members_from}
use Rattle.base.proofs.Bools.{T_true, T_of, bool-ext}
use Rattle.std.specs.List.{range_with_len}
use Rattle.base.proofs.Passes.{every-from, from-every}
use Rattle.base.proofs.Lists.{every-at}
use Rattle.std.proofs.lemmas.Grind.{get_or_default_zero}
use Rattle.base.proofs.Sets.{every-members, members-find, members-at}
use Rattle.word.specs.Bits.{bit_at, set_bits}
use Rattle.word.proofs.Words.{bit_word}
use Rattle.side.specs.Check.{is_word_inside}
use Rattle.side.specs.Row.{Row}
use Rattle.side.proofs.Words.{bit_in}
use Rattle.agreement.specs.Agreement.{within}
use Rattle.agreement.proofs.Turned.{within-i, within-e}

every-member : (f p : ℕ → Bool) (b n : ℕ) → every f (members_from p b n) ≡ true → (i : ℕ) → b ≤ i → i < b + n → T (p i) → f i ≡ true
every-member f p b n e i l u t =
    let k : (k : ℕ) × (k < length (members_from p b n)) × (get_or (members_from p b n) k 0 ≡ i) = members-find p b n i l u t in
    ap f (sym k.2) ∙ every-at f 0 (members_from p b n) k.0 e k.1

-- a set bit of a word that is inside is a column
pub bit_col : (ncols w m k b : ℕ) → is_word_inside ncols w m ≡ true → k < length (set_bits m) → b ≡ get_or (set_bits m) k b → 64 * w + b < ncols
bit_col ncols w m k b e h s =
    let at = members-at (bit_at m) 0 64 k h in
    let is : b ≡ get_or (set_bits m) k 0 = s ∙ get_or_default_zero (set_bits m) k b h in
    bit_in ncols w m e b (omega (arith, is, at.1)) (subst (λ (x : ℕ). T (bit_at m x)) (sym is) at.2)

-- ---- the words of a row

-- the columns of word k are in q
abbrev pub word_in : (ℕ → Bool) → List ℕ → List ℕ → ℕ → Bool
word_in q idx masks k = every (λ b. q (64 * get_or idx k 0 + b)) (set_bits (get_or masks k 0))

-- and those of every word from `from` up to n
abbrev pub WordsIn : (ℕ → Bool) → List ℕ → List ℕ → ℕ → ℕ → Type 0
WordsIn q idx masks from n = (k : ℕ) → k < n → from ≤ k → word_in q idx masks k ≡ true

module _ (ncols : ℕ) (p q : ℕ → Bool) (idx masks : List ℕ) (from to : ℕ) (row : Row p idx masks from to) where
  bit : (k b : ℕ) → from ≤ k → k < to → b < 64 → bit_at (get_or masks k 0) b ≡ p (64 * get_or idx k 0 + b)
  bit k b h u l = ap (λ (m : ℕ). bit_at m b) (row.mask k h u) ∙ bit_word p 64 (64 * get_or idx k 0) b l

  -- all of all words
  pub words-within : WordsIn q idx masks from to → within ncols p q ≡ true
  words-within all = T_true _ (within-i ncols p q (λ c l t. one c t))
    where
      one : (c : ℕ) → T (p c) → T (q c)
      one c t =
          let f : (k : ℕ) × (from ≤ k) × (k < to) × (get_or idx k 0 ≡ c / 64) = row.every c t in
          let s : 64 * get_or idx f.0 0 + c % 64 ≡ c = omega (arith, f.3) in
          let m : T (bit_at (get_or masks f.0 0) (c % 64)) = subst (λ (b : Bool). T b) (sym (bit f.0 (c % 64) f.1 f.2 (omega arith) ∙ ap p s)) t in
          T_of (q c) (ap q (sym s) ∙ every-member (λ b. q (64 * get_or idx f.0 0 + b)) (bit_at (get_or masks f.0 0)) 0 64 (all f.0 f.2 f.1) (c % 64) (omega arith) (omega arith) m)

  -- where all columns are, those of one word are
  word-there : ((c : ℕ) → T (p c) → c < ncols) → T (within ncols p q) → (k : ℕ) → from ≤ k → k < to → word_in q idx masks k ≡ true
  word-there small t k h u =
      every-members (λ b. q (64 * get_or idx k 0 + b)) (bit_at (get_or masks k 0)) 0 64 (λ b l v m. here b (subst (λ (x : Bool). T x) (bit k b h u (omega arith)) m))
    where
      here : (b : ℕ) → T (p (64 * get_or idx k 0 + b)) → q (64 * get_or idx k 0 + b) ≡ true
      here b m = T_true _ (within-e ncols p q t (64 * get_or idx k 0 + b) (small (64 * get_or idx k 0 + b) m) m)

  -- so the test of every word answers whether all are
  pub words-range : ((c : ℕ) → T (p c) → c < ncols) → every (word_in q idx masks) (range_with_len from (to - from)) ≡ within ncols p q
  words-range small =
      bool-ext (every (word_in q idx masks) (range_with_len from (to - from))) (within ncols p q)
      (λ t. T_of _ (words-within (λ k h l. all (T_true _ t) k h l)))
      (λ t. T_of _ (from-every (word_in q idx masks) from (to - from) (λ i l. word-there small t (from + i) (omega arith) (omega arith))))
    where
      all : every (word_in q idx masks) (range_with_len from (to - from)) ≡ true → (k : ℕ) → k < to → from ≤ k → word_in q idx masks k ≡ true
      all e k h l =
          let s : from + (k - from) ≡ k = omega arith in
          ap (word_in q idx masks) (sym s) ∙ every-from (word_in q idx masks) from (to - from) e (k - from) (omega arith)
