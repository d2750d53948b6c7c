-- What the word's methods compute is what the definitions say, over plain numbers. Assumes nothing.
use mathlib.Core.Bool.{Bool, false, not, ◌&&◌}
use Rattle.std.specs.Prelude.{Ok, Err, Some, None}
use Rattle.base.specs.declared.Refusal.TheVariants.{OutOfRange}
use mathlib.Core.List.{List, [], ◌∷◌}
use mathlib.Core.Path.{◌≡◌, refl, sym, ap, ◌∙◌}
use Prim.Native.Nat.{ℕ, zero, suc, ◌+◌, ◌-◌, ◌*◌, ◌%◌, ◌^◌, ◌≤◌, ◌<◌}
use native.Mathlib.Nat.{not-suc-le-zero, le_of_suc-le-suc}
use native.Mathlib.Numerals.{add-one}
use native.Mathlib.Omega.{arith}
use borrow.Author.Tests.{lt-ltb, le-ltb, le-leb, lt-leb}
use lib.Bits.{bit_and}
use lib.Count.{ones, count_trailing_zeros}
use lib.Dec.{eqb, leb}
use lib.ListN.{length, drop, get_or, length-drop}
use lib.Seq.{drop-cons}
use Rattle.base.specs.Checks.{must}
use Rattle.base.specs.Sets.{count_below}
use Rattle.base.proofs.Checks.{last-pass, last-stop, on-accepted, on-refused}
use Rattle.base.proofs.Sets.{count-members}
use Rattle.word.specs.Bits.{bit_at, set_bits, word_from}
use Rattle.word.specs.Answers.{contains_answer, rank_answer, entry, select_answer, on}
use Rattle.word.specs.declared.Operation.{Operation}
use Rattle.word.proofs.Bits.{ones-count, one_shl, bit_test, rank-count, lowest, no_bits}
use Rattle.word.proofs.Words.{Bitwise, op-bits}

-- ---- a bit, and a count of those below a place
pub bit-in : (m k : ℕ) → k < 64 → not (eqb (bit_and m ((1 * 2 ^ k) % 2 ^ 64)) 0) ≡ bit_at m k
bit-in m k h = ap (λ (x : ℕ). not (eqb (bit_and m x) 0)) (one_shl k h) ∙ bit_test m k

pub rank-in : (m k : ℕ) → k < 64 → ones (bit_and m ((1 * 2 ^ k) % 2 ^ 64 - 1)) ≡ count_below k (bit_at m)
rank-in m k h = ap (λ (x : ℕ). ones (bit_and m (x - 1))) (one_shl k h) ∙ rank-count m k

-- ---- `contains_offset`
pub contains-in : (m k : ℕ) → k < 64 → bit_at m k ≡ contains_answer m k
contains-in m k h = sym (ap (λ (t : Bool). t && bit_at m k) (lt-ltb k 64 h))

pub contains-past : (m k : ℕ) → 64 ≤ k → false ≡ contains_answer m k
contains-past m k h = sym (ap (λ (t : Bool). t && bit_at m k) (le-ltb k 64 h))

-- ---- `rank`
pub rank-out : (m k : ℕ) → 64 < k → Err OutOfRange ≡ rank_answer m k
rank-out m k h = on-refused (must (leb k 64) OutOfRange) OutOfRange _ Err (sym (last-stop _ _ _ (lt-leb k 64 h) refl))

pub rank-told : (m k r : ℕ) → k ≤ 64 → r ≡ count_below k (bit_at m) → Ok r ≡ rank_answer m k
rank-told m k r h e = on-accepted _ _ _ _ (sym (last-pass _ _ _ (le-leb k 64 h) refl)) (ap Ok e)

pub rank-all : (m k r : ℕ) → k ≡ 64 → r ≡ count_below 64 (bit_at m) → Ok r ≡ rank_answer m k
rank-all m k r e q = rank-told m k r (omega arith) (q ∙ ap (λ (n : ℕ). count_below n (bit_at m)) (sym e))

-- ---- `select`

pub entry_in : (l : List ℕ) (j : ℕ) → j < length l → entry l j ≡ Some (get_or l j 0)
entry_in [] j h = absurd (not-suc-le-zero h)
entry_in (x ∷ l) zero h = refl
entry_in (x ∷ l) (suc j) h = entry_in l j (le_of_suc-le-suc h)

pub entry_past : (l : List ℕ) (j : ℕ) → length l ≤ j → entry l j ≡ None
entry_past [] j h = refl
entry_past (x ∷ l) zero h = absurd (not-suc-le-zero h)
entry_past (x ∷ l) (suc j) h = entry_past l j (le_of_suc-le-suc h)

-- a word whose list of set bits is not empty is not 0
pub bits_left : (m k j : ℕ) → set_bits m ≡ drop k (set_bits j) → k < length (set_bits j) → 0 < m
bits_left zero k j e h = absurd (omega (arith, ap length (sym (no_bits 64) ∙ e), length-drop k (set_bits j)))
bits_left (suc m) k j e h = omega arith

-- one turn
pub select-turn : (m k b : ℕ) → b < 2 ^ 64 → set_bits b ≡ drop k (set_bits m) → k < length (set_bits m)
    → set_bits (bit_and b (b - 1)) ≡ drop (k + 1) (set_bits m)
select-turn m k b f e h =
    ap (drop 1) (sym (lowest 64 b (bits_left b k m e h) f) ∙ e ∙ drop-cons (set_bits m) k 0 h)
    ∙ ap (λ (n : ℕ). drop n (set_bits m)) (sym (add-one k))

pub select-none : (m j r : ℕ) → r ≡ count_below 64 (bit_at m) → r ≤ j → None ≡ select_answer m j
select-none m j r e h = sym (entry_past (set_bits m) j (omega (arith, count-members 64 (bit_at m))))

pub select-at : (m j k b : ℕ) → b < 2 ^ 64 → set_bits b ≡ drop k (set_bits m) → k ≡ j → j < length (set_bits m)
    → Some (count_trailing_zeros 64 b) ≡ select_answer m j
select-at m j k b f e q h =
    let g : k < length (set_bits m) = omega arith in
    ap Some
    (ap (λ (l : List ℕ). get_or l 0 0) (sym (lowest 64 b (bits_left b k m e g) f) ∙ e ∙ drop-cons (set_bits m) k 0 g)
    ∙ ap (λ (n : ℕ). get_or (set_bits m) n 0) q)
    ∙ sym (entry_in (set_bits m) j h)

-- ---- an operation that a match has told
pub applied : (op : ℕ → ℕ → ℕ) (o told : Operation) (a b : ℕ) → told ≡ o → Bitwise 64 op (on o) → a < 2 ^ 64 → b < 2 ^ 64
    → op a b ≡ word_from (λ i. on told (bit_at a i) (bit_at b i)) 64 0
applied op o told a b e laws p q = op-bits 64 op (on o) laws a b p q ∙ ap (λ (x : Operation). word_from (λ i. on x (bit_at a i) (bit_at b i)) 64 0) (sym e)

-- no operation sets a bit that neither word has
pub off : (o : Operation) → on o false false ≡ false
off Operation.Union = refl
off Operation.Intersection = refl
off Operation.AndNot = refl
off Operation.Xor = refl

-- what the methods' proofs look for
pub ruleset methods = (bit-in, rank-in, contains-in, contains-past, ones-count, rank-out, rank-told, rank-all)
