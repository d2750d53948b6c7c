-- What the library's passes come to, as sets: all and count over a range of numbers, a sum over a list. Assumes nothing.
use mathlib.Core.Path.{◌≡◌, refl, sym, ap, ap₂, ◌∙◌}
use mathlib.Core.Bool.{Bool, true, false, cond, ◌&&◌}
use mathlib.Core.List.{List}
use Prim.Native.Nat.{ℕ, zero, suc, ◌+◌, ◌≤◌, ◌<◌}
use native.Mathlib.Nat.{zero-add, le_refl}
use native.Mathlib.Omega.{arith}
use lib.ListN.{length, get_or, take}
use lib.Seq.{take-length}
use Rattle.std.specs.List.{filter, range_with_len, sum_by}
use Rattle.std.proofs.lemmas.List.FromFn.{length-range_with_len, get_or-range_with_len}
use Rattle.std.proofs.lemmas.List.Filters.{length-filter_more}
use Rattle.std.proofs.lemmas.List.Sums.{sum_by_more}
use Rattle.base.specs.Lists.{every}
use Rattle.base.specs.Sets.{one_if, every_below, sum_below, count_below}
use Rattle.base.proofs.Bools.{bool-ext, T_true, T_of}
use Rattle.base.proofs.Lists.{every-at}
use Rattle.base.proofs.Sets.{every-i, every-e, sum-zero, sum-suc}

-- ---- a test of every number of a range

pub every-from : (f : ℕ → Bool) (a n : ℕ) → every f (range_with_len a n) ≡ true → (i : ℕ) → i < n → f (a + i) ≡ true
every-from f a n e i h =
    ap f (sym (get_or-range_with_len a n i 0 h)) ∙ every-at f 0 (range_with_len a n) i e (omega (arith, h, length-range_with_len a n))

pub from-every : (f : ℕ → Bool) (a n : ℕ) → ((i : ℕ) → i < n → f (a + i) ≡ true) → every f (range_with_len a n) ≡ true
from-every f a zero h = refl
from-every f a (suc n) h =
    ap₂ ◌&&◌ (ap f (omega arith) ∙ h 0 (omega arith)) (from-every f (a + 1) n (λ i l. ap f (omega arith) ∙ h (suc i) (omega arith)))

pub every-range : (f : ℕ → Bool) (n : ℕ) → every f (range_with_len 0 n) ≡ every_below n f
every-range f n =
    bool-ext (every f (range_with_len 0 n)) (every_below n f)
    (λ t. every-i n f (λ i l. T_of (f i) (ap f (sym (zero-add i)) ∙ every-from f 0 n (T_true _ t) i l)))
    (λ t. T_of _ (from-every f 0 n (λ i l. ap f (zero-add i) ∙ T_true (f i) (every-e n f t i l))))

-- ---- how many numbers of a range a filter keeps

one : (b : Bool) → cond b 1 0 ≡ one_if b
one true = refl
one false = refl

-- of the first k numbers
kept : (p : ℕ → Bool) (n k : ℕ) → k ≤ n → length (filter p (take k (range_with_len 0 n))) ≡ count_below k p
kept p n zero h = sym (sum-zero (λ i. one_if (p i)))
kept p n (suc k) h =
    let next : suc k ≡ k + 1 = omega arith in
    let at : get_or (range_with_len 0 n) k 0 ≡ k = get_or-range_with_len 0 n k 0 (omega arith) ∙ zero-add k in
    ap (λ (j : ℕ). length (filter p (take j (range_with_len 0 n)))) next
    ∙ length-filter_more p (range_with_len 0 n) k 0 (omega (arith, length-range_with_len 0 n))
    ∙ ap₂ (λ (x y : ℕ). x + cond (p y) 1 0) (kept p n k (omega arith)) at
    ∙ ap (λ (x : ℕ). count_below k p + x) (one (p k))
    ∙ sym (sum-suc k (λ i. one_if (p i)))
    ∙ ap (λ (j : ℕ). count_below j p) (sym next)

pub kept-range : (p : ℕ → Bool) (n : ℕ) → length (filter p (range_with_len 0 n)) ≡ count_below n p
kept-range p n =
    ap (λ (l : List ℕ). length (filter p l)) (sym (take-length (range_with_len 0 n)) ∙ ap (λ (j : ℕ). take j (range_with_len 0 n)) (length-range_with_len 0 n))
    ∙ kept p n n (omega arith)

-- ---- a sum of what each element comes to

-- of the first k elements
added : (f : ℕ → ℕ) (l : List ℕ) (k : ℕ) → k ≤ length l → sum_by f (take k l) ≡ sum_below k (λ i. f (get_or l i 0))
added f l zero h = sym (sum-zero (λ i. f (get_or l i 0)))
added f l (suc k) h =
    let next : suc k ≡ k + 1 = omega arith in
    ap (λ (j : ℕ). sum_by f (take j l)) next
    ∙ sum_by_more f l k 0 (omega arith)
    ∙ ap (λ (x : ℕ). x + f (get_or l k 0)) (added f l k (omega arith))
    ∙ sym (sum-suc k (λ i. f (get_or l i 0)))
    ∙ ap (λ (j : ℕ). sum_below j (λ i. f (get_or l i 0))) (sym next)

pub sum-list : (f : ℕ → ℕ) (l : List ℕ) → sum_by f l ≡ sum_below (length l) (λ i. f (get_or l i 0))
sum-list f l = ap (sum_by f) (sym (take-length l)) ∙ added f l (length l) (le_refl (length l))
