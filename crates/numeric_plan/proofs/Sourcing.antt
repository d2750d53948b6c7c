-- The sources of a pattern's pairs, row after row. Assumes nothing.
use mathlib.Core.Path.{◌≡◌, refl, sym, ap, ap₂, ◌∙◌}
use mathlib.Core.List.{List, [], ◌∷◌, ◌++◌}
use mathlib.Core.Logic.{◌⊎◌, inl, inr}
use Prim.Native.Nat.{ℕ, ◌+◌, ◌-◌, ◌≤◌, ◌<◌}
use native.Mathlib.Nat.{le_refl}
use native.Mathlib.Omega.{arith}
use lib.ListN.{length, get_or, set, drop, length-append, length-drop, get_or-append}
use lib.Seq.{get_or-append-add, ext_get_or}
use Rattle.base.specs.Lists.{list_from, join_below, over, placed}
use Rattle.base.proofs.Bools.{lt-or-le}
use Rattle.base.proofs.Joins.{join-none, join-append, join-cong, join-part}
use Rattle.base.proofs.Lists.{length-list_from, list_from-append, list_from-shift, list_from-cong, over-beyond, placed-over, placed-length}
use Rattle.sources.specs.Steps.{ends_from, Put}
use Rattle.sources.proofs.Rows.{ends-length}

-- where each list starts, and where the last ends
abbrev pub starts_of : (ℕ → List ℕ) → ℕ → List ℕ
starts_of f m = list_from (λ j. length (join_below j f)) (m + 1) 0

pub starts-length : (f : ℕ → List ℕ) (m : ℕ) → length (starts_of f m) ≡ m + 1
starts-length f m = length-list_from (λ j. length (join_below j f)) (m + 1) 0

starts_none : (f : ℕ → List ℕ) → starts_of f 0 ≡ 0 ∷ []
unfolding list_from
starts_none f = ap (λ (x : List ℕ). length x ∷ []) (join-none f)

first-over : (l : List ℕ) → 0 < length l → set l 0 0 ≡ over (0 ∷ []) (set l 0 0)
first-over [] h = absurd (omega arith)
first-over (x ∷ l) h = refl

-- the sources of the first of `all` pairs are written; between them and where the last will end anything may stand
pub record Sourced (f : ℕ → List ℕ) (all : ℕ) (ptr₀ src₀ ptr src : List ℕ) (pairs next : ℕ) : Type 0 where
  pub here : next ≡ length (join_below pairs f)
  pub ptr_done : ptr ≡ over (starts_of f pairs) ptr₀
  pub ptr_long : length ptr ≡ length ptr₀
  pub src_done : (i : ℕ) → i < next → get_or src i 0 ≡ get_or (join_below all f) i 0
  pub src_past : (i : ℕ) → length (join_below all f) ≤ i → get_or src i 0 ≡ get_or src₀ i 0
  pub src_long : length src ≡ length src₀

pub sourced-none : (f : ℕ → List ℕ) (all : ℕ) (ptr₀ src₀ : List ℕ) → 0 < length ptr₀ → Sourced f all (set ptr₀ 0 0) src₀ (set ptr₀ 0 0) src₀ 0 0
sourced-none f all ptr₀ src₀ h =
    record {
      here = sym (ap length (join-none f));
      ptr_done = first-over ptr₀ h ∙ ap (λ (x : List ℕ). over x (set ptr₀ 0 0)) (sym (starts_none f));
      ptr_long = refl;
      src_done = λ i l. absurd (omega arith);
      src_past = λ i l. refl;
      src_long = refl;
    }

-- a row: m pairs more, whose lists are those of e
module _ (f e : ℕ → List ℕ) (pairs m : ℕ) (same : (j : ℕ) → j < m → f (pairs + j) ≡ e j) where
  part : (d : ℕ) → d ≤ m → join_below (pairs + d) f ≡ join_below pairs f ++ join_below d e
  part d l = join-append pairs d f ∙ ap (λ (x : List ℕ). join_below pairs f ++ x) (join-cong d (λ j. f (pairs + j)) e (λ j u. same j (omega arith)))

  row-join : join_below (pairs + m) f ≡ join_below pairs f ++ join_below m e
  row-join = part m (le_refl m)

  row_ends : (next : ℕ) → next ≡ length (join_below pairs f) → starts_of f (pairs + m) ≡ starts_of f pairs ++ ends_from next m e
  row_ends next h =
      let s : pairs + m + 1 ≡ pairs + 1 + m = omega arith in
      let t : 0 + (pairs + 1) ≡ pairs + 1 + 0 = omega arith in
      ap (λ (k : ℕ). list_from g k 0) s
      ∙ list_from-append g (pairs + 1) m 0
      ∙ ap (λ (x : List ℕ). starts_of f pairs ++ x) (ap (list_from g m) t ∙ list_from-shift g m (pairs + 1) 0 ∙ list_from-cong (λ i. g (pairs + 1 + i)) (λ j. next + length (join_below (j + 1) e)) m 0 (λ i a b. each i (omega arith)))
    where
      g : ℕ → ℕ
      g j = length (join_below j f)

      each : (i : ℕ) → i < m → g (pairs + 1 + i) ≡ next + length (join_below (i + 1) e)
      each i u =
          let o : pairs + 1 + i ≡ pairs + (i + 1) = omega arith in
          ap g o ∙ ap length (part (i + 1) (omega arith)) ∙ length-append (join_below pairs f) (join_below (i + 1) e)
          ∙ ap (λ (x : ℕ). x + length (join_below (i + 1) e)) (sym h)

  -- the row's own in all
  row_at : (all : ℕ) → pairs + m ≤ all → (i : ℕ) → i < length (join_below m e) → get_or (join_below all f) (length (join_below pairs f) + i) 0 ≡ get_or (join_below m e) i 0
  row_at all h i l =
      let s : pairs + m + (all - (pairs + m)) ≡ all = omega arith in
      let rest = join-part (pairs + m) (all - (pairs + m)) f in
      ap (λ (x : ℕ). get_or (join_below x f) (length (join_below pairs f) + i) 0) (sym s)
      ∙ ap (λ (x : List ℕ). get_or x (length (join_below pairs f) + i) 0) rest.1
      ∙ get_or-append (join_below (pairs + m) f) rest.0 0 (length (join_below pairs f) + i) (omega (arith, ap length row-join, length-append (join_below pairs f) (join_below m e)))
      ∙ ap (λ (x : List ℕ). get_or x (length (join_below pairs f) + i) 0) row-join
      ∙ get_or-append-add (join_below pairs f) (join_below m e) i 0

  module _ (all : ℕ) (ptr₀ src₀ ptr src : List ℕ) (next : ℕ) (w : Sourced f all ptr₀ src₀ ptr src pairs next) where
    -- where the row's sources end
    pub sourced-end : next + length (join_below m e) ≡ length (join_below (pairs + m) f)
    sourced-end = ap (λ (x : ℕ). x + length (join_below m e)) w.here ∙ sym (ap length row-join ∙ length-append (join_below pairs f) (join_below m e))

    pub sourced-next : pairs + m ≤ all → pairs + m < length ptr₀
        → (ptr' src' : List ℕ) (next' : ℕ) → next' ≡ next + length (join_below m e) → ptr' ≡ placed (pairs + 1) (ends_from next m e) ptr → Put next (length (join_below all f)) (join_below m e) src src'
        → Sourced f all ptr₀ src₀ ptr' src' (pairs + m) next'
    sourced-next few pointers ptr' src' next' h p g =
        record {
          here = h ∙ sourced-end;
          ptr_done =
              p ∙ ap₂ (λ (i : ℕ) (x : List ℕ). placed i (ends_from next m e) x) (sym (starts-length f pairs)) w.ptr_done
              ∙ placed-over (starts_of f pairs) (ends_from next m e) ptr₀
              ∙ ap (λ (x : List ℕ). over x ptr₀) (sym (row_ends next w.here));
          ptr_long = ap length p ∙ placed-length (pairs + 1) (ends_from next m e) ptr (omega (arith, ends-length e next m, w.ptr_long)) ∙ w.ptr_long;
          src_done = λ i l. done i l (lt-or-le i next);
          src_past = λ i l. g.past i l ∙ w.src_past i l;
          src_long = g.long ∙ w.src_long;
        }
      where
        done : (i : ℕ) → i < next' → (i < next) ⊎ (next ≤ i) → get_or src' i 0 ≡ get_or (join_below all f) i 0
        done i l (inl a) = g.kept i a ∙ w.src_done i a
        done i l (inr a) =
            let k : ℕ = i - next in
            let s : next + (i - next) ≡ i = omega arith in
            let few-left : i - next < length (join_below m e) = omega (arith, h) in
            ap (λ (x : ℕ). get_or src' x 0) (sym s) ∙ g.here (i - next) few-left ∙ sym (row_at all few (i - next) few-left)
            ∙ ap (λ (x : ℕ). get_or (join_below all f) (x + (i - next)) 0) (sym w.here) ∙ ap (λ (x : ℕ). get_or (join_below all f) x 0) s

pub sourced-all : (f : ℕ → List ℕ) (all : ℕ) (ptr₀ src₀ ptr src : List ℕ) (pairs next : ℕ) → Sourced f all ptr₀ src₀ ptr src pairs next → pairs ≡ all → length (join_below all f) ≤ length src₀
    → (ptr ≡ over (starts_of f all) ptr₀) × (src ≡ over (join_below all f) src₀)
sourced-all f all ptr₀ src₀ ptr src pairs next w e room =
    (w.ptr_done ∙ ap (λ (x : ℕ). over (starts_of f x) ptr₀) e, ext_get_or 0 src (over x src₀) (w.src_long ∙ sym long) (λ i l. each i (lt-or-le i (length x))))
  where
    x : List ℕ
    x = join_below all f

    long : length (over x src₀) ≡ length src₀
    long = length-append x (drop (length x) src₀) ∙ omega (arith, length-drop (length x) src₀)

    each : (i : ℕ) → (i < length x) ⊎ (length x ≤ i) → get_or src i 0 ≡ get_or (over x src₀) i 0
    each i (inl a) = w.src_done i (omega (arith, w.here, ap (λ (k : ℕ). length (join_below k f)) e)) ∙ sym (get_or-append x (drop (length x) src₀) 0 i a)
    each i (inr a) =
        let s : length x + (i - length x) ≡ i = omega arith in
        w.src_past i a ∙ ap (λ (k : ℕ). get_or src₀ k 0) (sym s) ∙ sym (over-beyond x src₀ (i - length x) 0) ∙ ap (λ (k : ℕ). get_or (over x src₀) k 0) s
