-- A row's entries read once, in order: the run of those in one word, the row's words against the runs, and what both hold inside the region.
-- Assumes nothing.
use mathlib.Core.Path.{◌≡◌, refl, sym, ap, ap₂, ◌∙◌, subst}
use mathlib.Core.Logic.{◌⊎◌, inl, inr}
use Rattle.std.specs.Prelude.{Some}
use Rattle.std.proofs.lemmas.Option.{same_Some}
use mathlib.Core.Bool.{Bool, true, false, not, cond, ◌&&◌, ◌||◌}
use mathlib.Core.List.{List}
use Prim.Native.Nat.{ℕ, ◌+◌, ◌-◌, ◌*◌, ◌/◌, ◌%◌, ◌^◌, ◌≤◌, ◌<◌}
use native.Mathlib.Nat.{add-zero, zero-add}
use native.Mathlib.Omega.{arith}
use borrow.Author.Tests.{eq-eqb, ne_eqb}
use lib.Bits.{bit_and, bit_or, bit_xor}
use lib.Dec.{T, eqb}
use lib.ListN.{length, get_or}
use lib.Seq.{slice}
use Rattle.base.specs.Lists.{is_in}
use Rattle.base.specs.Sets.{one_if, count_below}
use Rattle.base.proofs.Bits.{or-none, xor_same}
use Rattle.base.proofs.Bools.{T_false, not-T-of, or-false, eq-or-ne}
use Rattle.base.proofs.Lists.{in-empty, in-behind, in_parts, in-slice-where}
use Rattle.base.proofs.Sets.{sum-cong, sum-add, sum-none, sum-place, count-cong, count-le}
use Rattle.word.specs.Bits.{bit_at}
use Rattle.word.proofs.Bits.{one_shl, zero_bit, bit-and, bit-or, bit_not, bit-pow}
use Rattle.word.proofs.Words.{bit_word, word_lt, word-ext, word_none, word-add-same}
use Rattle.mask.specs.Mask.{in_mask, IsMask}
use Rattle.csr32.specs.Matrix.{stored}
use Rattle.side.specs.Side.{row_holds, side_holds}
use Rattle.side.specs.Check.{Rising, IsSide}
use Rattle.side.proofs.Holding.{holds-none, holds-next}
use Rattle.pattern.specs.Pattern.{inside}
use Rattle.pattern.proofs.Rows.{kept_in, kept-none, kept_next, kept-le, row_kept}
use Rattle.binding.specs.Steps.{RunOf, Followed}
use Rattle.binding.specs.declared.Run.{Run}
use Rattle.binding.proofs.Sources.{counted, count-start, count_next, count-more}

-- ---- bits counted without a branch

-- two sets that differ at b alone
count_at : (n : ℕ) (p q : ℕ → Bool) (b x : ℕ) → b < n → ((i : ℕ) → (i ≡ b → ⊥) → q i ≡ p i) → one_if (q b) ≡ one_if (p b) + x → count_below n p + x ≡ count_below n q
count_at n p q b x h same own =
    sym (sum-cong n (λ i. one_if (q i)) (λ i. one_if (p i) + more i) (λ i l. each i (eq-or-ne i b))
    ∙ sum-add n (λ i. one_if (p i)) more
    ∙ ap (λ (k : ℕ). count_below n p + k) (sum-place n more b h (λ i l ne. ap (λ (t : Bool). cond t x 0) (ne_eqb i b ne)) ∙ ap (λ (t : Bool). cond t x 0) (eq-eqb b b refl)))
  where
    more : ℕ → ℕ
    more i = cond (eqb i b) x 0

    each : (i : ℕ) → (i ≡ b) ⊎ (i ≡ b → ⊥) → one_if (q i) ≡ one_if (p i) + more i
    each i (inl e) = ap (λ (k : ℕ). one_if (q k)) e ∙ own ∙ sym (ap₂ (λ (k : ℕ) (t : Bool). one_if (p k) + cond t x 0) e (eq-eqb i b e))
    each i (inr ne) = ap one_if (same i ne) ∙ sym (ap (λ (t : Bool). one_if (p i) + cond t x 0) (ne_eqb i b ne) ∙ add-zero (one_if (p i)))

-- bit b joins the bits: where it is inside and new, one more of them is inside
pub pairs_next : (inside bits b pairs : ℕ) → bits < 2 ^ 64 → b < 64 → pairs ≡ count_below 64 (bit_at (bit_and bits inside))
    → pairs + one_if (bit_at (bit_and inside (2 ^ 64 - 1 - bits)) b) ≡ count_below 64 (bit_at (bit_and (bit_or bits ((1 * 2 ^ b) % 2 ^ 64)) inside))
pairs_next inside bits b pairs f h e =
    ap₂ ◌+◌ e (ap one_if (bit-and inside (2 ^ 64 - 1 - bits) b ∙ ap (λ (t : Bool). bit_at inside b && t) (bit_not 64 bits b f h)))
    ∙ count_at 64 (bit_at (bit_and bits inside)) (bit_at (bit_and next inside)) b (one_if (bit_at inside b && not (bit_at bits b))) h same own
  where
    next : ℕ
    next = bit_or bits ((1 * 2 ^ b) % 2 ^ 64)

    joined : (i : ℕ) → bit_at (bit_and next inside) i ≡ ((bit_at bits i || eqb i b) && bit_at inside i)
    joined i =
        bit-and next inside i
        ∙ ap (λ (t : Bool). t && bit_at inside i) (bit-or bits ((1 * 2 ^ b) % 2 ^ 64) i ∙ ap (λ (t : Bool). bit_at bits i || t) (ap (λ (x : ℕ). bit_at x i) (one_shl b h) ∙ bit-pow b i))

    same : (i : ℕ) → (i ≡ b → ⊥) → bit_at (bit_and next inside) i ≡ bit_at (bit_and bits inside) i
    same i ne =
        joined i ∙ ap (λ (t : Bool). (bit_at bits i || t) && bit_at inside i) (ne_eqb i b ne)
        ∙ ap (λ (t : Bool). t && bit_at inside i) (or-false (bit_at bits i)) ∙ sym (bit-and bits inside i)

    once : (t u : Bool) → one_if ((t || true) && u) ≡ one_if (t && u) + one_if (u && not t)
    once true true = refl
    once true false = refl
    once false true = refl
    once false false = refl

    own : one_if (bit_at (bit_and next inside) b) ≡ one_if (bit_at (bit_and bits inside) b) + one_if (bit_at inside b && not (bit_at bits b))
    own =
        ap one_if (joined b ∙ ap (λ (t : Bool). (bit_at bits b || t) && bit_at inside b) (eq-eqb b b refl)) ∙ once (bit_at bits b) (bit_at inside b)
        ∙ ap (λ (t : Bool). one_if t + one_if (bit_at inside b && not (bit_at bits b))) (sym (bit-and bits inside b))

-- ---- the entries of one word

module _ (cols : List ℕ) (from to word inside : ℕ) where
  -- a run that has come to e
  abbrev pub up_to : ℕ → ℕ → ℕ → ℕ → Run
  up_to bits e pairs sources = record { bits = bits; end = e; pairs = pairs; sources = sources }

  pub run-start : from ≤ to → RunOf cols from to word inside (up_to 0 from 0 0)
  run-start h =
      record {
        since = omega arith;
        within = h;
        bits = sym (word_none (λ c. is_in c (slice from from cols)) 64 (64 * word) (λ i l u t. not-T-of (is_in i (slice from from cols)) (in-empty i from cols) t));
        here = λ e a b. absurd (omega arith);
        pairs = sym (count_none 64 (bit_at (bit_and 0 inside)) (λ i l. bit-and 0 inside i ∙ ap (λ (t : Bool). t && bit_at inside i) (zero_bit i)));
        sources = count-start (λ i. bit_at inside (get_or cols i 0 % 64)) from;
      }
    where
      count_none : (n : ℕ) (p : ℕ → Bool) → ((i : ℕ) → i < n → p i ≡ false) → count_below n p ≡ 0
      count_none n p e = sum-cong n (λ i. one_if (p i)) (λ i. 0) (λ i l. ap one_if (e i l)) ∙ sum-none n

  module _ (bits e pairs sources : ℕ) (inv : RunOf cols from to word inside (up_to bits e pairs sources)) where
    abbrev c : ℕ
    c = get_or cols e 0

    -- no more columns than bits, no more sources than entries
    pub pairs-few : pairs ≤ 64
    pairs-few = omega (arith, inv.pairs, count-le 64 (bit_at (bit_and bits inside)))

    pub sources-few : sources ≤ e
    sources-few = omega (arith, inv.sources, count-le (e - from) (λ j. bit_at inside (get_or cols (from + j) 0 % 64)))

    pub run-turn : to ≤ length cols → e < to → c / 64 ≡ word → (x y : ℕ) → x ≡ one_if (bit_at (bit_and inside (2 ^ 64 - 1 - bits)) (c % 64)) → y ≡ one_if (bit_at inside (c % 64))
        → RunOf cols from to word inside (up_to (bit_or bits ((1 * 2 ^ (c % 64)) % 2 ^ 64)) (e + 1) (pairs + x) (sources + y))
    run-turn hc l d x y new own-source =
        record {
          since = omega (arith, inv.since);
          within = omega arith;
          bits = ap₂ bit_or inv.bits (one_shl (c % 64) (omega arith))
              ∙ sym (word-add-same before word (c % 64) (omega arith))
              ∙ word-ext (λ i. before i || eqb (64 * word + c % 64) i) (λ i. is_in i (slice from (e + 1) cols)) 64 (64 * word)
              (λ i a b. ap (λ (x : ℕ). before i || eqb x i) own ∙ sym (in-behind i from e cols inv.since (omega arith)));
          here = λ j a b. at_turn j a (eq-or-ne j e) b;
          pairs = ap (λ (k : ℕ). pairs + k) new ∙ pairs_next inside bits (c % 64) pairs fits (omega arith) inv.pairs;
          sources = ap (λ (k : ℕ). sources + k) own-source ∙ count_next (λ i. bit_at inside (get_or cols i 0 % 64)) from e sources (bit_at inside (c % 64)) inv.since refl inv.sources;
        }
      where
        before : ℕ → Bool
        before = λ i. is_in i (slice from e cols)

        own : 64 * word + c % 64 ≡ c
        own = omega (arith, d)

        fits : bits < 2 ^ 64
        fits = subst (λ (x : ℕ). x < 2 ^ 64) (sym inv.bits) (word_lt before 64 (64 * word))

        at_turn : (j : ℕ) → from ≤ j → (j ≡ e) ⊎ (j ≡ e → ⊥) → j < e + 1 → get_or cols j 0 / 64 ≡ word
        at_turn j a (inl s) b = ap (λ (x : ℕ). get_or cols x 0 / 64) s ∙ d
        at_turn j a (inr s) b = inv.here j a (omega (arith, s))

  -- one entry alone
  pub run-single : to ≤ length cols → from < to → get_or cols from 0 / 64 ≡ word
      → RunOf cols from to word inside (up_to ((1 * 2 ^ (get_or cols from 0 % 64)) % 2 ^ 64) (from + 1) (one_if (bit_at inside (get_or cols from 0 % 64))) (one_if (bit_at inside (get_or cols from 0 % 64))))
  run-single hc l d =
      subst (λ (k : ℕ). RunOf cols from to word inside (up_to ((1 * 2 ^ b) % 2 ^ 64) (from + 1) k k)) (zero-add (one_if (bit_at inside b)))
      (run-turn 0 from 0 0 (run-start (omega arith)) hc l d _ _ (ap one_if all) refl)
    where
      b : ℕ
      b = get_or cols from 0 % 64

      whole : (t : Bool) → (t && true) ≡ t
      whole true = refl
      whole false = refl

      -- no bit was taken before it
      all : bit_at inside b ≡ bit_at (bit_and inside (2 ^ 64 - 1 - 0)) b
      all = sym (bit-and inside (2 ^ 64 - 1 - 0) b ∙ ap (λ (t : Bool). bit_at inside b && t) (bit_not 64 0 b (omega arith) (omega arith) ∙ ap not (zero_bit b)) ∙ whole (bit_at inside b))

-- ---- the row's words against its runs

module _ (idx masks cols : List ℕ) (from first : ℕ) where
  -- the words before k hold the columns of the entries before e
  pub record Matching (end k e : ℕ) : Type 0 where
    pub after : first ≤ e
    pub inside : e ≤ end
    pub same : (c : ℕ) → row_holds idx masks from k c ≡ is_in c (slice first e cols)

  pub same_start : (end : ℕ) → from ≤ length idx → from ≤ length masks → first ≤ end → Matching end from first
  same_start end hi hm f = record { after = omega arith; inside = f; same = λ c. holds-none idx masks from c hi hm ∙ sym (in-empty c first cols) }

  pub same_turn : (to end k e : ℕ) → from ≤ k → to ≤ length idx → to ≤ length masks → Rising idx from to → end ≤ length cols → Matching end k e → k < to
      → (inside : ℕ) (run : Run) → RunOf cols e end (get_or idx k 0) inside run → run.bits ≡ get_or masks k 0 → Matching end (k + 1) run.end
  same_turn to end k e h hi hm ris hc inv l inside run o eq =
      record {
        after = omega (arith, inv.after, o.since);
        inside = o.within;
        same = λ c. holds-next idx masks from k h (omega arith) (omega arith) (λ i j a b d. ris i j a b (omega arith)) c
            ∙ ap₂ ◌||◌ (inv.same c) (sym (own c (eq-or-ne (c / 64) w)))
            ∙ sym (in_parts c first e run.end cols inv.after o.since (omega (arith, o.within)));
      }
    where
      w : ℕ
      w = get_or idx k 0

      m : ℕ
      m = get_or masks k 0

      p : ℕ → Bool
      p = λ c. is_in c (slice e run.end cols)

      own : (c : ℕ) → (c / 64 ≡ w) ⊎ (c / 64 ≡ w → ⊥) → p c ≡ (eqb (c / 64) w && bit_at m (c % 64))
      own c (inl d) =
          let s : 64 * w + c % 64 ≡ c = omega (arith, d) in
          sym (ap (λ (t : Bool). t && bit_at m (c % 64)) (eq-eqb (c / 64) w d)
          ∙ ap (λ (x : ℕ). bit_at x (c % 64)) (sym eq ∙ o.bits)
          ∙ bit_word p 64 (64 * w) (c % 64) (omega arith) ∙ ap p s)
      own c (inr ne) = T_false (p c) none ∙ sym (ap (λ (t : Bool). t && bit_at m (c % 64)) (ne_eqb (c / 64) w ne))
        where
          none : T (p c) → ⊥
          none t =
              let r : (j : ℕ) × (e ≤ j) × (j < run.end) × (get_or cols j 0 ≡ c) = in-slice-where c e run.end cols (omega (arith, o.within)) t in
              ne (ap (λ (x : ℕ). x / 64) (sym r.3) ∙ o.here r.0 r.1 r.2)

-- ---- what those words and entries hold inside the region

module _ (idx masks region cols : List ℕ) (from first : ℕ) where
  -- entry i has its column inside
  abbrev held : ℕ → Bool
  held i = in_mask region (get_or cols i 0)

  -- the words before k and the entries before e are matched and counted
  pub record Following (end k e pairs sources : ℕ) : Type 0 where
    pub match : Matching idx masks cols from first end k e
    pub by_pairs : pairs ≡ kept_in idx masks region from k
    pub by_sources : sources ≡ counted held first e

  pub follow_start : (end : ℕ) → Matching idx masks cols from first end from first → Following end from first 0 0
  follow_start end m = record { match = m; by_pairs = sym (kept-none idx masks region from); by_sources = count-start held first }

  module _ (end k e pairs sources : ℕ) (inv : Following end k e pairs sources) (run : Run) (o : RunOf cols e end (get_or idx k 0) (get_or region (get_or idx k 0) 0) run) where
    -- a run's sources lie in its word of the region
    run_sources : run.sources ≡ count_below (run.end - e) (λ j. held (e + j))
    unfolding in_mask
    run_sources =
        o.sources
        ∙ count-cong (run.end - e) (λ j. bit_at (get_or region (get_or idx k 0) 0) (get_or cols (e + j) 0 % 64)) (λ j. held (e + j))
        (λ j l. ap (λ (w : ℕ). bit_at (get_or region w 0) (get_or cols (e + j) 0 % 64)) (sym (o.here (e + j) (omega arith) (omega arith))))

    pub pairs_fit : pairs + run.pairs ≤ 64 * (k + 1)
    pairs_fit = omega (arith, inv.by_pairs, kept-le idx masks region from k, o.pairs, count-le 64 (bit_at (bit_and run.bits (get_or region (get_or idx k 0) 0))))

    pub sources_fit : sources + run.sources ≤ run.end
    sources_fit =
        omega (
          arith,
          inv.by_sources,
          inv.match.after,
          count-le (e - first) (λ j. held (first + j)),
          o.since,
          o.sources,
          count-le (run.end - e) (λ j. bit_at (get_or region (get_or idx k 0) 0) (get_or cols (e + j) 0 % 64)),
        )

    pub follow_turn : from ≤ k → run.bits ≡ get_or masks k 0 → Matching idx masks cols from first end (k + 1) run.end → Following end (k + 1) run.end (pairs + run.pairs) (sources + run.sources)
    follow_turn h eq m =
        record {
          match = m;
          by_pairs = ap₂ ◌+◌ inv.by_pairs (o.pairs ∙ ap (λ (x : ℕ). count_below 64 (bit_at (bit_and x (get_or region (get_or idx k 0) 0)))) eq) ∙ sym (kept_next idx masks region from k h);
          by_sources = count-more held first e run.end sources run.sources inv.match.after o.since inv.by_sources run_sources;
        }

  -- the first i words and entries, one each; what differs is collected in `other`
  pub record Singly (end i other sources : ℕ) : Type 0 where
    pub by_sources : sources ≡ counted held first (first + i)
    pub alike : other ≡ 0 → Following end (from + i) (first + i) sources sources

  pub single_start : (end : ℕ) → Matching idx masks cols from first end from first → Singly end 0 0 0
  single_start end m = record { by_sources = rw add-zero (count-start held first); alike = λ z. rw (add-zero from, add-zero first) (follow_start end m) }

  module _ (end i other sources : ℕ) (inv : Singly end i other sources) (l : first + i < end) where
    abbrev column : ℕ
    column = get_or cols (first + i) 0

    -- entry i is inside, as a number
    abbrev one : ℕ
    one = one_if (in_mask region column)

    abbrev differs : ℕ
    differs = bit_or (bit_xor (get_or idx (from + i) 0) (column / 64)) (bit_xor (get_or masks (from + i) 0) ((1 * 2 ^ (column % 64)) % 2 ^ 64))

    pub single_few : sources ≤ i
    single_few = omega (arith, inv.by_sources, count-le (first + i - first) (λ j. held (first + j)))

    single_counts : sources + one ≡ counted held first (first + i + 1)
    unfolding in_mask
    single_counts = count_next held first (first + i) sources (held (first + i)) (omega arith) refl inv.by_sources

    pub single_turn : (to : ℕ) → from + i < to → to ≤ length idx → to ≤ length masks → Rising idx from to → end ≤ length cols → (x : ℕ) → x ≡ one → Singly end (i + 1) (bit_or other differs) (sources + x)
    unfolding in_mask
    single_turn to below hi hm ris hc x own =
        subst (λ (k : ℕ). Singly end (i + 1) (bit_or other differs) (sources + k)) (sym own) (record {
          by_sources = subst (λ (e : ℕ). sources + one ≡ counted held first e) entry single_counts;
          alike = λ z. subst (λ (k : ℕ). Following end k (first + (i + 1)) (sources + one) (sources + one)) word (subst (λ (e : ℕ). Following end (from + i + 1) e (sources + one) (sources + one)) entry (turn z));
        })
      where
        word : from + i + 1 ≡ from + (i + 1)
        word = omega arith

        entry : first + i + 1 ≡ first + (i + 1)
        entry = omega arith

        turn : bit_or other differs ≡ 0 → Following end (from + i + 1) (first + i + 1) (sources + one) (sources + one)
        turn z =
            let o = or-none other differs z in
            let d = or-none (bit_xor (get_or idx (from + i) 0) (column / 64)) (bit_xor (get_or masks (from + i) 0) ((1 * 2 ^ (column % 64)) % 2 ^ 64)) o.1 in
            let w : get_or idx (from + i) 0 ≡ column / 64 = xor_same _ _ d.0 in
            let m : get_or masks (from + i) 0 ≡ (1 * 2 ^ (column % 64)) % 2 ^ 64 = xor_same _ _ d.1 in
            let run = subst (λ (v : ℕ). RunOf cols (first + i) end v (get_or region v 0) (up_to cols (first + i) end v (get_or region v 0) ((1 * 2 ^ (column % 64)) % 2 ^ 64) (first + i + 1) one one)) (sym w) (run-single cols (first + i) end (column / 64) (get_or region (column / 64) 0) hc l refl) in
            follow_turn end (from + i) (first + i) sources sources (inv.alike o.0) _ run (omega arith) (sym m) (same_turn idx masks cols from first to end (from + i) (first + i) (omega arith) hi hm ris hc (inv.alike o.0).match below _ _ run (sym m))

-- ---- a row's words and entries, all followed
pub follow-last : (n : ℕ) (word_ptr idx masks ptr cols region : List ℕ) (r : ℕ) → IsSide n n word_ptr idx masks → IsMask n region → r < n
    → (k e pairs sources : ℕ) → k ≡ get_or word_ptr (r + 1) 0 → e ≡ get_or ptr (r + 1) 0
    → Following idx masks region cols (get_or word_ptr r 0) (get_or ptr r 0) (get_or ptr (r + 1) 0) k e pairs sources
    → Followed n (in_mask region) (side_holds word_ptr idx masks) ptr cols r (Some (record { pairs = pairs; sources = sources }))
unfolding stored
follow-last n word_ptr idx masks ptr cols region r side mask h k e pairs sources l q inv counts told = (
  λ c v. ap (λ (x : ℕ). row_holds idx masks (get_or word_ptr r 0) x c) (sym l) ∙ inv.match.same c ∙ ap (λ (x : ℕ). is_in c (slice (get_or ptr r 0) x cols)) q,
  sym (same_Some _ counts told)
      ∙ ap₂ (λ (a b : ℕ). record { pairs = a; sources = b })
      (inv.by_pairs ∙ ap (kept_in idx masks region (get_or word_ptr r 0)) l ∙ sym (row_kept n word_ptr idx masks region side mask r h))
      (inv.by_sources ∙ ap (counted (λ i. in_mask region (get_or cols i 0)) (get_or ptr r 0)) q),
)
