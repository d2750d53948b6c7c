-- A list of growths comes to what one growth by the total does. Assumes nothing.
use mathlib.Core.Path.{◌≡◌, refl, sym, ap, ap₂, ◌∙◌, subst}
use Rattle.std.specs.Prelude.{Ok, Err}
use Rattle.base.specs.Checks.{Check}
use mathlib.Core.List.{List, [], ◌∷◌}
use Prim.Native.Nat.{ℕ, zero, suc, ◌+◌, ◌≤◌, min}
use native.Mathlib.Omega.{arith}
use lib.ListN.{length, drop}
use lib.Seq.{take_at}
use Rattle.base.specs.Checks.{leaves}
use Rattle.base.specs.Lists.{over}
use Rattle.base.specs.declared.Refusal.{Refusal}
use Rattle.mask.specs.Mask.{words_needed}
use Rattle.graph.specs.Network.{Network, Whole, region_words, frontier_words}
use Rattle.graph.proofs.Networks.{regrow-region, regrow-frontier, region-cap, frontier-cap}
use Rattle.growth.proofs.Lent.{region-length, frontier-length}
use Rattle.growths.specs.Runs.{largest, Growth, Ground, Run, begun, own, check_of, region_of, frontier_of, grown, run}

module _ (k : Ground) where
  abbrev g : Network
  g = k.network

  own-over : (words lent : List ℕ) → length words ≡ words_needed g.nodes → own k (over words lent) ≡ words
  own-over words lent e = take_at words (drop (length words) lent) (words_needed g.nodes) e

  -- the masks that an accepted growth leaves
  pub region-left : (seeds : List ℕ) (c : Growth) → check_of k seeds c ≡ Ok tt → region_of k seeds c ≡ region_words g seeds c.hops
  region-left seeds c e =
      ap (λ (t : Check). own k (leaves t (over (region_words g seeds c.hops) c.region) c.region)) e
      ∙ own-over (region_words g seeds c.hops) c.region (region-length g seeds c.hops)

  pub frontier-left : (seeds : List ℕ) (c : Growth) → check_of k seeds c ≡ Ok tt → frontier_of k seeds c ≡ frontier_words g seeds c.hops
  frontier-left seeds c e =
      ap (λ (t : Check). own k (leaves t (over (frontier_words g seeds c.hops) c.frontier) c.frontier)) e
      ∙ own-over (frontier_words g seeds c.hops) c.frontier (frontier-length g seeds c.hops)

  state : List ℕ → List ℕ → Run → Growth → Run
  state region frontier st c = record { seeds = region; frontier = frontier; total = st.total + c.hops; last = c.hops; accepted = st.accepted + 1 }

  went : Run → Growth → Run
  went st c = state (region_words g st.seeds c.hops) (frontier_words g st.seeds c.hops) st c

  grown-accepted : (st : Run) (c : Growth) → check_of k st.seeds c ≡ Ok tt → grown k st c ≡ went st c
  unfolding grown state went
  grown-accepted st c e =
      ap (λ (t : Check). leaves t (state (region_of k st.seeds c) (frontier_of k st.seeds c) st c) st) e
      ∙ ap₂ (λ (r f : List ℕ). state r f st c) (region-left st.seeds c e) (frontier-left st.seeds c e)

  grown-refused : (st : Run) (c : Growth) (r : Refusal) → check_of k st.seeds c ≡ Err r → grown k st c ≡ st
  unfolding grown state
  grown-refused st c r e = ap (λ (t : Check). leaves t (state (region_of k st.seeds c) (frontier_of k st.seeds c) st c) st) e

  -- what holds of a list of growths from the first seeds, all along
  pub record Holds (first : List ℕ) (st : Run) : Type 0 where
    pub before : st.accepted ≡ 0 → st.seeds ≡ first
    pub none : st.accepted ≡ 0 → st.total ≡ 0
    pub least : st.last ≤ st.total
    pub region : 1 ≤ st.accepted → st.seeds ≡ region_words g first st.total
    pub frontier : 1 ≤ st.accepted → 1 ≤ st.last → st.frontier ≡ frontier_words g first st.total

  holds_begun : (first : List ℕ) → Holds first (begun first)
  holds_begun first =
      record { before = λ e. refl; none = λ e. refl; least = omega arith; region = λ h. absurd (omega arith); frontier = λ h l. absurd (omega arith) }

  holds_went : (first : List ℕ) (st : Run) (c : Growth) → Holds first st → Holds first (went st c)
  unfolding went state
  holds_went first st c h =
      record { before = λ e. absurd (omega arith); none = λ e. absurd (omega arith); least = omega arith; region = λ a. region st.accepted refl; frontier = λ a l. frontier l st.accepted refl }
    where
      region : (n : ℕ) → st.accepted ≡ n → region_words g st.seeds c.hops ≡ region_words g first (st.total + c.hops)
      region zero e =
          let t : c.hops ≡ st.total + c.hops = omega (arith, h.none e) in
          ap₂ (λ (s : List ℕ) (n : ℕ). region_words g s n) (h.before e) t
      region (suc n) e =
          let t : c.hops + st.total ≡ st.total + c.hops = omega arith in
          ap (λ (s : List ℕ). region_words g s c.hops) (h.region (omega arith)) ∙ regrow-region g first st.total c.hops ∙ ap (λ (n : ℕ). region_words g first n) t

      frontier : 1 ≤ c.hops → (n : ℕ) → st.accepted ≡ n → frontier_words g st.seeds c.hops ≡ frontier_words g first (st.total + c.hops)
      frontier l zero e =
          let t : c.hops ≡ st.total + c.hops = omega (arith, h.none e) in
          ap₂ (λ (s : List ℕ) (n : ℕ). frontier_words g s n) (h.before e) t
      frontier l (suc n) e =
          let t : c.hops + st.total ≡ st.total + c.hops = omega arith in
          ap (λ (s : List ℕ). frontier_words g s c.hops) (h.region (omega arith)) ∙ regrow-frontier g first st.total c.hops l ∙ ap (λ (n : ℕ). frontier_words g first n) t

  pub holds_grown : (first : List ℕ) (st : Run) (c : Growth) → Holds first st → Holds first (grown k st c)
  holds_grown first st c h = go (check_of k st.seeds c) refl
    where
      go : (t : Check) → check_of k st.seeds c ≡ t → Holds first (grown k st c)
      go (Ok tt) e = subst (Holds first) (sym (grown-accepted st c e)) (holds_went first st c h)
      go (Err r) e = subst (Holds first) (sym (grown-refused st c r e)) h

  holds_from : (first : List ℕ) (st : Run) (cs : List Growth) → Holds first st → Holds first (run k st cs)
  unfolding run
  holds_from first st [] h = h
  holds_from first st (c ∷ cs) h = holds_from first (grown k st c) cs (holds_grown first st c h)

  pub holds_run : (first : List ℕ) (cs : List Growth) → Holds first (run k (begun first) cs)
  holds_run first cs = holds_from first (begun first) cs (holds_begun first)

  -- one accepted growth by the total, or by the largest count, leaves what the list has come to
  module _ (whole : Whole g) (few : g.blocks ≤ largest) (first : List ℕ) (cs : List Growth) (d : Growth) (some : 1 ≤ (run k (begun first) cs).accepted) (by_total : d.hops ≡ min (run k (begun first) cs).total largest)
      (fits : check_of k first d ≡ Ok tt) where
    abbrev st : Run
    st = run k (begun first) cs

    pub same_region : st.seeds ≡ region_of k first d
    same_region =
        (holds_run first cs).region some
        ∙ region-cap g whole largest few first st.total
        ∙ ap (λ (n : ℕ). region_words g first n) (sym by_total)
        ∙ sym (region-left first d fits)

    pub same_frontier : 1 ≤ st.last → st.frontier ≡ frontier_of k first d
    same_frontier l =
        (holds_run first cs).frontier some l
        ∙ frontier-cap g whole largest few first st.total
        ∙ ap (λ (n : ℕ). frontier_words g first n) (sym by_total)
        ∙ sym (frontier-left first d fits)
