-- A run by arrays is a list of growths of demand 3: what it answers and leaves is what the list has come to, and the claim holds of it. Assumes
-- nothing.
use mathlib.Core.Path.{◌≡◌, refl, sym, ap, ap₂, ◌∙◌, subst}
use Rattle.std.specs.Prelude.{Ok, Err}
use Rattle.base.specs.Checks.{Check}
use Rattle.base.specs.declared.Refusal.TheVariants.{ListTooShort}
use mathlib.Core.Bool.{Bool, true, false, cond}
use mathlib.Core.List.{List, [], ◌∷◌, ◌++◌}
use Prim.Native.Nat.{ℕ, zero, suc, ◌+◌, ◌^◌, ◌≤◌, ◌<◌, min}
use native.Mathlib.Nat.{le_refl}
use native.Mathlib.Omega.{arith}
use lib.Ieee.{Float}
use lib.ListN.{length, get_or}
use Rattle.base.specs.Checks.{leaves}
use Rattle.base.specs.Lists.{list_from}
use Rattle.base.specs.Sets.{one_if}
use Rattle.base.specs.declared.Refusal.{Refusal}
use Rattle.base.proofs.Lists.{list_from-append}
use Rattle.base.proofs.Sets.{sum-zero}
use Rattle.mask.specs.Mask.{words_needed, length_check}
use Rattle.csr32.specs.Matrix.{matrix_check, stored}
use Rattle.dof_layout.specs.Answers.{square_check}
use Rattle.side.specs.Side.{side_holds}
use Rattle.dual_topology.specs.Check.{topology_check}
use Rattle.dual_topology.proofs.Accepted.{accepted-topology}
use Rattle.graph.specs.Network.{region_words, frontier_words}
use Rattle.graph.proofs.Networks.{region-cap, frontier-cap}
use Rattle.growth.specs.Lent.{masks_room}
use Rattle.numeric_plan.proofs.Binding.{bound}
use Rattle.growths.specs.Runs.{largest, Growth, Ground, plain_ground, field_ground, Run, begun, check_of, region_of, frontier_of, grown, run}
use Rattle.claims.specs.Demand.{CutSystem, Accepts, Kind, Claim, topology_of, pairs_of, held}
use Rattle.growths.specs.Counts.{takes, accepted_in, total_in, last_in, ran_of, seeds_after}
use Rattle.claims.specs.Cutting.{system_of}
use Rattle.claims.specs.Run.{sided_topology, arrays_check, run_check, field_run_check, ran_by}
use Rattle.growths.specs.declared.Ran.{Ran}
use Rattle.growths.proofs.Runs.{holds_run}
use Rattle.growths.proofs.Grounds.{Solid, run-accepted}
use Rattle.claims.proofs.Grounds.{solid}
use Rattle.claims.proofs.Demand.{demand-3}
use Rattle.growths.proofs.Growing.{accepted-next, total-next, last-next, room-enough, room-short, some, no_more}
use Rattle.claims.proofs.Checking.{accepted-sides, accepted-arrays, accepted-run, accepted-field-run}

-- growth i goes by hops[i] and is lent three lists of rooms[i] words, as far as the shortest reaches; what they hold is left open
pub record Lent (hops rooms : List ℕ) (shortest : ℕ) (growth : ℕ → Growth) : Type 0 where
  pub by : (i : ℕ) → i < length hops → (growth i).hops ≡ get_or hops i 0
  pub region_lent : (i : ℕ) → i < length hops → length (growth i).region ≡ min (get_or rooms i 0) shortest
  pub frontier_lent : (i : ℕ) → i < length hops → length (growth i).frontier ≡ min (get_or rooms i 0) shortest
  pub scratch_lent : (i : ℕ) → i < length hops → length (growth i).scratch ≡ min (get_or rooms i 0) shortest

-- what a list of growths has come to is what a run says; a total past 64 bits is the largest
pub record Comes (k : Ground) (first : List ℕ) (ran : Ran) (st : Run) : Type 0 where
  pub accepted : st.accepted ≡ ran.accepted
  pub total : min st.total largest ≡ ran.total
  pub last : st.last ≡ ran.last
  pub seeds : st.seeds ≡ seeds_after k.network ran first
  pub frontier : 1 ≤ ran.accepted → 1 ≤ ran.last → st.frontier ≡ frontier_words k.network first ran.total

-- ---- one growth more

run-append : (k : Ground) (st : Run) (xs ys : List Growth) → run k st (xs ++ ys) ≡ run k (run k st xs) ys
unfolding run
run-append k st [] ys = refl
run-append k st (x ∷ xs) ys = run-append k (grown k st x) xs ys

module _ (k : Ground) (st : Run) (c : Growth) where
  abbrev more : Run
  more = record { seeds = region_of k st.seeds c; frontier = frontier_of k st.seeds c; total = st.total + c.hops; last = c.hops; accepted = st.accepted + 1 }

  took : check_of k st.seeds c ≡ Ok tt → grown k st c ≡ more
  unfolding grown
  took e = ap (λ (t : Check). leaves t more st) e

  stayed : (r : Refusal) → check_of k st.seeds c ≡ Err r → grown k st c ≡ st
  unfolding grown
  stayed r e = ap (λ (t : Check). leaves t more st) e

record Counts (needed : ℕ) (hops rooms : List ℕ) (shortest m : ℕ) (st : Run) : Type 0 where
  pub accepted : st.accepted ≡ accepted_in needed rooms shortest m
  pub total : st.total ≡ total_in needed hops rooms shortest m
  pub last : st.last ≡ last_in needed hops rooms shortest m

module _ (side len : ℕ) (k : Ground) (s : Solid side len k) (first : List ℕ) (ok : length_check side len first ≡ Ok tt) (hops rooms : List ℕ) (shortest : ℕ) (growth : ℕ → Growth) (lent : Lent hops rooms shortest growth) where
  abbrev after : ℕ → Run
  after m = run k (begun first) (list_from growth m 0)

  after_next : (m : ℕ) → after (m + 1) ≡ grown k (after m) (growth m)
  unfolding run list_from
  after_next m =
      let z : 0 + m ≡ m = omega arith in
      ap (run k (begun first)) (list_from-append growth m 1 0) ∙ run-append k (begun first) (list_from growth m 0) (list_from growth 1 (0 + m)) ∙ ap (λ (i : ℕ). grown k (after m) (growth i)) z

  room_is : (m : ℕ) → m < length hops → check_of k (after m).seeds (growth m) ≡ masks_room side (min (get_or rooms m 0) shortest) (min (get_or rooms m 0) shortest) (min (get_or rooms m 0) shortest)
  room_is m l =
      s.room (after m).seeds (run-accepted side len k s first ok (list_from growth m 0)) (growth m)
      ∙ ap₂ (λ (a b : ℕ). masks_room side a b (length (growth m).scratch)) (lent.region_lent m l) (lent.frontier_lent m l)
      ∙ ap (masks_room side (min (get_or rooms m 0) shortest) (min (get_or rooms m 0) shortest)) (lent.scratch_lent m l)

  counts-next : (m : ℕ) → m < length hops → Counts (words_needed side) hops rooms shortest m (after m) → Counts (words_needed side) hops rooms shortest (m + 1) (after (m + 1))
  counts-next m l c = go (takes (words_needed side) rooms shortest m) refl
    where
      go : (b : Bool) → takes (words_needed side) rooms shortest m ≡ b → Counts (words_needed side) hops rooms shortest (m + 1) (after (m + 1))
      go true e =
          let g : after (m + 1) ≡ more k (after m) (growth m) = after_next m ∙ took k (after m) (growth m) (room_is m l ∙ room-enough side _ e) in
          record {
            accepted = ap (λ (r : Run). r.accepted) g ∙ ap (λ (n : ℕ). n + 1) c.accepted
                ∙ sym (accepted-next (words_needed side) hops rooms shortest m ∙ ap (λ (b : Bool). accepted_in (words_needed side) rooms shortest m + one_if b) e);
            total = ap (λ (r : Run). r.total) g ∙ ap₂ ◌+◌ c.total (lent.by m l)
                ∙ sym (total-next (words_needed side) hops rooms shortest m ∙ ap (λ (b : Bool). total_in (words_needed side) hops rooms shortest m + cond b (get_or hops m 0) 0) e);
            last = ap (λ (r : Run). r.last) g ∙ lent.by m l
                ∙ sym (last-next (words_needed side) hops rooms shortest m ∙ ap (λ (b : Bool). cond b (get_or hops m 0) (last_in (words_needed side) hops rooms shortest m)) e);
          }
      go false e =
          let g : after (m + 1) ≡ after m = after_next m ∙ stayed k (after m) (growth m) ListTooShort (room_is m l ∙ room-short side _ e) in
          let a : accepted_in (words_needed side) rooms shortest (m + 1) ≡ accepted_in (words_needed side) rooms shortest m + 0 = accepted-next (words_needed side) hops rooms shortest m ∙ ap (λ (b : Bool). accepted_in (words_needed side) rooms shortest m + one_if b) e in
          let t : total_in (words_needed side) hops rooms shortest (m + 1) ≡ total_in (words_needed side) hops rooms shortest m + 0 = total-next (words_needed side) hops rooms shortest m ∙ ap (λ (b : Bool). total_in (words_needed side) hops rooms shortest m + cond b (get_or hops m 0) 0) e in
          record {
            accepted = omega (arith, ap (λ (r : Run). r.accepted) g, c.accepted, a);
            total = omega (arith, ap (λ (r : Run). r.total) g, c.total, t);
            last = ap (λ (r : Run). r.last) g ∙ c.last ∙ sym (last-next (words_needed side) hops rooms shortest m ∙ ap (λ (b : Bool). cond b (get_or hops m 0) (last_in (words_needed side) hops rooms shortest m)) e);
          }

  counts : (m : ℕ) → m ≤ length hops → Counts (words_needed side) hops rooms shortest m (after m)
  unfolding run list_from last_in
  counts zero l = record { accepted = sym (sum-zero _); total = sym (sum-zero _); last = refl }
  counts (suc m) l =
      let one : m + 1 ≡ suc m = omega arith in
      subst (λ (n : ℕ). Counts (words_needed side) hops rooms shortest n (after n)) one (counts-next m (omega arith) (counts m (omega arith)))

  pub comes : (m : ℕ) → m ≤ length hops → Comes k first (ran_of (words_needed side) hops rooms shortest m) (after m)
  comes m l =
      let c = counts m l in
      let h = holds_run k first (list_from growth m 0) in
      let t : min (after m).total largest ≡ min (total_in (words_needed side) hops rooms shortest m) largest = ap (λ (n : ℕ). min n largest) c.total in
      record {
        accepted = c.accepted;
        total = t;
        last = c.last;
        seeds = renewed t (after m).accepted refl;
        frontier = λ a b. h.frontier (omega (arith, c.accepted)) (omega (arith, c.last)) ∙ frontier-cap k.network s.whole largest s.few first (after m).total ∙ ap (frontier_words k.network first) t;
      }
    where
      renewed : min (after m).total largest ≡ min (total_in (words_needed side) hops rooms shortest m) largest → (n : ℕ) → (after m).accepted ≡ n → (after m).seeds ≡ seeds_after k.network (ran_of (words_needed side) hops rooms shortest m) first
      renewed t zero e =
          (holds_run k first (list_from growth m 0)).before e ∙ sym (no_more (accepted_in (words_needed side) rooms shortest m) _ _ (sym (counts m l).accepted ∙ e))
      renewed t (suc n) e =
          let a : 1 ≤ accepted_in (words_needed side) rooms shortest m = omega (arith, (counts m l).accepted, e) in
          (holds_run k first (list_from growth m 0)).region (omega arith) ∙ region-cap k.network s.whole largest s.few first (after m).total ∙ ap (region_words k.network first) t ∙ sym (some (accepted_in (words_needed side) rooms shortest m) _ _ a)

-- ---- the claim, of what a call ran

-- of every list of growths that the arrays can stand for: demand 3, and what it has come to is what the call says
pub record Speaks (S : CutSystem) (k : Ground) (ran : Ran) (cs : List Growth) : Type 0 where
  pub claim : Claim S k cs
  pub comes : Comes k S.seeds ran (held S k cs)

module _ (nrows ncols : ℕ) (ptr idx masks : List ℕ) (pairs nrows2 ncols2 : ℕ) (ptr2 idx2 masks2 : List ℕ) (pairs2 rows cols : ℕ) (row_ptr col-idx : List ℕ) (values : List Float) (len : ℕ) (seeds hops rooms : List ℕ)
    (row_bits : (w : ℕ) → get_or masks w 0 < 2 ^ 64) (column_bits : (w : ℕ) → get_or masks2 w 0 < 2 ^ 64) (seed_bits : (w : ℕ) → get_or seeds w 0 < 2 ^ 64) where
  abbrev matrix : Check
  matrix = matrix_check rows cols row_ptr col-idx values

  abbrev topology : Check
  topology = topology_check nrows ncols ptr idx masks pairs nrows2 ncols2 ptr2 idx2 masks2 pairs2

  abbrev S : CutSystem
  S = system_of nrows row_ptr col-idx values ptr idx masks pairs ptr2 idx2 masks2 pairs2 len seeds

  abbrev sides : Check
  sides = sided_topology topology nrows ncols rows cols

  abbrev arrays : Check
  arrays = arrays_check nrows len seeds (side_holds ptr idx masks) (stored row_ptr col-idx) hops rooms

  accepts : matrix ≡ Ok tt → sides ≡ Ok tt → arrays ≡ Ok tt → Accepts S
  accepts m t a =
      let b = accepted-sides topology nrows ncols rows cols t in
      let d = accepted-arrays nrows len seeds (side_holds ptr idx masks) (stored row_ptr col-idx) hops rooms a in
      let q = accepted-topology nrows ncols ptr idx masks pairs nrows2 ncols2 ptr2 idx2 masks2 pairs2 row_bits column_bits b.topology_ok in
      record {
        matrix = ap₂ (λ (x y : ℕ). matrix_check x y row_ptr col-idx values) b.as_rows b.as_cols ∙ m;
        topology =
            ap₂ (λ (x y : ℕ). topology_check nrows x ptr idx masks pairs y nrows ptr2 idx2 masks2 pairs2) b.square (b.square ∙ sym q.as_rows)
            ∙ ap (λ (y : ℕ). topology_check nrows ncols ptr idx masks pairs nrows2 y ptr2 idx2 masks2 pairs2) (sym q.as_columns) ∙ b.topology_ok;
        same_pairs = λ r c h l. bound nrows (λ i. true) (side_holds ptr idx masks) (stored row_ptr col-idx) d.pairs r c h tt l tt;
        seeds = d.mask;
        row_bits = row_bits;
        column_bits = column_bits;
        seed_bits = seed_bits;
      }

  speaks : (a : Accepts S) (k : Ground) → Kind S k → (region frontier scratch : List ℕ) (growth : ℕ → Growth) → Lent hops rooms (min (length region) (min (length frontier) (length scratch))) growth
      → Speaks S k (ran_by nrows hops rooms region frontier scratch) (list_from growth (length hops) 0)
  speaks a k kind region frontier scratch growth lent =
      record {
        claim = demand-3 S a k kind (list_from growth (length hops) 0);
        comes = comes nrows len k (solid S a k kind) seeds a.seeds hops rooms (min (length region) (min (length frontier) (length scratch))) growth lent (length hops) (le_refl (length hops));
      }

  -- run_growths
  pub run-speaks : run_check matrix sides arrays ≡ Ok tt → (region frontier scratch : List ℕ) (growth : ℕ → Growth) → Lent hops rooms (min (length region) (min (length frontier) (length scratch))) growth
      → Speaks S (plain_ground (topology_of S) nrows (pairs_of S) len) (ran_by nrows hops rooms region frontier scratch) (list_from growth (length hops) 0)
  run-speaks e =
      let a = accepted-run matrix sides arrays e in
      speaks (accepts a.0 a.1 a.2) (plain_ground (topology_of S) nrows (pairs_of S) len) Kind.plain

  -- run_field_growths
  pub field-run-speaks : (kinds ids fields components offsets : List ℕ) → field_run_check matrix sides (square_check kinds ids fields components offsets nrows ncols) arrays ≡ Ok tt
      → (region frontier scratch : List ℕ) (growth : ℕ → Growth) → Lent hops rooms (min (length region) (min (length frontier) (length scratch))) growth
      → Speaks S (field_ground (topology_of S) (square_check kinds ids fields components offsets nrows nrows) components (pairs_of S) len) (ran_by nrows hops rooms region frontier scratch) (list_from growth (length hops) 0)
  field-run-speaks kinds ids fields components offsets e =
      let a = accepted-field-run matrix sides (square_check kinds ids fields components offsets nrows ncols) arrays e in
      let b = accepted-sides topology nrows ncols rows cols a.1 in
      speaks (accepts a.0 a.1 a.3) (field_ground (topology_of S) (square_check kinds ids fields components offsets nrows nrows) components (pairs_of S) len)
      (Kind.field kinds ids fields components offsets (ap (square_check kinds ids fields components offsets nrows) b.square ∙ a.2))
