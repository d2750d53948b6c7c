-- The region that a list of growths has come to, its pattern, its plan and its gathered values. Assumes nothing.
use mathlib.Core.Path.{◌≡◌, refl, sym, ap, ap₂, ◌∙◌, subst}
use Rattle.std.specs.Prelude.{Ok}
use Rattle.base.specs.Checks.{Check}
use Rattle.base.specs.declared.Refusal.TheVariants.{ListTooShort}
use mathlib.Core.Bool.{Bool, true, false, cond}
use mathlib.Core.List.{List, map}
use mathlib.Core.Logic.{◌↔◌}
use Prim.Native.Nat.{ℕ, ◌+◌, ◌≤◌, ◌<◌}
use native.Mathlib.Omega.{arith}
use borrow.Author.Tests.{eq-eqb, le-leb}
use lib.Dec.{T, leb}
use lib.Ieee.{Float, nan}
use lib.ListN.{length, get_or, take, drop}
use lib.Seq.{take_at}
use Rattle.base.specs.Checks.{must, ◌then◌, leaves, entry_limit}
use Rattle.base.specs.Lists.{over}
use Rattle.base.specs.Sets.{count_below}
use Rattle.base.proofs.Checks.{then_next, checks-all, pass, last-pass, length-pass}
use Rattle.base.proofs.Sets.{members-at, count-members}
use Rattle.csr32.specs.Matrix.{IsMatrix}
use Rattle.csr32.proofs.Matrix.{accepted}
use Rattle.mask.specs.Mask.{in_mask, length_check}
use Rattle.mask.proofs.Masks.{mask-holds}
use Rattle.graph.specs.Distance.{within, exactly, Within, Distance}
use Rattle.graph.specs.Network.{Network, linked, seeded, frontier_words}
use Rattle.graph.proofs.Distances.{within-iff, distance-iff}
use Rattle.graph.proofs.Networks.{region-at}
use Rattle.pattern.specs.Pattern.{member_at, pattern_room, pairs_inside, region_check, pattern_check}
use Rattle.binding.specs.Binding.{binding_check}
use Rattle.binding.proofs.Rows.{row-agrees}
use Rattle.gather.specs.Gather.{sum_of, gathered, gather_check}
use Rattle.gather.specs.Plan.{plan_sources, plan_ptr, direct}
use Rattle.gather.proofs.Plans.{pointers-length, gathered-lists}
use Rattle.numeric_plan.specs.Plan.{sides_check, plan_inputs, plan_room, plan_check}
use Rattle.numeric_plan.proofs.Pairs.{lists_length}
use Rattle.numeric_plan.proofs.Plans.{plan-gathers}
use Rattle.growths.specs.Runs.{Growth, Ground}
use Rattle.claims.specs.Demand.{CutSystem, Accepts, Kind, Values, matrix_of, topology_of, pairs_of, entries_stored, pattern_of, plan_of, planned, gather_of, entries, value_of, held, Complete}
use Rattle.growths.proofs.Runs.{holds_run}
use Rattle.claims.proofs.Grounds.{solid, seeds-accepted}
use Rattle.claims.proofs.Pairs.{listed-pairs}

-- ---- 23 and 24 refuse no topology that has the matrix's pairs

binding-accepted : (n : ℕ) (p : ℕ → Bool) (s t : ℕ → ℕ → Bool) → ((r c : ℕ) → r < n → c < n → s r c ≡ t r c) → binding_check n p s t ≡ Ok tt
unfolding binding_check
binding-accepted n p s t same =
    checks-all (count_below n p) _ (λ k l. let m = member k l in
    row-agrees n p (s (member_at n p k)) (t (member_at n p k)) (λ c h. same (member_at n p k) c m h))
  where
    member : (k : ℕ) → k < count_below n p → member_at n p k < n
    member k l = omega (arith, members-at p 0 n k (omega (arith, count-members n p)))

-- ---- the three calls

module _ (S : CutSystem) (a : Accepts S) (region : List ℕ) (mask : length_check S.side S.len region ≡ Ok tt) where
  abbrev n : ℕ
  n = S.side

  abbrev p : ℕ → Bool
  p = in_mask region

  matrix : IsMatrix n n S.row_ptr S.col_idx
  matrix = (accepted n n S.row_ptr S.col_idx S.values a.matrix).matrix

  binds : binding_check n p (pairs_of S) (entries_stored S) ≡ Ok tt
  binds = binding-accepted n p (pairs_of S) (entries_stored S) a.same_pairs

  region-passes : (topology : Check) → topology ≡ Ok tt → region_check topology n n S.len region ≡ Ok tt
  unfolding region_check
  region-passes topology t = then_next _ _ (then_next _ _ t ∙ sym (last-pass _ _ _ (eq-eqb n n refl) refl)) ∙ mask

  pub pattern_fits : (nodes ptr cols : List ℕ) → pattern_of S region nodes ptr cols ≡ pattern_room n p (pairs_of S) nodes ptr cols
  unfolding pattern_check
  pattern_fits nodes ptr cols = then_next _ _ (region-passes (topology_of S) a.topology)

  inputs : plan_inputs (matrix_of S) (topology_of S) n n n n S.len region (pairs_of S) (entries_stored S) ≡ Ok tt
  unfolding plan_inputs sides_check
  inputs =
      then_next _ _ a.matrix
      ∙ then_next _ _ (region-passes _ (then_next _ _ a.topology ∙ sym (pass _ _ _ _ (eq-eqb n n refl) refl) ∙ sym (last-pass _ _ _ (eq-eqb n n refl) refl)))
      ∙ binds

  pub plan_fits : (nodes ptr cols source_ptr sources : List ℕ)
      → plan_of S region nodes ptr cols source_ptr sources ≡ (pattern_room n p (pairs_of S) nodes ptr cols then plan_room (entries S region) source_ptr sources)
  unfolding plan_check
  plan_fits nodes ptr cols source_ptr sources = then_next _ _ inputs

  -- what an accepted plan leaves is handed on with exactly its own numbers
  own-part : {A : Type 0} (check : Check) (X l : List A) (m : ℕ) → check ≡ Ok tt → length X ≡ m → take m (leaves check (over X l) l) ≡ X
  own-part check X l m e h = ap (λ (t : Check). take m (leaves t (over X l) l)) e ∙ take_at X (drop (length X) l) m h

  pub gather_room : (nodes ptr cols source_ptr sources : List ℕ) (values out : List Float) → plan_of S region nodes ptr cols source_ptr sources ≡ Ok tt → Values S values
      → gather_of S region (planned S region nodes ptr cols source_ptr sources).source_ptr (planned S region nodes ptr cols source_ptr sources).sources values out ≡ must (leb (pairs_inside n p (pairs_of S)) (length out)) ListTooShort
  gather_room nodes ptr cols source_ptr sources values out fits v =
      let E = entries S region in
      ap₂ (λ (x y : List ℕ). gather_check x y (length S.col_idx) values out)
      (own-part (plan_of S region nodes ptr cols source_ptr sources) (plan_ptr E) source_ptr (length E + 1) fits (pointers-length E))
      (own-part (plan_of S region nodes ptr cols source_ptr sources) (plan_sources E) sources (length (plan_sources E)) fits refl)
      ∙ plan-gathers n p (pairs_of S) S.row_ptr S.col_idx matrix binds values out
      ∙ sym (pass _ _ _ _ (le-leb (length values) entry_limit (omega (arith, v.as_many, matrix.few_entries))) refl)
      ∙ sym (length-pass _ _ _ _ (eq-eqb (length values) (length S.col_idx) v.as_many) refl)
      ∙ sym (pass _ _ _ _ v.all_finite refl)
      ∙ ap (λ (m : ℕ). must (leb m (length out)) ListTooShort) (lists_length n p (pairs_of S) S.row_ptr S.col_idx)

-- ---- one value for each pair

values-each : (lists : List (List ℕ)) (values : List Float) → gathered (plan_ptr lists) (plan_sources lists) values ≡ map (value_of (direct lists) values) lists
values-each lists values = gathered-lists lists values ∙ go (direct lists)
  where
    go : (one : Bool) → cond one (map (λ (l : List ℕ). get_or values (get_or l 0 0) nan) lists) (map (sum_of values) lists) ≡ map (value_of one values) lists
    go true = refl
    go false = refl

-- ---- all of it

module _ (S : CutSystem) (a : Accepts S) (k : Ground) (kind : Kind S k) (cs : List Growth) where
  abbrev g : Network
  g = k.network

  pub complete : 1 ≤ (held S k cs).accepted → Complete S k cs
  unfolding frontier_words
  complete some =
      let st = held S k cs in
      let mask = seeds-accepted S a k kind cs in
      let by_total = (holds_run k S.seeds cs).region some in
      let nodes = (solid S a k kind).nodes in
      let whole = (solid S a k kind).whole in
      record {
        region = λ i l.
            let l' : i < g.nodes = omega (arith, nodes) in
            let e : in_mask st.seeds i ≡ within g.blocks (linked g) (seeded g (in_mask S.seeds)) st.total (g.block i) = ap (λ (w : List ℕ). in_mask w i) by_total ∙ region-at g S.seeds st.total i l' in
            subst (λ (b : Bool). T b ↔ Within g.blocks (linked g) (seeded g (in_mask S.seeds)) st.total (g.block i)) (sym e) (within-iff g.blocks (linked g) (seeded g (in_mask S.seeds)) st.total (g.block i) (whole.has_block i l'));
        frontier = λ last i l.
            let l' : i < g.nodes = omega (arith, nodes) in
            let e : in_mask st.frontier i ≡ exactly g.blocks (linked g) (seeded g (in_mask S.seeds)) st.total (g.block i) = ap (λ (w : List ℕ). in_mask w i) ((holds_run k S.seeds cs).frontier some last) ∙ mask-holds g.nodes _ i l' in
            subst (λ (b : Bool). T b ↔ Distance g.blocks (linked g) (seeded g (in_mask S.seeds)) st.total (g.block i)) (sym e) (distance-iff g.blocks (linked g) (seeded g (in_mask S.seeds)) st.total (g.block i) (whole.has_block i l'));
        pattern_fits = pattern_fits S a st.seeds mask;
        plan_fits = plan_fits S a st.seeds mask;
        gather_room = gather_room S a st.seeds mask;
        pairs = listed-pairs S.side (in_mask st.seeds) (pairs_of S) (entries_stored S) a.same_pairs;
        one_each = lists_length S.side (in_mask st.seeds) (pairs_of S) S.row_ptr S.col_idx;
        gathered_values = values-each (entries S st.seeds);
      }
