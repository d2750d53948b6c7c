-- `pattern::extract_local_submatrix_pattern` meets its contract. Assumes nothing.
use mathlib.Core.Path.{◌≡◌, sym, ap, ◌∙◌}
use mathlib.Core.Bool.{Bool}
use Prim.Native.Nat.{ℕ}
use Rattle.std.specs.Prelude.{Ok, Err}
use Rattle.base.specs.Checks.{Check}
use Rattle.base.specs.Lists.{over}
use Rattle.base.specs.Sets.{members_below}
use Rattle.base.proofs.Checks.{handed, on-accepted, on-refused, kept, group-pass, group-stop}
use Rattle.mask.specs.Mask.{in_mask}
use Rattle.mask.specs.Views.{nodes}
use Rattle.side.specs.Views.{holds, pairs}
use Rattle.dual_topology.specs.Views.{check_topology}
use Rattle.pattern.specs.Pattern.{region_check, pattern_room, pattern_check, pattern_ptr, pattern_columns, stats_of_pattern}
use Rattle.pattern.specs.Views.{check_local, check_pattern}
use Rattle.pattern.specs.declared.inner.Local.{Local}
use Rattle.pattern.specs.declared.RegionKept.{RegionKept}
use Rattle.pattern.proofs.Accepted.{Lent, lent, lent-as, local-check, room_fits, room_is, stats_are}
use Rattle.pattern.proofs.Counting.{kept_small}
use Rattle.pattern.proofs.extract_local_submatrix_pattern.Goals.{In_ok-topology, In_ok-local, After-check_room, Start}
use Rattle.pattern.proofs.extract_local_submatrix_pattern.Goals as goal

abbrev room : Start → Check
room s = pattern_room s.args.topology.rows.nrows (in_mask s.args.region.words.now) (holds s.args.topology.rows) s.args.global_nodes.now s.args.row_ptr.now s.args.col_idx.now

abbrev region : Start → Check
region s = region_check (check_topology s.args.topology) s.args.topology.rows.nrows s.args.topology.rows.ncols s.args.region.len s.args.region.words.now

abbrev whole : Start → Check
whole s = check_pattern s.args.topology s.args.region s.args.global_nodes.now s.args.row_ptr.now s.args.col_idx.now

-- where the topology is accepted, its region's check is what is left
module _ (c : In_ok-topology) where
  whole-region : check_local c.in_ok-topology.topology.rows c.args.region ≡ region (goal.at.In_ok-topology c).Start
  whole-region =
      let a = c.in_ok-topology.ensures.accepted in
      local-check _ _ _ _ _ _ _ a.0 a.2.0.0 a.2.0.1

-- here the region is accepted too, and counted
module _ (c : In_ok-local) where
  abbrev s : Start
  s = (goal.at.In_ok-local c).Start

  as-lent : Lent s.args.topology.rows s.args.region c.in_ok-local.local
  as-lent = lent _ _ _ _ c.in_ok-topology.ensures.accepted.2.0 c.in_ok-local.ensures.accepted.2

  accepted : region s ≡ Ok tt
  accepted = sym (whole-region (goal.at.In_ok-local c).In_ok-topology) ∙ c.in_ok-local.ensures.accepted.0

  alike : {A : Type 0} (f : ℕ → (ℕ → Bool) → (ℕ → ℕ → Bool) → A)
      → f c.in_ok-local.local.region.len (nodes c.in_ok-local.local.region) (pairs c.in_ok-local.local.rows) ≡ f s.args.topology.rows.nrows (in_mask s.args.region.words.now) (holds s.args.topology.rows)
  alike f = lent-as _ _ _ as-lent f

-- the lists' lengths are checked by the counts
module _ (c : After-check_room) where
  abbrev l : Local
  l = c.in_ok-local.local

  by-counts : c.check_room.result ≡ pattern_room l.region.len (nodes l.region) (pairs l.rows) c.args.global_nodes.now c.args.row_ptr.now c.args.col_idx.now
  by-counts =
      c.check_room.ensures
      ∙ room_is l.region.len (nodes l.region) (pairs l.rows) c.args.global_nodes.now c.args.row_ptr.now c.args.col_idx.now _ _
      (ap (λ (k : RegionKept). k.members) c.count-kept.ensures) (ap (λ (k : RegionKept). k.rows.kept) c.count-kept.ensures)

  decided : room (goal.at.After-check_room c).Start ≡ c.check_room.result
  decided =
      sym (by-counts ∙ alike (goal.at.After-check_room c).In_ok-local (λ n p t. pattern_room n p t c.args.global_nodes.now c.args.row_ptr.now c.args.col_idx.now))

  remaining : c.check_room.result ≡ whole (goal.at.After-check_room c).Start
  unfolding pattern_check
  remaining = group-pass _ _ _ (accepted (goal.at.After-check_room c).In_ok-local) (sym decided)

pub write-requires : goal.write-requires
write-requires c =
    let l = c.in_ok-local.local in
    let f = room_fits l.region.len (nodes l.region) (pairs l.rows) c.args.global_nodes.now c.args.row_ptr.now c.args.col_idx.now (sym (by-counts (goal.at.write-requires c).After-check_room) ∙ c.in_ok-check_room.was) in
    (f.nodes_room, f.ptr_room, f.columns_room)

pub stats-requires : goal.stats-requires
stats-requires c =
    let l = c.in_ok-local.local in
    (l.square.few_cols, rw c.count-kept.ensures (kept_small l.region.len l.rows.row_word_ptr.now l.rows.word_indices.now l.rows.masks.now l.square (nodes l.region)))

pub returns-in_err-topology : goal.returns-in_err-topology
unfolding pattern_check region_check
returns-in_err-topology c =
    let e : whole (goal.at.returns-in_err-topology c).Start ≡ Err _ = sym (group-stop _ (room (goal.at.returns-in_err-topology c).Start) _ (sym (group-stop _ _ _ (sym (group-stop _ _ _ c.in_err-topology.ensures.refused))))) in record {
      value = handed _ _ c.from_residual.ensures.1 ∙ on-refused _ _ _ Err e;
      members = kept _ _ _ _ e;
      pointers = kept _ _ _ _ e;
      columns = kept _ _ _ _ e;
    }

pub returns-in_err-local : goal.returns-in_err-local
unfolding pattern_check
returns-in_err-local c =
    let t = (goal.at.returns-in_err-local c).In_ok-topology in
    let e : whole (goal.at.returns-in_err-local c).Start ≡ Err _ = sym (group-stop _ (room (goal.at.returns-in_err-local c).Start) _ (sym (whole-region t) ∙ c.in_err-local.ensures.refused)) in record {
      value = handed _ _ c.from_residual-in_err-local.ensures.1 ∙ on-refused _ _ _ Err e;
      members = kept _ _ _ _ e;
      pointers = kept _ _ _ _ e;
      columns = kept _ _ _ _ e;
    }

pub returns-in_err-check_room : goal.returns-in_err-check_room
returns-in_err-check_room c =
    let e : whole (goal.at.returns-in_err-check_room c).Start ≡ Err _ = sym (remaining (goal.at.returns-in_err-check_room c).After-check_room) ∙ c.in_err-check_room.was in record {
      value = handed _ _ c.from_residual-in_err-check_room.ensures.1 ∙ on-refused _ _ _ Err e;
      members = kept _ _ _ _ e;
      pointers = kept _ _ _ _ e;
      columns = kept _ _ _ _ e;
    }

pub returns : goal.returns
returns c =
    let same = (goal.at.returns c).In_ok-local in
    let e : whole (goal.at.returns c).Start ≡ Ok tt = sym (remaining (goal.at.returns c).After-check_room) ∙ c.in_ok-check_room.was in
    let w = c.write.ensures in
    let l = c.in_ok-local.local in record {
      value =
          on-accepted _ _ _ _ e (ap Ok (stats_are l.region.len (nodes l.region) (pairs l.rows) c.args.global_nodes.now c.args.row_ptr.now c.args.col_idx.now _ _ c.stats.ensures c.count-kept.ensures ∙ alike same (λ n p t. stats_of_pattern n p t)));
      members = on-accepted _ _ _ _ e (w.members ∙ alike same (λ n p t. over (members_below n p) c.args.global_nodes.now));
      pointers = on-accepted _ _ _ _ e (w.pointers ∙ alike same (λ n p t. over (pattern_ptr n p t) c.args.row_ptr.now));
      columns = on-accepted _ _ _ _ e (w.columns ∙ alike same (λ n p t. over (pattern_columns n p t) c.args.col_idx.now));
    }
