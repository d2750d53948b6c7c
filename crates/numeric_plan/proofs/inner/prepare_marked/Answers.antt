-- `numeric_plan::inner::prepare_marked` meets its contract. Assumes nothing.
use mathlib.Core.Path.{◌≡◌, refl, sym, ap, ◌∙◌}
use Rattle.std.specs.Prelude.{Ok, Err}
use Rattle.base.specs.Checks.{Check}
use Rattle.base.proofs.Checks.{handed}
use mathlib.Core.Bool.{Bool}
use mathlib.Core.List.{List, ◌++◌}
use Prim.Native.Nat.{ℕ, ◌≤◌}
use native.Mathlib.Omega.{arith}
use lib.ListN.{length, take, drop}
use Rattle.base.specs.Checks.{◌then◌}
use Rattle.base.proofs.Checks.{on-accepted, on-refused, kept, group-pass, group-stop}
use Rattle.base.proofs.Lists.{part-take}
use Rattle.mask.specs.Mask.{in_mask, mask_words}
use Rattle.mask.proofs.Masks.{zeros-empty, mask-length}
use Rattle.csr32.specs.Matrix.{stored}
use Rattle.side.specs.Side.{side_holds}
use Rattle.pattern.specs.Pattern.{pattern_room}
use Rattle.binding.specs.Binding.{binding_check}
use Rattle.binding.specs.Steps.{counts_of, has_pair}
use Rattle.binding.specs.declared.Counts.{Counts}
use Rattle.binding.proofs.Answers.{bound-passes, refused-stops}
use Rattle.numeric_plan.specs.Plan.{pair_entries, plan_room, plan_check}
use Rattle.numeric_plan.specs.Steps.{Marked}
use Rattle.numeric_plan.proofs.OneRow.{marked_by}
use Rattle.numeric_plan.proofs.Prepared.{Room, plan-fits, plan_fits, counted-sources, counts-small, stats_are}
use Rattle.numeric_plan.proofs.inner.prepare_marked.Goals.{After-check_room, After-words_for-need, In_ok-check_room, In_ok-counts, Start}
use Rattle.numeric_plan.proofs.inner.prepare_marked.Goals as goal

-- the pairs of the rows side
abbrev pairs : Start → ℕ → ℕ → Bool
pairs s = side_holds s.args.system.local.rows.row_word_ptr.now s.args.system.local.rows.word_indices.now s.args.system.local.rows.masks.now

abbrev region : Start → ℕ → Bool
region s = in_mask s.args.system.local.region.words.now

abbrev lists : Start → List (List ℕ)
lists s = pair_entries s.args.system.local.region.len (region s) (pairs s) s.args.system.matrix.row_ptr.now s.args.system.matrix.col_idx.now

-- the checks but for 25
abbrev check : Start → Check
check s = binding_check s.args.system.local.region.len (region s) (pairs s) (stored s.args.system.matrix.row_ptr.now s.args.system.matrix.col_idx.now)

abbrev room : Start → Check
room s =
    pattern_room s.args.system.local.region.len (region s) (pairs s) s.args.global_nodes.now s.args.local_ptr.now s.args.local_cols.now
    then plan_room (lists s) s.args.source_ptr.now s.args.sources.now

abbrev whole : Start → Check
whole s =
    plan_check (check s) s.args.system.local.region.len (region s) (pairs s) (lists s) s.args.global_nodes.now s.args.local_ptr.now s.args.local_cols.now s.args.source_ptr.now s.args.sources.now

-- the mask's words are there
words_left : (c : After-words_for-need) → c.words_for-need.result ≤ length c.args.paired.now
words_left c = omega (arith, c.words_for-need.ensures, c.requires.1)

-- in this arm the rows bind, and these are their counts
module _ (c : In_ok-counts) where
  abbrev s : Start
  s = (goal.at.In_ok-counts c).Start

  abbrev counts : Counts
  counts = c.in_ok-counts.counts

  passes : (check s ≡ Ok tt) × (counts ≡ counts_of s.args.system.local.region.len (region s) (pairs s) s.args.system.matrix.row_ptr.now s.args.system.matrix.col_idx.now)
  passes = bound-passes (check s) (counts_of s.args.system.local.region.len (region s) (pairs s) s.args.system.matrix.row_ptr.now s.args.system.matrix.col_idx.now) counts (sym c.in_ok-counts.was ∙ c.bind_rows.ensures.value)

  abbrev marks : List ℕ
  marks = mask_words s.args.system.local.region.len (has_pair s.args.system.local.region.len (region s) (pairs s))

  abbrev held : List ℕ
  held = c.bind_rows.new.paired

  marked : held ≡ marks
  marked = c.bind_rows.ensures.marks passes.0

  as_long : c.words_for-need.result ≡ length marks
  as_long = c.words_for-need.ensures ∙ sym (mask-length s.args.system.local.region.len (has_pair s.args.system.local.region.len (region s) (pairs s)))

-- the room that the counts say
counted : (c : After-check_room) → c.check_room.result ≡ room (goal.at.After-check_room c).Start
counted c =
    c.check_room.ensures ∙ plan_fits c.args.system.local.region.len (region (goal.at.After-check_room c).Start) (pairs (goal.at.After-check_room c).Start) c.args.system.matrix.row_ptr.now c.args.system.matrix.col_idx.now c.args.system.square (passes (goal.at.After-check_room c).In_ok-counts).0 (counts (goal.at.After-check_room c).In_ok-counts) (passes (goal.at.After-check_room c).In_ok-counts).1 c.args.global_nodes.now c.args.local_ptr.now c.args.local_cols.now c.args.source_ptr.now c.args.sources.now

-- and here the lists reach their needed lengths
module _ (c : In_ok-check_room) where
  abbrev s2 : Start
  s2 = (goal.at.In_ok-check_room c).Start

  enough : room s2 ≡ Ok tt
  enough = sym (counted (goal.at.In_ok-check_room c).After-check_room) ∙ c.in_ok-check_room.was

  all : whole s2 ≡ Ok tt
  unfolding plan_check
  all = sym (group-pass _ _ _ (passes (goal.at.In_ok-check_room c).In_ok-counts).0 (sym enough))

  long : Room s2.args.system.local.region.len (region s2) (pairs s2) s2.args.system.matrix.row_ptr.now s2.args.system.matrix.col_idx.now s2.args.global_nodes.now s2.args.local_ptr.now s2.args.local_cols.now s2.args.source_ptr.now s2.args.sources.now
  long = plan-fits s2.args.system.local.region.len (region s2) (pairs s2) s2.args.system.matrix.row_ptr.now s2.args.system.matrix.col_idx.now s2.args.global_nodes.now s2.args.local_ptr.now s2.args.local_cols.now s2.args.source_ptr.now s2.args.sources.now enough

pub bind_rows-requires : goal.bind_rows-requires
bind_rows-requires c =
    let need = c.words_for-need.result in
    ap (take need) c.requires.0 ∙ zeros-empty c.args.system.local.region.len (length c.args.paired.now) need c.words_for-need.ensures (words_left (goal.at.bind_rows-requires c).After-words_for-need)

-- the rows that have a pair are marked
module _ (c : In_ok-check_room) where
  abbrev b : In_ok-counts
  b = (goal.at.In_ok-check_room c).In_ok-counts

  marks-are : Marked (s b).args.system.local.region.len (s b).args.system.local.region.words.now (take c.words_for-need.result (held b ++ drop c.words_for-need.result (s b).args.paired.now)) (pairs (s b))
  marks-are = marked_by (s b).args.system.local.region.len (s b).args.system.local.region.words.now _ (pairs (s b)) (s b).args.system.local.region.accepted.short (part-take (held b) (marks b) (s b).args.paired.now c.words_for-need.result (marked b) (as_long b))

pub invariant_of-marks : goal.invariant_of-marks
invariant_of-marks c = record { accepted = (marks-are (goal.at.invariant_of-marks c).In_ok-check_room).mask }

pub invariant_of-bound : goal.invariant_of-bound
invariant_of-bound c =
    let d = (goal.at.invariant_of-bound c).In_ok-counts in
    let t = c.args.system in
    record {
      alike = refl;
      binds = (passes d).0;
      counted = counted-sources t.local.region.len (region (s d)) (pairs (s d)) t.matrix.row_ptr.now t.matrix.col_idx.now t.square (passes d).0 (counts d) (passes d).1;
      marked = marks-are (goal.at.invariant_of-bound c).In_ok-check_room;
    }

pub write-requires : goal.write-requires
write-requires c =
    let p = passes (goal.at.write-requires c).In_ok-counts in
    let l = long (goal.at.write-requires c).In_ok-check_room in
    let f = l.pattern_fits in
    let terms = counted-sources c.args.system.local.region.len (region (goal.at.write-requires c).Start) (pairs (goal.at.write-requires c).Start) c.args.system.matrix.row_ptr.now c.args.system.matrix.col_idx.now c.args.system.square p.0 (counts (goal.at.write-requires c).In_ok-counts) p.1 in
    record { members = f.nodes_room; pointers = f.ptr_room; columns = f.columns_room; source_pointers = l.pointers_room; entry_sources = omega (arith, terms, l.sources_room) }

pub stats-requires : goal.stats-requires
stats-requires c = counts-small _ _ _ _ _ c.args.system.square (passes (goal.at.stats-requires c).In_ok-counts).0 (counts (goal.at.stats-requires c).In_ok-counts) (passes (goal.at.stats-requires c).In_ok-counts).1

pub returns-in_err-counts : goal.returns-in_err-counts
unfolding plan_check
returns-in_err-counts c =
    let e : whole (goal.at.returns-in_err-counts c).Start ≡ Err _ = sym (group-stop _ (room (goal.at.returns-in_err-counts c).Start) _ (refused-stops _ _ _ (sym c.in_err-counts.was ∙ c.bind_rows.ensures.value))) in record {
      value = handed _ _ c.from_residual.ensures.1 ∙ on-refused _ _ _ Err e;
      members = kept _ _ _ _ e;
      pointers = kept _ _ _ _ e;
      columns = kept _ _ _ _ e;
      starts = kept _ _ _ _ e;
      entries = kept _ _ _ _ e;
    }

pub returns-in_err-check_room : goal.returns-in_err-check_room
unfolding plan_check
returns-in_err-check_room c =
    let no_room : room (goal.at.returns-in_err-check_room c).Start ≡ Err _ = sym (counted (goal.at.returns-in_err-check_room c).After-check_room) ∙ c.in_err-check_room.was in
    let e : whole (goal.at.returns-in_err-check_room c).Start ≡ Err _ = sym (group-pass _ _ _ (passes (goal.at.returns-in_err-check_room c).In_ok-counts).0 (sym no_room)) in record {
      value = handed _ _ c.from_residual-in_err-check_room.ensures.1 ∙ on-refused _ _ _ Err e;
      members = kept _ _ _ _ e;
      pointers = kept _ _ _ _ e;
      columns = kept _ _ _ _ e;
      starts = kept _ _ _ _ e;
      entries = kept _ _ _ _ e;
    }

pub returns : goal.returns
returns c =
    let p = passes (goal.at.returns c).In_ok-counts in
    let e = all (goal.at.returns c).In_ok-check_room in
    let w = c.write.ensures in record {
      value = on-accepted _ _ _ _ e (ap Ok (stats_are c.args.system.local.region.len (region (goal.at.returns c).Start) (pairs (goal.at.returns c).Start) c.args.system.matrix.row_ptr.now c.args.system.matrix.col_idx.now c.args.system.square p.0 (counts (goal.at.returns c).In_ok-counts) p.1 _ c.stats.ensures));
      members = on-accepted _ _ _ _ e w.members;
      pointers = on-accepted _ _ _ _ e w.pointers;
      columns = on-accepted _ _ _ _ e w.columns;
      starts = on-accepted _ _ _ _ e w.starts;
      entries = on-accepted _ _ _ _ e w.entries;
    }
