-- Pattern, plan and gather one after the other on a region, on the lists they are lent: what a function that calls the three answers and leaves, by
-- the same definitions as demand 3.
use Rattle.std.specs.Prelude.{List, ℕ, Float}
use Rattle.std.specs.Prelude.{Err}
use Rattle.base.specs.Checks.{Check}
use Rattle.base.specs.Checks.{after, leaves}
use Rattle.claims.specs.Demand.{CutSystem, Extracted, Planned, Gathered, extracted, plan_of, planned, gathered_from}
use Rattle.claims.specs.declared.Cut.{Cut}

-- a system from its lists
abbrev pub system_of : ℕ → List ℕ → List ℕ → List Float → List ℕ → List ℕ → List ℕ → ℕ → List ℕ → List ℕ → List ℕ → ℕ → ℕ → List ℕ → CutSystem
system_of side row_ptr col_idx values row_word_ptr row_word_indices row_masks row_pairs column_word_ptr column_word_indices column_masks column_pairs len seeds =
    record {
      side = side;
      row_ptr = row_ptr;
      col_idx = col_idx;
      values = values;
      row_word_ptr = row_word_ptr;
      row_word_indices = row_word_indices;
      row_masks = row_masks;
      row_pairs = row_pairs;
      column_word_ptr = column_word_ptr;
      column_word_indices = column_word_indices;
      column_masks = column_masks;
      column_pairs = column_pairs;
      len = len;
      seeds = seeds;
    }

module _ (S : CutSystem) (region nodes ptr cols source_ptr sources : List ℕ) where
  -- the pattern, then the plan on the lists that the pattern left
  abbrev pub pattern_cut : Extracted
  pattern_cut = extracted S region nodes ptr cols

  abbrev pub plan_cut : Planned
  plan_cut = planned S region pattern_cut.nodes pattern_cut.ptr pattern_cut.columns source_ptr sources

  abbrev pub plan_accepts : Check
  plan_accepts = plan_of S region pattern_cut.nodes pattern_cut.ptr pattern_cut.columns source_ptr sources

  -- the gather on the plan's own pointers and sources, where there is a plan
  abbrev pub gather_cut : List Float → List Float → Gathered
  gather_cut values out = gathered_from S region plan_cut.source_ptr plan_cut.sources values out

  unfoldable pub cut_answer : List Float → List Float → Cut
  cut_answer values out =
      record { pattern = pattern_cut.answer; plan = plan_cut.answer; gathered = after plan_accepts (gather_cut values out).answer Err }

  abbrev pub values_cut : List Float → List Float → List Float
  values_cut values out = leaves plan_accepts (gather_cut values out).values out
