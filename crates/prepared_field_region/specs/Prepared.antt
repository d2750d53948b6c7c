-- prepare_region: the matrix, the layout, 18, the mask, 25. It holds what its steps give on its inputs: the topology of the matrix's pairs, the field
-- growth from the mask, and the pattern and the numeric plan of the grown region. validate_block_owners: the matrix, the layout, 18, then what
-- field_block_owners checks.
use Rattle.std.specs.Prelude.{Bool, List, ℕ, ◌+◌, leb, ltb}
use Rattle.std.specs.Prelude.{Result}
use Rattle.base.specs.Checks.{Check, answer}
use Rattle.base.specs.declared.Refusal.{Refusal}
use Rattle.base.specs.declared.Refusal.TheVariants.{ListTooShort}
use Rattle.base.specs.Checks.{must, ◌then◌, leaves}
use Rattle.base.specs.Lists.{over_with_zeros}
use Rattle.base.specs.Sets.{members_below}
use Rattle.csr32.specs.Matrix.{stored}
use Rattle.mask.specs.Mask.{length_check}
use Rattle.side.specs.Side.{flip, side_ptr, side_words, side_masks, pair_count}
use Rattle.dual_topology.specs.Answers.{build_room, counts_of, stats_of}
use Rattle.growth.specs.Lent.{masks_room}
use Rattle.field_region.specs.Growth.{field_stats}
use Rattle.pattern.specs.Pattern.{pattern_ptr, pattern_columns, stats_of_pattern}
use Rattle.gather.specs.Plan.{plan_sources, plan_ptr}
use Rattle.numeric_plan.specs.Plan.{plan_stats}
use Rattle.cutting.specs.Cut.{network_of, region_of, lists_of}
use Rattle.prepared_field_region.specs.declared.PreparedFieldAwareLocalRegion.{PreparedFieldAwareLocalRegion}

-- ---- the checks

-- 25: side members, side + 1 pointers, a column and a source for each entry, a source pointer for each entry and one
unfoldable pub local_room : ℕ → ℕ → ℕ → ℕ → ℕ → ℕ → ℕ → Check
local_room n entries nodes pointers columns source_pointers sources =
    must (leb n nodes) ListTooShort
    then must (ltb n pointers) ListTooShort
    then must (leb entries columns) ListTooShort
    then must (ltb entries source_pointers) ListTooShort
    then must (leb entries sources) ListTooShort

-- 25 for all that the steps take: the building, the growth, pattern and plan
unfoldable pub prepare_room : ℕ → ℕ → ℕ → ℕ → ℕ → ℕ → ℕ → ℕ → ℕ → ℕ → ℕ → ℕ → ℕ → ℕ → ℕ → ℕ → ℕ → ℕ → ℕ → Check
prepare_room nrows ncols entries rptr ridx rmasks cptr cidx cmasks starts order region frontier scratch nodes pointers columns source_pointers sources =
    build_room nrows ncols entries rptr ridx rmasks cptr cidx cmasks starts order
    then masks_room nrows region frontier scratch
    then local_room nrows entries nodes pointers columns source_pointers sources

-- the matrix, the layout with 18, the mask
unfoldable pub prepare_inputs : Check → Check → ℕ → ℕ → List ℕ → Check
prepare_inputs matrix square n len words = matrix then square then length_check n len words

-- and 25 last
unfoldable pub prepare_check : Check → Check → Check
prepare_check inputs room = inputs then room

-- `owners` is the whole check of field_block_owners
unfoldable pub block_owners_check : Check → Check → Check → Check
block_owners_check matrix square owners = matrix then square then owners

-- ---- what a prepared region holds

abbrev pub prepared_of : ℕ → ℕ → List ℕ → List ℕ → List ℕ → List ℕ → ℕ → PreparedFieldAwareLocalRegion
prepared_of nrows ncols ptr cols components seeds h =
    let s = stored ptr cols in
    let p = region_of ptr cols components seeds h in
    record {
      counts = counts_of nrows ncols s;
      topology = stats_of nrows ncols (side_ptr nrows ncols s) (side_words nrows ncols s) (side_masks nrows ncols s) (pair_count nrows ncols s) (side_ptr ncols nrows (flip s)) (side_words ncols nrows (flip s)) (side_masks ncols nrows (flip s));
      growth = field_stats (network_of ptr cols components) seeds h;
      pattern = stats_of_pattern nrows p s;
      numeric_plan = plan_stats nrows p (lists_of nrows p ptr cols);
    }

abbrev pub prepare_answer : Check → PreparedFieldAwareLocalRegion → Result PreparedFieldAwareLocalRegion Refusal
prepare_answer check prepared = answer check prepared

-- ---- the lists of pattern and plan: zero past the answer up to the needed length

abbrev pub prepared_nodes : Check → ℕ → (ℕ → Bool) → List ℕ → List ℕ
prepared_nodes check n p out = leaves check (over_with_zeros (members_below n p) n out) out

abbrev pub prepared_ptr : Check → ℕ → (ℕ → Bool) → (ℕ → ℕ → Bool) → List ℕ → List ℕ
prepared_ptr check n p s out = leaves check (over_with_zeros (pattern_ptr n p s) (n + 1) out) out

abbrev pub prepared_columns : Check → ℕ → (ℕ → Bool) → (ℕ → ℕ → Bool) → ℕ → List ℕ → List ℕ
prepared_columns check n p s entries out = leaves check (over_with_zeros (pattern_columns n p s) entries out) out

abbrev pub prepared_source_ptr : Check → List (List ℕ) → ℕ → List ℕ → List ℕ
prepared_source_ptr check lists entries out = leaves check (over_with_zeros (plan_ptr lists) (entries + 1) out) out

abbrev pub prepared_sources : Check → List (List ℕ) → ℕ → List ℕ → List ℕ
prepared_sources check lists entries out = leaves check (over_with_zeros (plan_sources lists) entries out) out
