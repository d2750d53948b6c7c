-- The lists of a plan. A plan has a list of entries for each pair of a pattern; what is written is these lists one after the other, and where
-- each starts.
use Rattle.std.specs.Prelude.{Bool, List, [], ℕ, ◌+◌, eqb, length, get_or}
use Rattle.base.specs.Lists.{every, list_from, join_below}

-- the entries of pair j
abbrev pub entry_list : List (List ℕ) → ℕ → List ℕ
entry_list lists j = get_or lists j []

-- the lists one after the other
unfoldable pub plan_sources : List (List ℕ) → List ℕ
plan_sources lists = join_below (length lists) (entry_list lists)

-- where each starts, and where the last ends
unfoldable pub plan_ptr : List (List ℕ) → List ℕ
plan_ptr lists = list_from (λ j. length (join_below j (entry_list lists))) (length lists + 1) 0

-- direct: every pair has one source
abbrev pub direct : List (List ℕ) → Bool
direct lists = every (λ l. eqb (length l) 1) lists
