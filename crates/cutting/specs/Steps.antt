-- What the steps of a prepared region hand on to one another; no caller of the API needs it.
use Rattle.std.specs.Prelude.{Bool, List, ℕ, ◌≤◌, length}
use Rattle.csr32.specs.Matrix.{stored}
use Rattle.mask.specs.Mask.{words_needed}
use Rattle.pattern.specs.Pattern.{stats_of_pattern}
use Rattle.numeric_plan.specs.Plan.{plan_stats}
use Rattle.numeric_plan.specs.Steps.{ListsFit}
use Rattle.field_region.specs.Growth.{field_stats}
use Rattle.cutting.specs.Cut.{network_of, region_of, lists_of}
use Rattle.cutting.specs.declared.LocalStats.{LocalStats}
use Rattle.cutting.specs.declared.RegionCut.{RegionCut}

-- the lists of pattern and plan reach the lengths that a region needs at most
abbrev pub LocalFits : ℕ → ℕ → List ℕ → List ℕ → List ℕ → List ℕ → List ℕ → Type 0
LocalFits n entries nodes ptr cols source_ptr sources = ListsFit n entries entries nodes ptr cols source_ptr sources

-- and so do the three masks
pub record MasksFit (n : ℕ) (region frontier scratch : List ℕ) : Type 0 where
  pub inside : words_needed n ≤ length region
  pub edge : words_needed n ≤ length frontier
  pub spent : words_needed n ≤ length scratch

-- the statistics of pattern and plan in a region p
abbrev pub local_stats : ℕ → (ℕ → Bool) → List ℕ → List ℕ → LocalStats
local_stats n p ptr cols = record { pattern = stats_of_pattern n p (stored ptr cols); numeric_plan = plan_stats n p (lists_of n p ptr cols) }

-- and with those of the growth
abbrev pub cut_stats : ℕ → List ℕ → List ℕ → List ℕ → List ℕ → ℕ → RegionCut
cut_stats n ptr cols components seeds h =
    record { growth = field_stats (network_of ptr cols components) seeds h; local = local_stats n (region_of ptr cols components seeds h) ptr cols }
