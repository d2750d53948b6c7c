-- Regions as they are lent, and as they were accepted: what Multiplicity says of numbers and a list, said of the struct.
use Rattle.std.specs.Prelude.{◌≡◌, Bool, List, Result, ℕ}
use Rattle.base.specs.Checks.{Check}
use Rattle.base.specs.declared.Refusal.{Refusal}
use Rattle.multiplicity.specs.declared.AbtmRegionMultiplicityStats.{AbtmRegionMultiplicityStats}
use Rattle.multiplicity.specs.declared.FlatRegions.{FlatRegions}
use Rattle.multiplicity.specs.declared.inner.Regions.{Regions}
use Rattle.multiplicity.specs.Multiplicity.{regions_check, holds_in_region, multiplicity_of, multiplicity_check, multiplicity_answer, multiplicity_counts, weight_answer}

-- 1, 11 over the flat list, 12
abbrev pub check_flat : FlatRegions → Check
check_flat f = regions_check f.node_count f.region_count f.words.now

-- and 25 for the counts' list
abbrev pub check_counts : FlatRegions → List ℕ → Check
check_counts f = multiplicity_check f.node_count f.region_count f.words.now

abbrev pub answer_counts : FlatRegions → List ℕ → Result AbtmRegionMultiplicityStats Refusal
answer_counts f out = multiplicity_answer (check_counts f out) f.node_count f.region_count f.words.now

-- and what it leaves in that list
abbrev pub list_counts : FlatRegions → List ℕ → List ℕ
list_counts f out = multiplicity_counts (check_counts f out) f.node_count f.region_count f.words.now out

abbrev pub answer_weight : FlatRegions → ℕ → ℕ → Result ℕ Refusal
answer_weight f = weight_answer f.node_count f.region_count f.words.now

-- region q holds node i, and how many regions do
abbrev pub held : Regions → ℕ → ℕ → Bool
held r = holds_in_region r.node_count r.words.now

abbrev pub multiplicity_at : Regions → ℕ → ℕ
multiplicity_at r = multiplicity_of r.node_count r.region_count r.words.now

-- the lent regions as they were accepted
abbrev pub AcceptedFrom : FlatRegions → Regions → Type 0
AcceptedFrom f r = (r.node_count ≡ f.node_count) × (r.region_count ≡ f.region_count) × (r.words ≡ f.words)
