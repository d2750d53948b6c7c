-- region_multiplicity and weight: how many regions hold each node. The regions stand one after the other in a flat list of words, each a
-- mask of all nodes.
use Rattle.std.specs.Prelude.{◌≡◌, Bool, cond, List, ℕ, ◌+◌, ◌-◌, ◌*◌, ◌/◌, ◌≤◌, ◌<◌, leb, ltb, length}
use Rattle.std.specs.Prelude.{Result}
use Rattle.base.specs.Checks.{Check, answer}
use Rattle.base.specs.declared.Refusal.{Refusal}
use Rattle.base.specs.declared.Refusal.TheVariants.{OverLimit, BitPastLength, OutOfRange, ListTooShort}
use Rattle.std.proofs.Math.Seq.{slice}
use Rattle.base.specs.Checks.{must, must_be, ◌then◌, leaves, side_limit, region_limit}
use Rattle.base.specs.Lists.{list_from, over}
use Rattle.base.specs.Sets.{every_below, sum_below, largest_below, count_below}
use Rattle.mask.specs.Mask.{in_mask, words_needed, clean, IsMask}
use Rattle.topology.specs.Statistics.{ratio}
use Rattle.multiplicity.specs.declared.AbtmRegionMultiplicityStats.{AbtmRegionMultiplicityStats}

-- ---- the checks: 1, 11 over the flat list, 12

-- the words of region q
abbrev pub region_at : ℕ → List ℕ → ℕ → List ℕ
region_at n words q = slice (q * words_needed n) ((q + 1) * words_needed n) words

unfoldable pub regions_check : ℕ → ℕ → List ℕ → Check
regions_check n regions words =
    must (leb n side_limit) OverLimit
    then must (leb regions region_limit) OverLimit
    then must_be (regions * words_needed n) (length words)
    then must (every_below regions (λ q. clean n (region_at n words q))) BitPastLength

-- ---- region_multiplicity: the checks, 25; a count for each node

-- region q holds node i
abbrev pub holds_in_region : ℕ → List ℕ → ℕ → ℕ → Bool
holds_in_region n words q i = in_mask (region_at n words q) i

-- a node's multiplicity: how many regions hold it
unfoldable pub multiplicity_of : ℕ → ℕ → List ℕ → ℕ → ℕ
multiplicity_of n regions words i = count_below regions (λ q. holds_in_region n words q i)

unfoldable pub multiplicity_check : ℕ → ℕ → List ℕ → List ℕ → Check
multiplicity_check n regions words out = regions_check n regions words then must (leb n (length out)) ListTooShort

-- how many pairs m regions form
abbrev pub pairs_of : ℕ → ℕ
pairs_of m = m * (m - 1) / 2

-- all regions' members counted together, the nodes in at least one region, those in at least two, the largest multiplicity, and the pairs of
-- regions at each node summed; memberships and overlap nodes over the covered nodes as f64 numbers
abbrev pub multiplicity_stats : ℕ → ℕ → (ℕ → ℕ) → AbtmRegionMultiplicityStats
multiplicity_stats n regions m =
    record {
      region_count = regions;
      node_count = n;
      total_memberships = sum_below n m;
      covered_nodes = count_below n (λ i. ltb 0 (m i));
      overlap_nodes = count_below n (λ i. ltb 1 (m i));
      max_multiplicity = largest_below n m;
      pair_overlap_memberships = sum_below n (λ i. pairs_of (m i));
      extra_memberships = sum_below n m - count_below n (λ i. ltb 0 (m i));
      average_multiplicity_on_covered = ratio (sum_below n m) (count_below n (λ i. ltb 0 (m i)));
      overlap_fraction_on_covered = ratio (count_below n (λ i. ltb 1 (m i))) (count_below n (λ i. ltb 0 (m i)));
    }

abbrev pub multiplicity_answer : Check → ℕ → ℕ → List ℕ → Result AbtmRegionMultiplicityStats Refusal
multiplicity_answer check n regions words =
    answer check (multiplicity_stats n regions (multiplicity_of n regions words))

abbrev pub multiplicity_counts : Check → ℕ → ℕ → List ℕ → List ℕ → List ℕ
multiplicity_counts check n regions words out = leaves check (over (list_from (multiplicity_of n regions words) n 0) out) out

-- ---- weight: the checks, then 13

unfoldable pub weight_check : ℕ → ℕ → List ℕ → ℕ → ℕ → Check
weight_check n regions words region node =
    regions_check n regions words then must (ltb region regions) OutOfRange then must (ltb node n) OutOfRange

-- 65,536 / m rounded down at a node that the region holds, 0 where it does not hold it
abbrev pub weight_of : ℕ → ℕ → List ℕ → ℕ → ℕ → ℕ
weight_of n regions words region node = cond (holds_in_region n words region node) (65536 / multiplicity_of n regions words node) 0

abbrev pub weight_answer : ℕ → ℕ → List ℕ → ℕ → ℕ → Result ℕ Refusal
weight_answer n regions words region node = answer (weight_check n regions words region node) (weight_of n regions words region node)

-- ---- what acceptance gives

pub record AreRegions (n regions : ℕ) (words : List ℕ) : Type 0 where
  pub few_nodes : n ≤ side_limit
  pub few_regions : regions ≤ region_limit
  pub flat : length words ≡ regions * words_needed n
  pub masks : (q : ℕ) → q < regions → IsMask n (region_at n words q)
