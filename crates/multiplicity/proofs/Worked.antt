-- Document 01's regions {0,1}, {1,2}, {1} of three nodes, their weights, and one small case of each refusal, by computing the definitions.
-- Assumes nothing.
use mathlib.Core.Path.{◌≡◌, refl}
use Rattle.std.specs.Prelude.{Result, Ok, Err}
use Rattle.base.specs.declared.Refusal.{Refusal}
use Rattle.base.specs.declared.Refusal.TheVariants.{OverLimit, BitPastLength, OutOfRange, ListTooShort, WrongLength}
use mathlib.Core.List.{List, [], ◌∷◌}
use Prim.Native.Nat.{ℕ}
use lib.Ieee.{binary64, div, of_int, of_bits}
use Rattle.base.specs.Checks.{must, must_be, ◌then◌}
use Rattle.base.specs.Lists.{list_from}
use Rattle.base.specs.Sets.{every_below, sum_below, largest_below}
use Rattle.word.specs.Bits.{bit_at}
use Rattle.mask.specs.Mask.{in_mask, clean}
use Rattle.topology.specs.Statistics.{ratio}
use Rattle.multiplicity.specs.Multiplicity.{regions_check, multiplicity_of, multiplicity_check, multiplicity_answer, multiplicity_counts, weight_check, weight_answer}
use Rattle.multiplicity.specs.declared.AbtmRegionMultiplicityStats.{AbtmRegionMultiplicityStats}

-- {0,1}, {1,2}, {1}
abbrev words : List ℕ
words = 3 ∷ 6 ∷ 2 ∷ []

-- the lent list, longer than the nodes
abbrev lent : List ℕ
lent = 9 ∷ 9 ∷ 9 ∷ 9 ∷ []

abbrev short : List ℕ
short = 9 ∷ 9 ∷ []

abbrev counted : List ℕ → List ℕ → Result AbtmRegionMultiplicityStats Refusal
counted l out = multiplicity_answer (multiplicity_check 3 3 l out) 3 3 l

abbrev left : List ℕ → List ℕ → List ℕ
left l out = multiplicity_counts (multiplicity_check 3 3 l out) 3 3 l out

pub record Multiplicities : Type 0 where
  pub counts : left words lent ≡ 1 ∷ 3 ∷ 1 ∷ 9 ∷ []
  pub stats : counted words lent
      ≡ Ok
      record {
        region_count = 3;
        node_count = 3;
        total_memberships = 5;
        covered_nodes = 3;
        overlap_nodes = 1;
        max_multiplicity = 3;
        pair_overlap_memberships = 3;
        extra_memberships = 2;
        average_multiplicity_on_covered = of_bits binary64 4610184818551597739;
        overlap_fraction_on_covered = of_bits binary64 4599676419421066581;
      }
  pub none : multiplicity_answer (multiplicity_check 0 0 [] []) 0 0 []
      ≡ Ok
      record {
        region_count = 0;
        node_count = 0;
        total_memberships = 0;
        covered_nodes = 0;
        overlap_nodes = 0;
        max_multiplicity = 0;
        pair_overlap_memberships = 0;
        extra_memberships = 0;
        average_multiplicity_on_covered = of_bits binary64 0;
        overlap_fraction_on_covered = of_bits binary64 0;
      }
  pub nodes : regions_check 1048577 0 [] ≡ Err OverLimit
  pub regions : regions_check 0 65537 [] ≡ Err OverLimit
  pub flat : counted (3 ∷ 6 ∷ []) lent ≡ Err (WrongLength 3 2)
  pub stray : counted (3 ∷ 8 ∷ 2 ∷ []) lent ≡ Err BitPastLength
  pub no_room : counted words short ≡ Err ListTooShort
  pub kept : left words short ≡ short
  pub third : weight_answer 3 3 words 0 1 ≡ Ok 21845
  pub whole : weight_answer 3 3 words 0 0 ≡ Ok 65536
  pub outside : weight_answer 3 3 words 0 2 ≡ Ok 0
  pub no_region : weight_answer 3 3 words 3 1 ≡ Err OutOfRange
  pub no_node : weight_answer 3 3 words 0 3 ≡ Err OutOfRange
  pub weight_flat : weight_answer 3 3 (3 ∷ 6 ∷ []) 3 1 ≡ Err (WrongLength 3 2)

pub multiplicities : Multiplicities
unfolding bit_at in_mask clean regions_check multiplicity_of multiplicity_check weight_check must must_be ◌then◌ list_from every_below sum_below largest_below ratio div of_int of_bits
multiplicities = record {
  counts = refl;
  stats = refl;
  none = refl;
  nodes = refl;
  regions = refl;
  flat = refl;
  stray = refl;
  no_room = refl;
  kept = refl;
  third = refl;
  whole = refl;
  outside = refl;
  no_region = refl;
  no_node = refl;
  weight_flat = refl;
}
