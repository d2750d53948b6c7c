-- What a growth is lent: a topology, and three masks: region, frontier and scratch.
use Rattle.std.specs.Prelude.{List, ℕ, leb}
use Rattle.base.specs.Checks.{Check}
use Rattle.base.specs.declared.Refusal.TheVariants.{ListTooShort}
use Rattle.base.specs.Checks.{must, ◌then◌, leaves}
use Rattle.base.specs.Lists.{over}
use Rattle.mask.specs.Mask.{words_needed}
use Rattle.dual_topology.specs.Answers.{scratch}
use Rattle.graph.specs.Network.{Network, region_words, frontier_words}

-- 25: each takes a mask's words
unfoldable pub masks_room : ℕ → ℕ → ℕ → ℕ → Check
masks_room n region frontier scratch =
    must (leb (words_needed n) region) ListTooShort then must (leb (words_needed n) frontier) ListTooShort then must (leb (words_needed n) scratch) ListTooShort

abbrev pub region_left : Check → Network → List ℕ → ℕ → List ℕ → List ℕ
region_left check g seeds h out = leaves check (over (region_words g seeds h) out) out

abbrev pub frontier_left : Check → Network → List ℕ → ℕ → List ℕ → List ℕ
frontier_left check g seeds h out = leaves check (over (frontier_words g seeds h) out) out

-- the needed part of scratch is zero
abbrev pub scratch_left : Check → ℕ → List ℕ → List ℕ
scratch_left check n out = scratch check (words_needed n) out
