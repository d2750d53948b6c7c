-- A list of growths, refused ones included, each seeded with the region that the last accepted one gave or, before any, with the first seeds. What
-- a growth answers and leaves is what its promise cites: grow_check or field_grow_check, region_left, frontier_left, over the lists it is lent.
use Rattle.std.specs.Prelude.{Bool, List, [], ◌∷◌, ℕ, ◌+◌, ◌-◌, ◌^◌, take}
use Rattle.base.specs.Checks.{Check}
use Rattle.base.specs.Checks.{leaves}
use Rattle.mask.specs.Mask.{words_needed}
use Rattle.dof_layout.specs.Layout.{total_of}
use Rattle.graph.specs.Network.{Network, plain_network, field_network}
use Rattle.growth.specs.Lent.{region_left, frontier_left}
use Rattle.region.specs.Growth.{grow_check}
use Rattle.field_region.specs.Growth.{field_grow_check}

-- the largest 64-bit count
abbrev pub largest : ℕ
largest = 2 ^ 64 - 1

-- one growth: its count, and the three lists that it is lent, of any length and content
pub record Growth : Type 0 where
  pub hops : ℕ
  pub region : List ℕ
  pub frontier : List ℕ
  pub scratch : List ℕ

-- what all growths of a list share: the network, and the checks of one growth, by its seeds and the lists that it is lent
pub record Ground : Type 0 where
  pub network : Network
  pub check : List ℕ → List ℕ → List ℕ → List ℕ → Check

-- all as plain growths
abbrev pub plain_ground : Check → ℕ → (ℕ → ℕ → Bool) → ℕ → Ground
plain_ground topology side s len = record { network = plain_network side s; check = grow_check topology side side len }

-- all as field growths under one layout
abbrev pub field_ground : Check → Check → List ℕ → (ℕ → ℕ → Bool) → ℕ → Ground
field_ground topology square components s len =
    record { network = field_network components s; check = field_grow_check topology square (total_of components) len }

-- what a list of growths has come to
pub record Run : Type 0 where
  pub seeds : List ℕ  -- the region mask of the last accepted growth or, before any, the first seeds
  pub frontier : List ℕ  -- the frontier mask of the last accepted growth
  pub total : ℕ  -- of the accepted counts
  pub last : ℕ  -- the last accepted count
  pub accepted : ℕ  -- how many were accepted

abbrev pub begun : List ℕ → Run
begun first = record { seeds = first; frontier = []; total = 0; last = 0; accepted = 0 }

module _ (k : Ground) where
  -- a mask is handed on with exactly its own words
  abbrev pub own : List ℕ → List ℕ
  own words = take (words_needed k.network.nodes) words

  abbrev pub check_of : List ℕ → Growth → Check
  check_of seeds c = k.check seeds c.region c.frontier c.scratch

  -- the two masks that a growth leaves
  abbrev pub region_of : List ℕ → Growth → List ℕ
  region_of seeds c = own (region_left (check_of seeds c) k.network seeds c.hops c.region)

  abbrev pub frontier_of : List ℕ → Growth → List ℕ
  frontier_of seeds c = own (frontier_left (check_of seeds c) k.network seeds c.hops c.frontier)

  -- one growth more; a refused one changes nothing
  unfoldable pub grown : Run → Growth → Run
  grown st c =
      leaves (check_of st.seeds c)
      (record { seeds = region_of st.seeds c; frontier = frontier_of st.seeds c; total = st.total + c.hops; last = c.hops; accepted = st.accepted + 1 })
      st

  unfoldable pub run : Run → List Growth → Run
  run st [] = st
  run st (c ∷ cs) = run (grown st c) cs
