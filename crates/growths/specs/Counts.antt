-- A list of growths given by arrays: growth i goes by hops[i] and is lent the first rooms[i] words of three lists, as far as they reach. Each is
-- seeded with the region of the last accepted one. What such a list comes to: one growth by the total.
use Rattle.std.specs.Prelude.{Bool, cond, List, ℕ, zero, suc, ◌+◌, min, leb, eqb, get_or, replicate}
use Rattle.base.specs.Lists.{over}
use Rattle.base.specs.Sets.{count_below, sum_over}
use Rattle.mask.specs.Mask.{words_needed}
use Rattle.graph.specs.Network.{Network, region_words, frontier_words}
use Rattle.growths.specs.Runs.{largest}
use Rattle.growths.specs.declared.Ran.{Ran}

-- growth i is accepted: its lists reach their needed length; `shortest` is the length of the shortest of the three
abbrev pub takes : ℕ → List ℕ → ℕ → ℕ → Bool
takes needed rooms shortest i = leb needed (min (get_or rooms i 0) shortest)

-- of the first m growths: how many are accepted, the total of their counts, the last of their counts
abbrev pub accepted_in : ℕ → List ℕ → ℕ → ℕ → ℕ
accepted_in needed rooms shortest m = count_below m (takes needed rooms shortest)

abbrev pub total_in : ℕ → List ℕ → List ℕ → ℕ → ℕ → ℕ
total_in needed hops rooms shortest m = sum_over m (takes needed rooms shortest) (λ i. get_or hops i 0)

unfoldable pub last_in : ℕ → List ℕ → List ℕ → ℕ → ℕ → ℕ
last_in needed hops rooms shortest zero = 0
last_in needed hops rooms shortest (suc m) = cond (takes needed rooms shortest m) (get_or hops m 0) (last_in needed hops rooms shortest m)

-- the counts that are answered: a total past 64 bits is the largest
abbrev pub ran_of : ℕ → List ℕ → List ℕ → ℕ → ℕ → Ran
ran_of needed hops rooms shortest m =
    record { accepted = accepted_in needed rooms shortest m; total = min (total_in needed hops rooms shortest m) largest; last = last_in needed hops rooms shortest m }

-- one accepted growth more
abbrev pub counted_by : Ran → ℕ → Ran
counted_by ran hops = record { accepted = ran.accepted + 1; total = min (ran.total + hops) largest; last = hops }

-- the seeds are then the region of one growth by the total
abbrev pub seeds_after : Network → Ran → List ℕ → List ℕ
seeds_after g ran first = cond (eqb ran.accepted 0) first (region_words g first ran.total)

-- the three lists; where the last accepted count is 0, the frontier is the region
abbrev pub region_once_grown : Network → Ran → List ℕ → List ℕ → List ℕ
region_once_grown g ran first out = cond (eqb ran.accepted 0) out (over (region_words g first ran.total) out)

abbrev pub frontier_once_grown : Network → Ran → List ℕ → List ℕ → List ℕ
frontier_once_grown g ran first out =
    cond (eqb ran.accepted 0) out (over (cond (eqb ran.last 0) (region_words g first ran.total) (frontier_words g first ran.total)) out)

abbrev pub scratch_once_grown : Network → Ran → List ℕ → List ℕ
scratch_once_grown g ran out = cond (eqb ran.accepted 0) out (over (replicate (words_needed g.nodes) 0) out)
