-- Document 01's growths on the entries (0,1), (1,2), side 3, and one small case of each refusal, by computing the definitions that the
-- contract of `grow_undirected_region` cites, the check of the topology included. Assumes nothing.
use mathlib.Core.Path.{◌≡◌, refl}
use Rattle.std.specs.Prelude.{Result, Ok, Err}
use Rattle.base.specs.Checks.{Check}
use Rattle.base.specs.declared.Refusal.{Refusal}
use Rattle.base.specs.declared.Refusal.TheVariants.{BadTopology, NotSquare, BitPastLength, ListTooShort, WrongLength}
use mathlib.Core.List.{List, [], ◌∷◌}
use Prim.Native.Nat.{ℕ}
use Rattle.base.specs.Checks.{must, must_be, ◌then◌}
use Rattle.base.specs.Lists.{list_from}
use Rattle.base.specs.Sets.{any_below, first_below, every_below, sum_below, members_from}
use Rattle.word.specs.Bits.{bit_at, word_from}
use Rattle.mask.specs.Mask.{in_mask, mask_words, clean, shape_check, length_check}
use Rattle.side.specs.Side.{words_of_row, mask_for, row_holds, side_holds}
use Rattle.side.specs.Check.{limit_check, fault_check, bits_in, lists_agree, is_word_inside, good_word, words_fault, side_fault}
use Rattle.agreement.specs.Agreement.{turned}
use Rattle.dual_topology.specs.Check.{first_fault, sides_agree, topology_fault, topology_check}
use Rattle.graph.specs.Distance.{within, exactly, any_at, farthest_to, completed}
use Rattle.graph.specs.Network.{Network, plain_network, holding, linked, region_words, frontier_words}
use Rattle.growth.specs.Lent.{masks_room, region_left, frontier_left, scratch_left}
use Rattle.region.specs.declared.AbtmRegionGrowthStats.{AbtmRegionGrowthStats}
use Rattle.region.specs.Growth.{grow_check, grow_answer, words_visited, nodes_added}

-- the topology of the entries; its masks and pair count are given, since in one example a stored word is 0
abbrev topology : List ℕ → ℕ → Check
topology masks pairs = topology_check 3 3 (0 ∷ 1 ∷ 2 ∷ 2 ∷ []) (0 ∷ 0 ∷ []) masks pairs 3 3 (0 ∷ 0 ∷ 1 ∷ 2 ∷ []) (0 ∷ 0 ∷ []) (1 ∷ 2 ∷ []) 2

-- 2 by 3 without a pair, and with a stored word 0
abbrev flat : Check
flat = topology_check 2 3 (0 ∷ 0 ∷ 0 ∷ []) [] [] 0 3 2 (0 ∷ 0 ∷ 0 ∷ 0 ∷ []) [] [] 0

abbrev zero_flat : Check
zero_flat = topology_check 2 3 (0 ∷ 1 ∷ 1 ∷ []) (0 ∷ []) (0 ∷ []) 0 3 2 (0 ∷ 0 ∷ 0 ∷ 0 ∷ []) [] [] 0

abbrev chain : Network
chain = plain_network 3 (side_holds (0 ∷ 1 ∷ 2 ∷ 2 ∷ []) (0 ∷ 0 ∷ []) (2 ∷ 4 ∷ []))

-- the lent lists, each longer than a mask's one word and with other content
abbrev region : List ℕ
region = 5 ∷ 8 ∷ []

abbrev frontier : List ℕ
frontier = 9 ∷ 10 ∷ []

abbrev scratch : List ℕ
scratch = 11 ∷ 12 ∷ 13 ∷ []

-- a mask of `len` nodes on the chain, with a list for the frontier
abbrev check : ℕ → List ℕ → List ℕ → Check
check len seeds lent = grow_check (topology (2 ∷ 4 ∷ []) 2) 3 3 len seeds region lent scratch

abbrev answer : List ℕ → ℕ → Result AbtmRegionGrowthStats Refusal
answer seeds h = grow_answer (check 3 seeds frontier) chain seeds h

abbrev inside : List ℕ → ℕ → List ℕ
inside seeds h = region_left (check 3 seeds frontier) chain seeds h region

abbrev edge : List ℕ → ℕ → List ℕ
edge seeds h = frontier_left (check 3 seeds frontier) chain seeds h frontier

abbrev spent : List ℕ → List ℕ
spent seeds = scratch_left (check 3 seeds frontier) 3 scratch

-- the eight statistics in their order
abbrev stats : ℕ → ℕ → ℕ → ℕ → ℕ → ℕ → ℕ → ℕ → AbtmRegionGrowthStats
stats hops completed seeds nodes visited rows columns bits = record {
  hops_requested = hops;
  hops_completed = completed;
  seed_nodes = seeds;
  region_nodes = nodes;
  frontier_nodes_visited = visited;
  row_words_visited = rows;
  column_words_visited = columns;
  candidate_neighbor_bits = bits;
}

pub record Growths : Type 0 where
  -- h = 0: the seeds, and nothing is visited
  pub zero_answer : answer (1 ∷ []) 0 ≡ Ok (stats 0 0 1 1 0 0 0 0)
  pub zero_region : inside (1 ∷ []) 0 ≡ 1 ∷ 8 ∷ []
  pub zero_frontier : edge (1 ∷ []) 0 ≡ 1 ∷ 10 ∷ []
  -- h = 2: nodes 0 and 1 are visited, and past the needed word the lists are as they were
  pub two_answer : answer (1 ∷ []) 2 ≡ Ok (stats 2 2 1 3 2 2 1 3)
  pub two_region : inside (1 ∷ []) 2 ≡ 7 ∷ 8 ∷ []
  pub two_frontier : edge (1 ∷ []) 2 ≡ 4 ∷ 10 ∷ []
  pub two_scratch : spent (1 ∷ []) ≡ 0 ∷ 12 ∷ 13 ∷ []
  pub two_words : words_visited (stats 2 2 1 3 2 2 1 3) ≡ 3
  pub two_new : nodes_added (stats 2 2 1 3 2 2 1 3) ≡ 2
  -- h = 3: the hop that finds nothing counts
  pub three_answer : answer (1 ∷ []) 3 ≡ Ok (stats 3 3 1 3 3 2 2 4)
  pub three_region : inside (1 ∷ []) 3 ≡ 7 ∷ 8 ∷ []
  pub three_frontier : edge (1 ∷ []) 3 ≡ 0 ∷ 10 ∷ []
  -- h = 9: no hop after it
  pub nine_answer : answer (1 ∷ []) 9 ≡ Ok (stats 9 3 1 3 3 2 2 4)
  pub nine_region : inside (1 ∷ []) 9 ≡ 7 ∷ 8 ∷ []
  pub nine_frontier : edge (1 ∷ []) 9 ≡ 0 ∷ 10 ∷ []
  -- seed 2, h = 1: along a column
  pub back_answer : answer (4 ∷ []) 1 ≡ Ok (stats 1 1 1 2 1 0 1 1)
  pub back_region : inside (4 ∷ []) 1 ≡ 6 ∷ 8 ∷ []
  pub back_frontier : edge (4 ∷ []) 1 ≡ 2 ∷ 10 ∷ []
  -- no seeds, h = 9
  pub none_answer : answer (0 ∷ []) 9 ≡ Ok (stats 9 0 0 0 0 0 0 0)
  pub none_region : inside (0 ∷ []) 9 ≡ 0 ∷ 8 ∷ []
  pub none_frontier : edge (0 ∷ []) 9 ≡ 0 ∷ 10 ∷ []
  -- refusals
  pub not_square : grow_check flat 2 3 2 (0 ∷ []) region frontier scratch ≡ Err NotSquare
  pub not_square_first : grow_check flat 2 3 4 (0 ∷ []) region frontier scratch ≡ Err NotSquare
  pub mask_4 : grow_answer (check 4 (1 ∷ []) frontier) chain (1 ∷ []) 2 ≡ Err (WrongLength 3 4)
  pub mask_of_too_few_words : grow_answer (check 3 (1 ∷ 0 ∷ []) frontier) chain (1 ∷ 0 ∷ []) 2 ≡ Err (WrongLength 1 2)
  pub stray : answer (8 ∷ []) 2 ≡ Err BitPastLength
  pub no_room : grow_answer (check 3 (1 ∷ []) []) chain (1 ∷ []) 2 ≡ Err ListTooShort
  pub kept_region : region_left (check 3 (1 ∷ []) []) chain (1 ∷ []) 2 region ≡ region
  pub kept_frontier : frontier_left (check 3 (1 ∷ []) []) chain (1 ∷ []) 2 [] ≡ []
  pub kept_scratch : scratch_left (check 3 (1 ∷ []) []) 3 scratch ≡ scratch
  pub stray_first : grow_answer (check 3 (8 ∷ []) []) chain (8 ∷ []) 2 ≡ Err BitPastLength
  pub zero_word : grow_check (topology (0 ∷ 4 ∷ []) 1) 3 3 4 (1 ∷ []) region frontier scratch ≡ Err BadTopology
  pub zero_word_flat : grow_check zero_flat 2 3 4 (1 ∷ []) region frontier scratch ≡ Err BadTopology

pub growths : Growths
unfolding must must_be ◌then◌ list_from any_below first_below every_below sum_below members_from bit_at word_from in_mask mask_words clean shape_check length_check words_of_row mask_for row_holds limit_check fault_check bits_in lists_agree is_word_inside good_word words_fault side_fault turned first_fault sides_agree topology_fault topology_check within exactly any_at farthest_to completed holding linked region_words frontier_words masks_room grow_check
growths = record {
  zero_answer = refl;
  zero_region = refl;
  zero_frontier = refl;
  two_answer = refl;
  two_region = refl;
  two_frontier = refl;
  two_scratch = refl;
  two_words = refl;
  two_new = refl;
  three_answer = refl;
  three_region = refl;
  three_frontier = refl;
  nine_answer = refl;
  nine_region = refl;
  nine_frontier = refl;
  back_answer = refl;
  back_region = refl;
  back_frontier = refl;
  none_answer = refl;
  none_region = refl;
  none_frontier = refl;
  not_square = refl;
  not_square_first = refl;
  mask_4 = refl;
  mask_of_too_few_words = refl;
  stray = refl;
  no_room = refl;
  kept_region = refl;
  kept_frontier = refl;
  kept_scratch = refl;
  stray_first = refl;
  zero_word = refl;
  zero_word_flat = refl;
}
