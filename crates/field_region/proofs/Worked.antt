-- Document 01's field growth, the entries (0,1), (1,2) under blocks of 2 and 1, closing, owners, and one small case of each refusal, by
-- computing the definitions that the contracts cite, the checks of topology and layout included. Assumes nothing.
use mathlib.Core.Path.{◌≡◌, refl}
use Rattle.std.specs.Prelude.{Result, Ok, Err}
use Rattle.base.specs.Checks.{Check}
use Rattle.base.specs.declared.Refusal.{Refusal}
use Rattle.base.specs.declared.Refusal.TheVariants.{BadTopology, BitPastLength, TotalNotSides, NoRanks, OwnerOutOfRange, OwnersDiffer, ListTooShort, BadPointers, WrongLength}
use mathlib.Core.List.{List, [], ◌∷◌}
use Prim.Native.Nat.{ℕ}
use Rattle.base.specs.Checks.{must, must_be, ◌then◌, checks_below}
use Rattle.base.specs.Lists.{same_list, list_from}
use Rattle.base.specs.Sets.{any_below, first_below, every_below, sum_below, members_from}
use Rattle.word.specs.Bits.{bit_at, word_from}
use Rattle.mask.specs.Mask.{in_mask, mask_words, clean, shape_check, length_check}
use Rattle.twins.specs.Keys.{same_key}
use Rattle.dof_layout.specs.Layout.{start_of, total_of, offsets_of, block_of, is_kind_code, block_check, blocks_check, layout_check}
use Rattle.dof_layout.specs.Answers.{square_check}
use Rattle.side.specs.Side.{words_of_row, mask_for, row_holds, side_holds}
use Rattle.side.specs.Check.{limit_check, fault_check, bits_in, lists_agree, is_word_inside, good_word, words_fault, side_fault}
use Rattle.agreement.specs.Agreement.{turned}
use Rattle.dual_topology.specs.Check.{first_fault, sides_agree, topology_fault, topology_check}
use Rattle.graph.specs.Distance.{within, exactly, any_at, farthest_to, completed}
use Rattle.graph.specs.Network.{Network, field_network, holding, linked, region_words, frontier_words}
use Rattle.growth.specs.Lent.{masks_room, region_left, frontier_left, scratch_left}
use Rattle.field_region.specs.declared.FieldAwareRegionStats.{FieldAwareRegionStats}
use Rattle.field_region.specs.Closure.{close_check, close_answer, close_words}
use Rattle.field_region.specs.Owners.{same_owner, owner_check, owned_check, owners_check, owners_answer, owners_list}
use Rattle.field_region.specs.Growth.{field_grow_check, field_grow_answer}

-- ---- growth

-- the topology of the entries; its masks and pair count are given, since in one example a stored word is 0
abbrev topology : List ℕ → ℕ → Check
topology masks pairs = topology_check 3 3 (0 ∷ 1 ∷ 2 ∷ 2 ∷ []) (0 ∷ 0 ∷ []) masks pairs 3 3 (0 ∷ 0 ∷ 1 ∷ 2 ∷ []) (0 ∷ 0 ∷ []) (1 ∷ 2 ∷ []) 2

abbrev chain_check : Check
chain_check = topology (2 ∷ 4 ∷ []) 2

-- a growth on side 3 under two blocks
abbrev under : Check → List ℕ → List ℕ → ℕ → List ℕ → List ℕ → List ℕ → List ℕ → Check
under top components offsets len seeds r f s =
    field_grow_check top (square_check (1 ∷ 1 ∷ []) (0 ∷ 1 ∷ []) (0 ∷ 0 ∷ []) components offsets 3 3) (total_of components) len seeds r f s

abbrev chain : Network
chain = field_network (2 ∷ 1 ∷ []) (side_holds (0 ∷ 1 ∷ 2 ∷ 2 ∷ []) (0 ∷ 0 ∷ []) (2 ∷ 4 ∷ []))

-- the lent lists, each longer than a mask's one word and with other content
abbrev region : List ℕ
region = 5 ∷ 8 ∷ []

abbrev frontier : List ℕ
frontier = 9 ∷ 10 ∷ []

abbrev scratch : List ℕ
scratch = 11 ∷ 12 ∷ 13 ∷ []

-- a mask of `len` nodes on the chain, with a list for the frontier
abbrev check : ℕ → List ℕ → List ℕ → Check
check len seeds lent = under chain_check (2 ∷ 1 ∷ []) (0 ∷ 2 ∷ 3 ∷ []) len seeds region lent scratch

abbrev answer : List ℕ → ℕ → Result FieldAwareRegionStats Refusal
answer seeds h = field_grow_answer (check 3 seeds frontier) chain seeds h

abbrev inside : List ℕ → ℕ → List ℕ
inside seeds h = region_left (check 3 seeds frontier) chain seeds h region

abbrev edge : List ℕ → ℕ → List ℕ
edge seeds h = frontier_left (check 3 seeds frontier) chain seeds h frontier

abbrev spent : List ℕ → List ℕ
spent seeds = scratch_left (check 3 seeds frontier) (total_of (2 ∷ 1 ∷ [])) scratch

-- the ten statistics in their order
abbrev stats : ℕ → ℕ → ℕ → ℕ → ℕ → ℕ → ℕ → ℕ → ℕ → ℕ → FieldAwareRegionStats
stats hops completed seeds closed nodes blocks visited rows columns bits = record {
  hops_requested = hops;
  hops_completed = completed;
  seed_dofs = seeds;
  block_closed_seed_dofs = closed;
  region_dofs = nodes;
  region_blocks = blocks;
  frontier_dofs_visited = visited;
  row_words_visited = rows;
  column_words_visited = columns;
  candidate_neighbor_bits = bits;
}

pub record FieldGrowths : Type 0 where
  -- h = 0: the closed seeds 0 and 1
  pub zero_answer : answer (2 ∷ []) 0 ≡ Ok (stats 0 0 1 2 2 1 0 0 0 0)
  pub zero_region : inside (2 ∷ []) 0 ≡ 3 ∷ 8 ∷ []
  pub zero_frontier : edge (2 ∷ []) 0 ≡ 3 ∷ 10 ∷ []
  -- h = 1: all three nodes, 2 blocks; past the needed word the lists are as they were
  pub one_answer : answer (2 ∷ []) 1 ≡ Ok (stats 1 1 1 2 3 2 2 2 1 3)
  pub one_region : inside (2 ∷ []) 1 ≡ 7 ∷ 8 ∷ []
  pub one_frontier : edge (2 ∷ []) 1 ≡ 4 ∷ 10 ∷ []
  pub one_scratch : spent (2 ∷ []) ≡ 0 ∷ 12 ∷ 13 ∷ []
  -- h = 9: the hop that finds nothing counts
  pub nine_answer : answer (2 ∷ []) 9 ≡ Ok (stats 9 2 1 2 3 2 3 2 2 4)
  pub nine_frontier : edge (2 ∷ []) 9 ≡ 0 ∷ 10 ∷ []
  -- seed 2, h = 1: the block that is reached is taken whole
  pub back_answer : answer (4 ∷ []) 1 ≡ Ok (stats 1 1 1 1 3 2 1 0 1 1)
  pub back_frontier : edge (4 ∷ []) 1 ≡ 3 ∷ 10 ∷ []
  -- refusals
  pub total_4 : under chain_check (2 ∷ 2 ∷ []) (0 ∷ 2 ∷ 4 ∷ []) 4 (1 ∷ []) region frontier scratch ≡ Err TotalNotSides
  pub total_4_first : under chain_check (2 ∷ 2 ∷ []) (0 ∷ 2 ∷ 4 ∷ []) 5 (32 ∷ []) [] [] [] ≡ Err TotalNotSides
  pub offsets : under chain_check (2 ∷ 2 ∷ []) (0 ∷ 2 ∷ 3 ∷ []) 4 (1 ∷ []) region frontier scratch ≡ Err BadPointers
  pub topology_first : under (topology (0 ∷ 4 ∷ []) 1) (2 ∷ 2 ∷ []) (0 ∷ 2 ∷ 3 ∷ []) 4 (1 ∷ []) region frontier scratch ≡ Err BadTopology
  pub mask_4 : field_grow_answer (check 4 (2 ∷ []) frontier) chain (2 ∷ []) 1 ≡ Err (WrongLength 3 4)
  pub stray : answer (8 ∷ []) 1 ≡ Err BitPastLength
  pub no_room : field_grow_answer (check 3 (2 ∷ []) []) chain (2 ∷ []) 1 ≡ Err ListTooShort
  pub kept_region : region_left (check 3 (2 ∷ []) []) chain (2 ∷ []) 1 region ≡ region
  pub kept_frontier : frontier_left (check 3 (2 ∷ []) []) chain (2 ∷ []) 1 [] ≡ []
  pub kept_scratch : scratch_left (check 3 (2 ∷ []) []) (total_of (2 ∷ 1 ∷ [])) scratch ≡ scratch

pub field-growths : FieldGrowths
unfolding must must_be ◌then◌ checks_below list_from same_list any_below first_below every_below sum_below members_from bit_at word_from in_mask mask_words clean shape_check length_check words_of_row mask_for row_holds limit_check fault_check bits_in lists_agree is_word_inside good_word words_fault side_fault turned first_fault sides_agree topology_fault topology_check start_of offsets_of block_of is_kind_code same_key block_check blocks_check layout_check square_check within exactly any_at farthest_to completed holding linked region_words frontier_words masks_room field_grow_check
field-growths = record {
  zero_answer = refl;
  zero_region = refl;
  zero_frontier = refl;
  one_answer = refl;
  one_region = refl;
  one_frontier = refl;
  one_scratch = refl;
  nine_answer = refl;
  nine_frontier = refl;
  back_answer = refl;
  back_frontier = refl;
  total_4 = refl;
  total_4_first = refl;
  offsets = refl;
  topology_first = refl;
  mask_4 = refl;
  stray = refl;
  no_room = refl;
  kept_region = refl;
  kept_frontier = refl;
  kept_scratch = refl;
}

-- ---- closing

-- blocks of 2 and 1
abbrev close3 : List ℕ → ℕ → List ℕ → List ℕ → Check
close3 offsets len words out = close_check (1 ∷ 1 ∷ []) (0 ∷ 1 ∷ []) (0 ∷ 0 ∷ []) (2 ∷ 1 ∷ []) offsets len words out

abbrev closed3 : ℕ → List ℕ → List ℕ → List ℕ
closed3 len words out = close_words (close3 (0 ∷ 2 ∷ 3 ∷ []) len words out) (2 ∷ 1 ∷ []) words out

pub record Closures : Type 0 where
  pub one_of_two : closed3 3 (2 ∷ []) (9 ∷ 9 ∷ []) ≡ 3 ∷ 9 ∷ []
  pub length : close_answer (close3 (0 ∷ 2 ∷ 3 ∷ []) 3 (2 ∷ []) (9 ∷ 9 ∷ [])) 3 ≡ Ok 3
  pub none : closed3 3 (0 ∷ []) (9 ∷ 9 ∷ []) ≡ 0 ∷ 9 ∷ []
  -- blocks of 1, 70 and 2, node 68 selected: nodes 1 to 70
  pub over_words : close_words (close_check (1 ∷ 1 ∷ 1 ∷ []) (0 ∷ 1 ∷ 2 ∷ []) (0 ∷ 0 ∷ 0 ∷ []) (1 ∷ 70 ∷ 2 ∷ []) (0 ∷ 1 ∷ 71 ∷ 73 ∷ []) 73 (0 ∷ 16 ∷ []) (9 ∷ 9 ∷ 9 ∷ [])) (1 ∷ 70 ∷ 2 ∷ []) (0 ∷ 16 ∷ []) (9 ∷ 9 ∷ 9 ∷ []) ≡ 18446744073709551614 ∷ 127 ∷ 9 ∷ []
  -- refusals
  pub offsets : close_answer (close3 (0 ∷ 2 ∷ 4 ∷ []) 3 (2 ∷ []) (9 ∷ [])) 3 ≡ Err BadPointers
  pub offsets_first : close_answer (close3 (0 ∷ 2 ∷ 4 ∷ []) 4 (8 ∷ []) []) 4 ≡ Err BadPointers
  pub mask_4 : close_answer (close3 (0 ∷ 2 ∷ 3 ∷ []) 4 (8 ∷ []) []) 4 ≡ Err (WrongLength 3 4)
  pub mask_of_too_few_words : close_answer (close3 (0 ∷ 2 ∷ 3 ∷ []) 3 (2 ∷ 0 ∷ []) []) 3 ≡ Err (WrongLength 1 2)
  pub stray : close_answer (close3 (0 ∷ 2 ∷ 3 ∷ []) 3 (8 ∷ []) []) 3 ≡ Err BitPastLength
  pub no_room : close_answer (close3 (0 ∷ 2 ∷ 3 ∷ []) 3 (2 ∷ []) []) 3 ≡ Err ListTooShort
  pub kept : closed3 4 (2 ∷ []) (9 ∷ 9 ∷ []) ≡ 9 ∷ 9 ∷ []

pub closures : Closures
unfolding must must_be ◌then◌ checks_below list_from same_list any_below first_below every_below sum_below bit_at word_from in_mask mask_words clean shape_check length_check start_of offsets_of block_of is_kind_code same_key block_check blocks_check layout_check holding close_check
closures = record {
  one_of_two = refl;
  length = refl;
  none = refl;
  over_words = refl;
  offsets = refl;
  offsets_first = refl;
  mask_4 = refl;
  mask_of_too_few_words = refl;
  stray = refl;
  no_room = refl;
  kept = refl;
}

-- ---- owners

-- blocks of 2 and 1
abbrev check3 : List ℕ → ℕ → List ℕ → Check
check3 owners ranks out = owners_check (1 ∷ 1 ∷ []) (0 ∷ 1 ∷ []) (0 ∷ 0 ∷ []) (2 ∷ 1 ∷ []) (0 ∷ 2 ∷ 3 ∷ []) owners ranks out

abbrev counted : List ℕ → ℕ → List ℕ → Result ℕ Refusal
counted owners ranks out = owners_answer (check3 owners ranks out) (2 ∷ 1 ∷ [])

abbrev owned : List ℕ → ℕ → List ℕ → List ℕ
owned owners ranks out = owners_list (check3 owners ranks out) (2 ∷ 1 ∷ []) owners out

-- one block of n
abbrev single : ℕ → List ℕ → ℕ → Check
single n owners ranks = owners_check (1 ∷ []) (0 ∷ []) (0 ∷ []) (n ∷ []) (0 ∷ n ∷ []) owners ranks (9 ∷ [])

pub record BlockOwners : Type 0 where
  pub owners : owned (1 ∷ 1 ∷ 0 ∷ []) 4 (9 ∷ 9 ∷ 9 ∷ []) ≡ 1 ∷ 0 ∷ 9 ∷ []
  pub blocks : counted (1 ∷ 1 ∷ 0 ∷ []) 4 (9 ∷ 9 ∷ 9 ∷ []) ≡ Ok 2
  -- refusals: document 01's own are of one block
  pub no_ranks : single 1 (0 ∷ []) 0 ≡ Err NoRanks
  pub past_ranks : single 2 (5 ∷ 9 ∷ []) 4 ≡ Err OwnerOutOfRange
  pub differ : single 2 (1 ∷ 9 ∷ []) 4 ≡ Err OwnersDiffer
  pub length : counted (1 ∷ 1 ∷ []) 0 (9 ∷ 9 ∷ 9 ∷ []) ≡ Err (WrongLength 3 2)
  pub ranks_first : counted (5 ∷ 9 ∷ 9 ∷ []) 0 [] ≡ Err NoRanks
  -- by block: 21 of block 0 before 20 of block 1, 20 of block 0 before 21 of block 1
  pub earlier_21 : counted (1 ∷ 9 ∷ 5 ∷ []) 4 [] ≡ Err OwnersDiffer
  pub earlier_20 : owners_check (1 ∷ 1 ∷ []) (0 ∷ 1 ∷ []) (0 ∷ 0 ∷ []) (1 ∷ 2 ∷ []) (0 ∷ 1 ∷ 3 ∷ []) (5 ∷ 1 ∷ 9 ∷ []) 4 [] ≡ Err OwnerOutOfRange
  pub second_20 : counted (1 ∷ 1 ∷ 5 ∷ []) 4 [] ≡ Err OwnerOutOfRange
  pub no_room : counted (1 ∷ 1 ∷ 0 ∷ []) 4 (9 ∷ []) ≡ Err ListTooShort
  pub kept : owned (1 ∷ 1 ∷ 0 ∷ []) 4 (9 ∷ []) ≡ 9 ∷ []

pub block-owners : BlockOwners
unfolding must must_be ◌then◌ checks_below list_from same_list any_below every_below sum_below start_of offsets_of is_kind_code same_key block_check blocks_check layout_check same_owner owner_check owners_check owned_check
block-owners = record {
  owners = refl;
  blocks = refl;
  no_ranks = refl;
  past_ranks = refl;
  differ = refl;
  length = refl;
  ranks_first = refl;
  earlier_21 = refl;
  earlier_20 = refl;
  second_20 = refl;
  no_room = refl;
  kept = refl;
}
