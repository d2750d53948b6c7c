-- What is grown on: nodes, the block of each node, and a set of stored pairs. Plain and field growth are two instances. Then the
-- words that a growth is said by: linked, seeded, the region, its frontier, what was visited.
use Rattle.std.specs.Prelude.{Bool, false, ◌&&◌, ◌||◌, List, ℕ, zero, suc, ◌<◌, eqb, length}
use Rattle.base.specs.Sets.{any_below}
use Rattle.mask.specs.Mask.{in_mask, mask_words}
use Rattle.dof_layout.specs.Layout.{total_of, block_of}
use Rattle.graph.specs.Distance.{within, exactly, completed}

pub record Network : Type 0 where
  pub nodes : ℕ
  pub blocks : ℕ
  pub block : ℕ → ℕ
  pub stored : ℕ → ℕ → Bool

-- every node has a block
pub record Whole (g : Network) : Type 0 where
  pub has_block : (i : ℕ) → i < g.nodes → g.block i < g.blocks

-- in plain growth each node is a block
abbrev pub plain_network : ℕ → (ℕ → ℕ → Bool) → Network
plain_network nodes stored = record { nodes = nodes; blocks = nodes; block = λ i. i; stored = stored }

-- in field growth the blocks are those of a layout
abbrev pub field_network : List ℕ → (ℕ → ℕ → Bool) → Network
field_network components stored =
    record { nodes = total_of components; blocks = length components; block = block_of components; stored = stored }

-- an entry, at either order, joins nodes i and j
abbrev pub joined : (ℕ → ℕ → Bool) → ℕ → ℕ → Bool
joined stored i j = stored i j || stored j i

-- the nodes below n that an entry, at either order, joins to a node of p
unfoldable pub touched : ℕ → (ℕ → ℕ → Bool) → (ℕ → Bool) → ℕ → Bool
touched n stored p j = any_below n (λ i. p i && joined stored i j)

-- block b holds a node of p
unfoldable pub holding : ℕ → (ℕ → ℕ) → (ℕ → Bool) → ℕ → Bool
holding n block p b = any_below n (λ i. eqb (block i) b && p i)

-- the nodes of p with the whole of each one's block
abbrev pub closed : ℕ → (ℕ → ℕ) → (ℕ → Bool) → ℕ → Bool
closed n block p i = holding n block p (block i)

module _ (g : Network) where
  -- two blocks are linked if an entry, at either order, joins a node of one and a node of the other
  unfoldable pub linked : ℕ → ℕ → Bool
  linked b c = any_below g.nodes (λ i. any_below g.nodes (λ j. eqb (g.block i) b && eqb (g.block j) c && joined g.stored i j))

  -- a block is seeded if it holds a seed
  abbrev pub seeded : (ℕ → Bool) → ℕ → Bool
  seeded seed b = holding g.nodes g.block seed b

  -- block b is within h links of a seeded block
  abbrev pub block_within : (ℕ → Bool) → ℕ → ℕ → Bool
  block_within seed h b = within g.blocks linked (seeded seed) h b

  -- node i is in the region: its block is within h links
  abbrev pub in_region : (ℕ → Bool) → ℕ → ℕ → Bool
  in_region seed h i = block_within seed h (g.block i)

  -- node i is in the frontier: its block is at distance h
  abbrev pub in_frontier : (ℕ → Bool) → ℕ → ℕ → Bool
  in_frontier seed h i = exactly g.blocks linked (seeded seed) h (g.block i)

  -- visited nodes: those at distance at most h - 1, none for h = 0
  abbrev pub visited : (ℕ → Bool) → ℕ → ℕ → Bool
  visited seed zero i = false
  visited seed (suc h) i = in_region seed h i

  -- hops_completed
  abbrev pub hops_made : (ℕ → Bool) → ℕ → ℕ
  hops_made seed h = completed g.blocks linked (seeded seed) h

  -- all words of the region mask and of the frontier mask, grown by h from the seeds' mask
  unfoldable pub region_words : List ℕ → ℕ → List ℕ
  region_words seeds h = mask_words g.nodes (in_region (in_mask seeds) h)

  unfoldable pub frontier_words : List ℕ → ℕ → List ℕ
  frontier_words seeds h = mask_words g.nodes (in_frontier (in_mask seeds) h)
