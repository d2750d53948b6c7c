-- What a growth counts of the nodes that it visits.
use Rattle.std.specs.Prelude.{Bool, List, ℕ, ◌+◌, ◌*◌, ◌≤◌, length}
use Rattle.base.specs.Checks.{side_limit, entry_limit}
use Rattle.base.specs.Sets.{count_below, sum_over}
use Rattle.mask.specs.Mask.{in_mask}
use Rattle.side.specs.Side.{flip, words_of_row}
use Rattle.graph.specs.Network.{Network, Whole, visited, hops_made}
use Rattle.growth.specs.declared.Taken.{Taken}
use Rattle.growth.specs.declared.Visited.{Visited}
use Rattle.growth.specs.declared.Grown.{Grown}

-- the words and the set bits of a row with the columns p
abbrev pub taken_of : ℕ → (ℕ → Bool) → Taken
taken_of n p = record { words = length (words_of_row n p); bits = count_below n p }

-- over the nodes of p: how many, and the sums of their row words, column words and candidate bits, which are the set bits of both
abbrev pub visits_of : ℕ → (ℕ → ℕ → Bool) → (ℕ → Bool) → Visited
visits_of n s p =
    record {
      nodes = count_below n p;
      row_words = sum_over n p (λ i. length (words_of_row n (s i)));
      column_words = sum_over n p (λ i. length (words_of_row n (flip s i)));
      candidate_bits = sum_over n p (λ i. count_below n (s i) + count_below n (flip s i));
    }

-- a growth by h hops: how many are completed, and what is counted of the visited nodes
abbrev pub grown_by : Network → List ℕ → ℕ → Grown
grown_by g seeds h = record { hops = hops_made g (in_mask seeds) h; visits = visits_of g.nodes g.stored (visited g (in_mask seeds) h) }

abbrev pub nothing : Visited
nothing = record { nodes = 0; row_words = 0; column_words = 0; candidate_bits = 0 }

-- two counts together
abbrev pub together : Visited → Visited → Visited
together a b =
    record {
      nodes = a.nodes + b.nodes;
      row_words = a.row_words + b.row_words;
      column_words = a.column_words + b.column_words;
      candidate_bits = a.candidate_bits + b.candidate_bits;
    }

-- within what an accepted topology can give
pub record Small (v : Visited) : Type 0 where
  pub few_nodes : v.nodes ≤ side_limit
  pub few_row_words : v.row_words ≤ entry_limit
  pub few_column_words : v.column_words ≤ entry_limit
  pub few_bits : v.candidate_bits ≤ 2 * entry_limit

-- what a growth asks of its network: each node is in a block, the nodes are within the limit, and so is what is counted of any of them
pub record Sound (g : Network) : Type 0 where
  pub whole : Whole g
  pub short : g.nodes ≤ side_limit
  pub small : (p : ℕ → Bool) → Small (visits_of g.nodes g.stored p)
