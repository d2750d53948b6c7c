-- What an accepted plan leaves, so that it can be made again.
use Rattle.std.specs.Prelude.{◌≡◌, List, ℕ}
use Rattle.std.specs.Prelude.{Ok}
use Rattle.base.specs.Lists.{over}
use Rattle.base.specs.Sets.{members_below}
use Rattle.mask.specs.Mask.{in_mask, IsMask}
use Rattle.csr32.specs.Matrix.{stored, IsMatrix}
use Rattle.side.specs.Side.{side_holds}
use Rattle.side.specs.Check.{IsSide}
use Rattle.pattern.specs.Pattern.{pattern_ptr, pattern_columns}
use Rattle.binding.specs.Binding.{binding_check}
use Rattle.gather.specs.Plan.{plan_sources, plan_ptr}
use Rattle.numeric_plan.specs.Plan.{pair_entries}

-- a side of a topology, a matrix and a region of n nodes: inside, pairs and entries agree
pub record Binds (n : ℕ) (word_ptr indices masks ptr cols words : List ℕ) : Type 0 where
  pub rows : IsSide n n word_ptr indices masks
  pub matrix : IsMatrix n n ptr cols
  pub mask : IsMask n words
  pub binds : binding_check n (in_mask words) (side_holds word_ptr indices masks) (stored ptr cols) ≡ Ok tt

-- and five lists that begin with its plan
pub record PlanHeld (n : ℕ) (word_ptr indices masks ptr cols words nodes local_ptr local_cols source_ptr sources : List ℕ) : Type 0 where
  pub inputs : Binds n word_ptr indices masks ptr cols words
  pub nodes_held : over (members_below n (in_mask words)) nodes ≡ nodes
  pub ptr_held : over (pattern_ptr n (in_mask words) (side_holds word_ptr indices masks)) local_ptr ≡ local_ptr
  pub columns_held : over (pattern_columns n (in_mask words) (side_holds word_ptr indices masks)) local_cols ≡ local_cols
  pub starts_held : over (plan_ptr (pair_entries n (in_mask words) (side_holds word_ptr indices masks) ptr cols)) source_ptr ≡ source_ptr
  pub sources_held : over (plan_sources (pair_entries n (in_mask words) (side_holds word_ptr indices masks) ptr cols)) sources ≡ sources
