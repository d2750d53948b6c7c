-- `growth::inner::Graph::grow` meets its contract. Assumes nothing.
use Rattle.std.proofs.Common.{sym, subst, ◌∙◌}
use Rattle.mask.specs.Mask.{IsMask}
use Rattle.graph.proofs.Networks.{plain-whole}
use Rattle.growth.proofs.Visits.{visits-small}
use Rattle.growth.proofs.Growing.{alone}
use Rattle.growth.proofs.inner.Graph.grow.Goals.{Start}
use Rattle.growth.proofs.inner.Graph.grow.Goals as goal

-- the seeds are a mask of the graph's nodes
seeds-are : (c : Start) → IsMask c.args.self.n c.args.seeds.words.now
seeds-are c = subst (λ n. IsMask n c.args.seeds.words.now) c.requires.0 c.args.seeds.accepted

pub grow_by_hops-requires : goal.grow_by_hops-requires
grow_by_hops-requires c = (
  record { whole = plain-whole _ _; short = c.args.self.square.rows.few_cols; small = visits-small _ _ _ _ _ _ _ c.args.self.square },
  c.requires.0,
  c.copy.ensures ∙ (seeds-are (goal.at.grow_by_hops-requires c).Start).exact ∙ alone _ _,
  rw (sym c.requires.0) at c.requires.2,
  rw (sym c.requires.0) at c.requires.3,
)
