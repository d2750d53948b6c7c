-- Where a block lies, by the running offsets. Assumes nothing.
use Rattle.std.proofs.Common.{◌≡◌, sym, List, ℕ, ◌+◌, ◌≤◌, ◌<◌, arith, length, get_or, length-take-le}
use Rattle.dof_layout.specs.Layout.{start_of, total_of, offsets_of}
use Rattle.dof_layout.specs.declared.inner.Layout.{Layout}
use Rattle.dof_layout.proofs.Layouts.{start-next, start-mono, start_within, total-at}

-- block b is the nodes from `start` up to `end`
pub record Block (components : List ℕ) (b start end : ℕ) : Type 0 where
  pub starts : start_of components b ≡ start
  pub ends : start_of components (b + 1) ≡ end
  pub size : end ≡ start + get_or components b 0
  pub within : end ≤ total_of components

pub block-of : (components : List ℕ) (b start end : ℕ) → b < length components → start ≡ start_of components b → end ≡ start_of components (b + 1) → Block components b start end
block-of components b start end h s e =
    record {
      starts = sym s;
      ends = sym e;
      size = omega (arith, start-next components b);
      within = omega (arith, start-mono components (b + 1) (length components) (omega arith));
    }

pub block-at : (offsets components : List ℕ) (b : ℕ) → offsets ≡ offsets_of components → b < length components → Block components b (get_or offsets b 0) (get_or offsets (b + 1) 0)
block-at offsets components b e h = block-of components b _ _ h (total-at offsets components b e (omega arith)) (total-at offsets components (b + 1) e (omega arith))

-- of a layout that was accepted, the first node of a block is a node
pub first-node : (l : Layout) (b : ℕ) → b < length l.components.now → start_of l.components.now b < total_of l.components.now
first-node l b h = omega (arith, start_within l.components.now b h, l.filled b)

-- what a loop over its blocks needs
pub ruleset blocks = (first-node, length-take-le)
