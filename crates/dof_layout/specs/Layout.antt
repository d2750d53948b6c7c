-- A layout: blocks of consecutive nodes, each with a kind, an id, a field id and a component count, in four lists; once built, its offsets.
-- Its check, and the block of a node.
use Rattle.std.specs.Prelude.{◌≡◌, Bool, not, ◌||◌, List, ℕ, suc, ◌≤◌, ◌<◌, leb, eqb, length, get_or}
use Rattle.base.specs.Checks.{Check}
use Rattle.base.specs.declared.Refusal.TheVariants.{OverLimit, NoBlock, EmptyBlock, RepeatedBlock, UnknownKind, BadPointers}
use Rattle.base.specs.Checks.{must, must_be, ◌then◌, checks_below, side_limit}
use Rattle.base.specs.Lists.{same_list, list_from}
use Rattle.base.specs.Sets.{between, any_below, first_below, sum_below}
use Rattle.twins.specs.Keys.{same_key}

-- ---- blocks take consecutive nodes from 0

-- the first node of block b: the running total of the blocks before it
unfoldable pub start_of : List ℕ → ℕ → ℕ
start_of components b = sum_below b (λ i. get_or components i 0)

-- how many nodes there are
abbrev pub total_of : List ℕ → ℕ
total_of components = start_of components (length components)

-- the running totals: one for each block, and the total
unfoldable pub offsets_of : List ℕ → List ℕ
offsets_of components = list_from (start_of components) (suc (length components)) 0

-- node i is one of block b's: the offsets of the block bracket it
abbrev pub in_block : List ℕ → ℕ → ℕ → Bool
in_block components b i = between (start_of components b) (start_of components (suc b)) i

-- the block of a node
unfoldable pub block_of : List ℕ → ℕ → ℕ
block_of components i = first_below (length components) (λ b. in_block components b i)

-- ---- checks

-- 17: the kind is 1 to 6 or 255
unfoldable pub is_kind_code : ℕ → Bool
is_kind_code kind = between 1 7 kind || eqb kind 255

-- one block: 17, 15, 16 against every earlier block, 1 for the total with it
unfoldable pub block_check : List ℕ → List ℕ → List ℕ → List ℕ → ℕ → Check
block_check kinds ids fields components b =
    must (is_kind_code (get_or kinds b 0)) UnknownKind
    then must (not (eqb (get_or components b 0) 0)) EmptyBlock
    then must (not (any_below b (λ a. same_key kinds ids fields a b))) RepeatedBlock
    then must (leb (start_of components (suc b)) side_limit) OverLimit

-- the four lists: 14, 11 for ids, fields and components against the kinds, then block by block
unfoldable pub blocks_check : List ℕ → List ℕ → List ℕ → List ℕ → Check
blocks_check kinds ids fields components =
    must (not (eqb (length kinds) 0)) NoBlock
    then must_be (length kinds) (length ids)
    then must_be (length kinds) (length fields)
    then must_be (length kinds) (length components)
    then checks_below (length kinds) (block_check kinds ids fields components)

-- a built layout: its blocks, then 26
unfoldable pub layout_check : List ℕ → List ℕ → List ℕ → List ℕ → List ℕ → Check
layout_check kinds ids fields components offsets =
    blocks_check kinds ids fields components then must (same_list offsets (offsets_of components)) BadPointers

-- ---- what acceptance gives

pub record AreBlocks (kinds ids fields components : List ℕ) : Type 0 where
  pub some : 0 < length kinds
  pub ids_length : length ids ≡ length kinds
  pub fields_length : length fields ≡ length kinds
  pub components_length : length components ≡ length kinds
  -- no block is empty
  pub filled : (b : ℕ) → b < length kinds → 0 < get_or components b 0
  pub short : total_of components ≤ side_limit

pub record IsLayout (kinds ids fields components offsets : List ℕ) : Type 0 where
  pub blocks : AreBlocks kinds ids fields components
  pub running : offsets ≡ offsets_of components
