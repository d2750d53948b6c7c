-- field_block_owners: the layout, 11 for the owners' length, 19, by block 20 and 21, then 25; the owner of each block.
use Rattle.std.specs.Prelude.{Bool, not, List, ℕ, ◌+◌, leb, ltb, eqb, length, get_or}
use Rattle.std.specs.Prelude.{Result}
use Rattle.base.specs.Checks.{Check, answer}
use Rattle.base.specs.declared.Refusal.{Refusal}
use Rattle.base.specs.declared.Refusal.TheVariants.{NoRanks, OwnerOutOfRange, OwnersDiffer, ListTooShort}
use Rattle.base.specs.Checks.{must, must_be, ◌then◌, checks_below, leaves}
use Rattle.base.specs.Lists.{list_from, over}
use Rattle.base.specs.Sets.{every_below}
use Rattle.dof_layout.specs.Layout.{start_of, total_of, layout_check}

-- a block's first owner
abbrev pub first_owner : List ℕ → List ℕ → ℕ → ℕ
first_owner components owners b = get_or owners (start_of components b) 0

-- all nodes of block b have its first owner
unfoldable pub same_owner : List ℕ → List ℕ → ℕ → Bool
same_owner components owners b = every_below (get_or components b 0) (λ j. eqb (get_or owners (start_of components b + j) 0) (first_owner components owners b))

-- one block: 20 where its first owner is not below the ranks, 21 where owners differ inside it
unfoldable pub owner_check : List ℕ → List ℕ → ℕ → ℕ → Check
owner_check components owners ranks b = must (ltb (first_owner components owners b) ranks) OwnerOutOfRange then must (same_owner components owners b) OwnersDiffer

-- what follows the layout, `room` being the list's length
unfoldable pub owned_check : List ℕ → List ℕ → ℕ → ℕ → Check
owned_check components owners ranks room =
    must_be (total_of components) (length owners)
    then must (not (eqb ranks 0)) NoRanks
    then checks_below (length components) (owner_check components owners ranks)
    then must (leb (length components) room) ListTooShort

unfoldable pub owners_check : List ℕ → List ℕ → List ℕ → List ℕ → List ℕ → List ℕ → ℕ → List ℕ → Check
owners_check kinds ids fields components offsets owners ranks out =
    layout_check kinds ids fields components offsets then owned_check components owners ranks (length out)

-- how many blocks there are, and so owners
abbrev pub owners_answer : Check → List ℕ → Result ℕ Refusal
owners_answer check components = answer check (length components)

-- the owner of each block
abbrev pub owners_of : List ℕ → List ℕ → List ℕ
owners_of components owners = list_from (first_owner components owners) (length components) 0

abbrev pub owners_list : Check → List ℕ → List ℕ → List ℕ → List ℕ
owners_list check components owners out = leaves check (over (owners_of components owners) out) out
