-- Document 01's examples of gathered values and of the refusals of gather_values, by computing the definitions. Assumes nothing.
use mathlib.Core.Path.{◌≡◌, refl}
use Rattle.std.specs.Prelude.{Ok, Err}
use Rattle.base.specs.declared.Refusal.TheVariants.{NotFinite, ListTooShort, BadPointers, WrongLength}
use mathlib.Core.Bool.{true, false}
use mathlib.Core.List.{List, [], ◌∷◌}
use lib.IntN.{pos, negsuc}
use lib.Ieee.{Float, inf, fin, binary64, add, of_bits}
use Rattle.base.specs.Checks.{must, must_be, ◌then◌}
use Rattle.base.specs.Lists.{list_from}
use Rattle.gather.specs.Gather.{plus_zero, gathered, gather_check, gather_answer, gather_left}

-- 1.5, 2.25, 3.75 and -0.0
abbrev first : Float
first = fin false 3 (negsuc 0)

abbrev second : Float
second = fin false 9 (negsuc 1)

abbrev both : Float
both = fin false 15 (negsuc 1)

abbrev minus_zero : Float
minus_zero = fin true 0 (pos 0)

-- the entries (0,0) = 1.5, (0,0) = 2.25, (1,1) = -0.0
abbrev values : List Float
values = first ∷ second ∷ minus_zero ∷ []

pub record Bits : Type 0 where
  pub first_bits : of_bits binary64 0x3ff8_0000_0000_0000 ≡ first
  pub second_bits : of_bits binary64 0x4002_0000_0000_0000 ≡ second
  pub both_bits : of_bits binary64 0x400e_0000_0000_0000 ≡ both
  pub minus_bits : of_bits binary64 0x8000_0000_0000_0000 ≡ minus_zero

pub bits : Bits
unfolding of_bits
bits = record { first_bits = refl; second_bits = refl; both_bits = refl; minus_bits = refl }

pub record Gathers : Type 0 where
  -- pair (0,0) has two sources, so every pair is summed, and -0.0 from 0.0 is 0.0
  pub both_nodes : gathered (0 ∷ 2 ∷ 3 ∷ []) (0 ∷ 1 ∷ 2 ∷ []) values ≡ both ∷ plus_zero ∷ []
  -- node 1 alone: its one pair has one source, whose bits are copied
  pub second_alone : gathered (0 ∷ 1 ∷ []) (2 ∷ []) values ≡ minus_zero ∷ []

pub gathers : Gathers
unfolding gathered list_from add
gathers = record { both_nodes = refl; second_alone = refl }

pub record Calls : Type 0 where
  pub check : gather_check (0 ∷ 2 ∷ 3 ∷ []) (0 ∷ 1 ∷ 2 ∷ []) 3 values (first ∷ first ∷ first ∷ []) ≡ Ok tt
  pub count : gather_answer (Ok tt) (0 ∷ 2 ∷ 3 ∷ []) ≡ Ok 2
  -- what stands past the values is as it was
  pub left : gather_left (Ok tt) (0 ∷ 2 ∷ 3 ∷ []) (0 ∷ 1 ∷ 2 ∷ []) values (first ∷ first ∷ first ∷ []) ≡ both ∷ plus_zero ∷ first ∷ []

pub calls : Calls
unfolding gather_check must must_be ◌then◌ gathered list_from add
calls = record { check = refl; count = refl; left = refl }

pub record Refusals : Type 0 where
  pub no_pointers : gather_check [] [] 0 [] [] ≡ Err BadPointers
  pub one_one : gather_check (1 ∷ 1 ∷ []) [] 0 [] (first ∷ []) ≡ Err BadPointers
  pub falls : gather_check (0 ∷ 2 ∷ 1 ∷ []) (0 ∷ []) 3 values (first ∷ first ∷ []) ≡ Err BadPointers
  pub wrong_end : gather_check (0 ∷ 2 ∷ []) (0 ∷ []) 3 values (first ∷ []) ≡ Err BadPointers
  pub past_values : gather_check (0 ∷ 1 ∷ []) (3 ∷ []) 3 values (first ∷ []) ≡ Err BadPointers
  pub values_length : gather_check (0 ∷ 1 ∷ []) (2 ∷ []) 3 (first ∷ second ∷ []) (first ∷ []) ≡ Err (WrongLength 3 2)
  pub infinity : gather_check (0 ∷ 1 ∷ []) (2 ∷ []) 3 (first ∷ inf false ∷ second ∷ []) (first ∷ []) ≡ Err NotFinite
  pub short_list : gather_check (0 ∷ 2 ∷ 3 ∷ []) (0 ∷ 1 ∷ 2 ∷ []) 3 values (first ∷ []) ≡ Err ListTooShort

pub refusals : Refusals
unfolding gather_check must must_be ◌then◌
refusals = record {
  no_pointers = refl;
  one_one = refl;
  falls = refl;
  wrong_end = refl;
  past_values = refl;
  values_length = refl;
  infinity = refl;
  short_list = refl;
}
