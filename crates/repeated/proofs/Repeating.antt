-- A growth after a growth: what the first left is written again, and one answer is told. Assumes nothing.
use mathlib.Core.Path.{◌≡◌, refl, sym, ap, ◌∙◌}
use Rattle.std.specs.Prelude.{Ok, Err}
use Rattle.base.specs.Checks.{Check}
use mathlib.Core.Bool.{false}
use mathlib.Core.List.{List, ◌++◌}
use Prim.Native.Nat.{ℕ, ◌≤◌}
use native.Mathlib.Omega.{arith}
use lib.ListN.{length, drop, length-append}
use lib.Seq.{drop-append_seam}
use Rattle.base.specs.Checks.{leaves}
use Rattle.base.specs.Lists.{over}
use Rattle.mask.specs.Mask.{mask_words}
use Rattle.graph.specs.Network.{Network, region_words, frontier_words}
use Rattle.side.specs.Views.{holds, pairs}
use Rattle.side.specs.declared.AbtmTopology.{AbtmTopology}
use Rattle.side.specs.declared.inner.Side.{Side}
use Rattle.growth.specs.Visits.{grown_by}
use Rattle.growth.specs.declared.Grown.{Grown}
use Rattle.base.proofs.Lists.{part_left}
use Rattle.region.specs.Growth.{grow_answer}
use Rattle.region.specs.declared.AbtmRegionGrowthStats.{AbtmRegionGrowthStats}
use Rattle.field_region.specs.Growth.{field_grow_answer, blocks_grown_by}
use Rattle.field_region.specs.declared.FieldAwareRegionStats.{FieldAwareRegionStats}
use Rattle.field_region.specs.declared.BlocksGrown.{BlocksGrown}
use Rattle.repeated.specs.Views.{SideOf}
use Rattle.repeated.specs.Repeated.{value_answer, hops_answer, field_hops_answer}

-- what one growth answers and leaves in lists of just the masks' lengths
pub record Once {A : Type 0} (g : Network) (seeds : List ℕ) (h : ℕ) (answer grown : A) (region frontier scratch : List ℕ) : Type 0 where
  pub same : grown ≡ answer
  pub inside : region ≡ region_words g seeds h
  pub edge : frontier ≡ frontier_words g seeds h
  pub zero : scratch ≡ mask_words g.nodes (λ i. false)

-- a list that a call left, accepted
pub left_is : (check : Check) (new old x : List ℕ) → check ≡ Ok tt → x ≡ leaves check new old → x ≡ new
left_is check new old x e h = h ∙ ap (λ (t : Check). leaves t new old) e

-- and written again with the same answer
module _ (answer lent x : List ℕ) (need : ℕ) (left : x ≡ over answer lent) (l : need ≡ length answer) where
  pub again-room : need ≤ length x
  again-room = omega (arith, length-append answer (drop (length answer) lent), ap length left)

  pub again-left : (part : List ℕ) → part ≡ answer → part ++ drop need x ≡ over answer lent
  again-left part e =
      part_left part answer x need e l
      ∙ ap (λ (r : List ℕ). answer ++ drop (length answer) r) left
      ∙ ap (λ (r : List ℕ). answer ++ r) (drop-append_seam answer (drop (length answer) lent))

-- ---- an answer that grew was accepted

pub grown-accepted : (check : Check) (g : Network) (seeds : List ℕ) (h : ℕ) (s : AbtmRegionGrowthStats) → grow_answer check g seeds h ≡ Ok s → check ≡ Ok tt
grown-accepted (Ok tt) g seeds h s e = refl
grown-accepted (Err r) g seeds h s e = let z : ◌≡◌ {A = ℕ} 0 1 = cc in absurd (omega arith)

pub field-accepted : (check : Check) (g : Network) (seeds : List ℕ) (h : ℕ) (s : FieldAwareRegionStats) → field_grow_answer check g seeds h ≡ Ok s → check ≡ Ok tt
field-accepted (Ok tt) g seeds h s e = refl
field-accepted (Err r) g seeds h s e = let z : ◌≡◌ {A = ℕ} 0 1 = cc in absurd (omega arith)

-- ---- its hops are told

pub hops-told : (check : Check) (g : Network) (seeds : List ℕ) (h : ℕ) (x : Grown) → check ≡ Ok tt → x ≡ grown_by g seeds h → value_answer x.hops ≡ hops_answer (grow_answer check g seeds h)
unfolding hops_answer
hops-told check g seeds h x e ex = ap (λ (y : Grown). value_answer y.hops) ex ∙ ap (λ (t : Check). hops_answer (grow_answer t g seeds h)) (sym e)

pub field-hops-told : (check : Check) (g : Network) (seeds : List ℕ) (h : ℕ) (x : BlocksGrown) → check ≡ Ok tt → x ≡ blocks_grown_by g seeds h → value_answer x.grown.hops ≡ field_hops_answer (field_grow_answer check g seeds h)
unfolding field_hops_answer
field-hops-told check g seeds h x e ex = ap (λ (y : BlocksGrown). value_answer y.grown.hops) ex ∙ ap (λ (t : Check). field_hops_answer (field_grow_answer t g seeds h)) (sym e)

-- what is made of a side holds its pairs
pub side-pairs : (n : ℕ) (t : AbtmTopology) (s : Side) → SideOf n t s → pairs s ≡ holds t
side-pairs n t s e = cc (e.2, e.3, e.4)
