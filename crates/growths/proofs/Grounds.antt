-- What plain growths and field growths share: only 25 can refuse one of a list, and there are no more blocks than nodes. Assumes nothing.
use mathlib.Core.Path.{◌≡◌, refl, sym, ap, ◌∙◌, subst}
use Rattle.std.specs.Prelude.{Ok}
use Rattle.base.specs.Checks.{Check}
use mathlib.Core.Bool.{Bool}
use mathlib.Core.List.{List}
use Prim.Native.Nat.{ℕ, zero, suc, ◌≤◌}
use native.Mathlib.Omega.{arith}
use borrow.Author.Tests.{eq-eqb}
use lib.ListN.{length}
use Rattle.base.specs.Checks.{side_limit}
use Rattle.base.proofs.Checks.{then_next, last-pass, both-passed}
use Rattle.mask.specs.Mask.{mask_check, length_check}
use Rattle.mask.proofs.Masks.{mask-accepted, words-accepted}
use Rattle.dof_layout.specs.Layout.{start_of, total_of, IsLayout}
use Rattle.dof_layout.specs.Answers.{square_check}
use Rattle.dof_layout.proofs.Layouts.{start-suc, none-empty}
use Rattle.side.proofs.Accepted.{limits_passed}
use Rattle.dual_topology.specs.Check.{topology_check}
use Rattle.graph.specs.Network.{plain_network, region_words}
use Rattle.graph.proofs.Networks.{plain-whole, field-whole}
use Rattle.growth.specs.Lent.{masks_room}
use Rattle.region.specs.Growth.{grow_check}
use Rattle.field_region.specs.Growth.{field_grow_check}
use Rattle.field_region.proofs.Accepted.{accepted-square}
use Rattle.growths.specs.Runs.{Growth, Ground, plain_ground, field_ground, begun, run}
pub use Rattle.growths.specs.Solid.{Solid}
use Rattle.growths.proofs.Runs.{holds_run}

-- a layout has no more blocks than nodes
pub blocks-le : (kinds ids fields components offsets : List ℕ) → IsLayout kinds ids fields components offsets → length components ≤ total_of components
blocks-le kinds ids fields components offsets l = up (length components) (omega arith)
  where
    up : (b : ℕ) → b ≤ length components → b ≤ start_of components b
    up zero h = omega arith
    up (suc b) h = omega (arith, up b (omega arith), start-suc components b, none-empty kinds ids fields components l.blocks b (omega arith))

-- an accepted topology has few rows
pub few-rows : (nrows ncols : ℕ) (ptr idx masks : List ℕ) (pairs nrows2 ncols2 : ℕ) (ptr2 idx2 masks2 : List ℕ) (pairs2 : ℕ)
    → topology_check nrows ncols ptr idx masks pairs nrows2 ncols2 ptr2 idx2 masks2 pairs2 ≡ Ok tt → nrows ≤ side_limit
unfolding topology_check
few-rows nrows ncols ptr idx masks pairs nrows2 ncols2 ptr2 idx2 masks2 pairs2 e = (limits_passed nrows ncols idx masks pairs (both-passed _ _ e).0).few_rows

pub square-solid : (topology : Check) (side cols len : ℕ) (s : ℕ → ℕ → Bool) → topology ≡ Ok tt → side ≡ cols → side ≤ side_limit → len ≡ side
    → Solid side len (record { network = plain_network side s; check = grow_check topology side cols len })
unfolding grow_check
square-solid topology side cols len s ok square small same =
    record {
      small = small;
      same = same;
      nodes = refl;
      few = omega (arith, small);
      whole = plain-whole side s;
      room = λ seeds e c. then_next _ _ (then_next _ _ ok ∙ sym (last-pass _ _ _ (eq-eqb side cols square) refl)) ∙ then_next _ _ e;
    }

pub plain-solid : (topology : Check) (side len : ℕ) (s : ℕ → ℕ → Bool) → topology ≡ Ok tt → side ≤ side_limit → len ≡ side → Solid side len (plain_ground topology side s len)
plain-solid topology side len s ok small same = square-solid topology side side len s ok refl small same

pub field-solid : (topology : Check) (kinds ids fields components offsets : List ℕ) (nrows ncols len : ℕ) (s : ℕ → ℕ → Bool) → topology ≡ Ok tt → square_check kinds ids fields components offsets nrows ncols ≡ Ok tt → nrows ≤ side_limit → len ≡ nrows
    → Solid nrows len (field_ground topology (square_check kinds ids fields components offsets nrows ncols) components s len)
unfolding field_grow_check
field-solid topology kinds ids fields components offsets nrows ncols len s ok square small same =
    let q = accepted-square kinds ids fields components offsets nrows ncols square in
    record {
      small = small;
      same = same;
      nodes = sym q.1;
      few = omega (arith, small, q.1, blocks-le kinds ids fields components offsets q.0);
      whole = field-whole components s;
      room = λ seeds m c.
          let t : length_check (total_of components) len seeds ≡ (Ok tt) = subst (λ (n : ℕ). length_check n len seeds ≡ Ok tt) q.1 m in
          then_next _ _ ok ∙ then_next _ _ square ∙ then_next _ _ t
          ∙ ap (λ (n : ℕ). masks_room n (length c.region) (length c.frontier) (length c.scratch)) (sym q.1);
    }

-- what is grown is accepted as seeds
pub region-accepted : (side len : ℕ) (k : Ground) → Solid side len k → (seeds : List ℕ) (h : ℕ) → length_check side len (region_words k.network seeds h) ≡ Ok tt
unfolding region_words
region-accepted side len k solid seeds h =
    words-accepted side len (region_words k.network seeds h) solid.same
    (subst (λ (n : ℕ). mask_check n (region_words k.network seeds h) ≡ Ok tt) solid.nodes
    (mask-accepted k.network.nodes _ (omega (arith, solid.small, solid.nodes))))

-- so are the seeds of a list of growths, all along
pub run-accepted : (side len : ℕ) (k : Ground) → Solid side len k → (first : List ℕ) → length_check side len first ≡ Ok tt → (cs : List Growth) → length_check side len (run k (begun first) cs).seeds ≡ Ok tt
run-accepted side len k solid first ok cs = go (run k (begun first) cs).accepted refl
  where
    go : (n : ℕ) → (run k (begun first) cs).accepted ≡ n → length_check side len (run k (begun first) cs).seeds ≡ Ok tt
    go zero e = subst (λ (w : List ℕ). length_check side len w ≡ Ok tt) (sym ((holds_run k first cs).before e)) ok
    go (suc n) e = subst (λ (w : List ℕ). length_check side len w ≡ Ok tt) (sym ((holds_run k first cs).region (omega arith))) (region-accepted side len k solid first (run k (begun first) cs).total)
