-- After a list of growths: what is done with the seeds that it left is done with the region of one growth by the total. Assumes nothing.
use mathlib.Core.Path.{◌≡◌, refl, ap, ◌∙◌}
use mathlib.Core.Bool.{Bool, true, false, cond}
use mathlib.Core.List.{List}
use Prim.Native.Nat.{ℕ}
use lib.Dec.{eqb}
use Rattle.graph.specs.Network.{Network, region_words}
use Rattle.growths.specs.Counts.{seeds_after}
use Rattle.growths.specs.declared.Ran.{Ran}
use Rattle.claims.specs.Run.{if_grown}

either : {A : Type 0} (b : Bool) (x : A) (made : List ℕ → A) (first grown : List ℕ) → cond b x (made (cond b first grown)) ≡ cond b x (made grown)
either true x made first grown = refl
either false x made first grown = refl

pub finished : {A : Type 0} (g : Network) (first seeds : List ℕ) (ran ran' : Ran) → ran ≡ ran' → seeds ≡ seeds_after g ran first → (made : Ran → List ℕ → A) (old : Ran → A)
    → if_grown ran (made ran seeds) (old ran) ≡ if_grown ran' (made ran' (region_words g first ran'.total)) (old ran')
finished g first seeds ran ran' e renewed made old =
    ap (λ (w : List ℕ). if_grown ran (made ran w) (old ran)) renewed
    ∙ either (eqb ran.accepted 0) (old ran) (made ran) first (region_words g first ran.total)
    ∙ ap (λ (r : Ran). if_grown r (made r (region_words g first r.total)) (old r)) e
