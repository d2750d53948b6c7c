use Rattle.std.proofs.Common.{◌≡◌, refl, ◌∙◌}
use Rattle.std.specs.Prelude.{Float}
use Rattle.std.specs.Float.{nan, inf, fin, float_is_finite}
use Rattle.csr32.specs.Matrix.{finite}
use Rattle.csr32.proofs.is_finite.Goals as goal

pub returns : goal.returns
unfolding float_is_finite
returns c = c.is_finite.ensures.value ∙ same c.args.x
  where
    same : (x : Float) → float_is_finite x ≡ finite x
    same nan = refl
    same (inf s) = refl
    same (fin s m e) = refl
