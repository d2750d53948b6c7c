-- `claims::inner::finish` meets its contract. Assumes nothing.
use mathlib.Core.Path.{ap, ◌∙◌}
use Rattle.claims.specs.Run.{with_cut}
use Rattle.growths.proofs.Growing.{grown-none, grown-some}
use Rattle.claims.proofs.inner.finish.Goals as goal

pub returns-then-ran-eq0 : goal.returns-then-ran-eq0
returns-then-ran-eq0 c =
    let e = c.if-ran-eq0.true in record {
      value = grown-none _ _ _ e;
      members = grown-none _ _ _ e;
      pointers = grown-none _ _ _ e;
      columns = grown-none _ _ _ e;
      starts = grown-none _ _ _ e;
      sources = grown-none _ _ _ e;
      filled = grown-none _ _ _ e;
    }

pub returns : goal.returns
returns c =
    let e = c.if-ran-eq0.false in
    let u = c.cut-local.ensures in record {
      value = ap (with_cut c.args.ran) u.value ∙ grown-some _ _ _ e;
      members = u.members ∙ grown-some _ _ _ e;
      pointers = u.pointers ∙ grown-some _ _ _ e;
      columns = u.columns ∙ grown-some _ _ _ e;
      starts = u.starts ∙ grown-some _ _ _ e;
      sources = u.sources ∙ grown-some _ _ _ e;
      filled = u.gathered ∙ grown-some _ _ _ e;
    }
