-- `job_text::inner::write_refused` meets its contract. Assumes nothing.
use mathlib.Core.Path.{◌≡◌, refl, sym, ap, ◌∙◌}
use Rattle.std.specs.Prelude.{Ok, Err}
use native.Mathlib.Omega.{arith}
use borrow.Author.Tests.{le-leb, lt-leb}
use lib.ListN.{length}
use Rattle.std.proofs.Common.{rules}
use Rattle.base.specs.Lists.{over}
use Rattle.base.proofs.Checks.{on-accepted, on-refused, kept, last-pass, last-stop}
use Rattle.text_writing.specs.Text.{decimal, line}
use Rattle.job_text.specs.Answer.{refused_key, text_check}
use Rattle.job_text.proofs.Lines.{placed-front}
use Rattle.job_text.proofs.inner.write_refused.Goals as goal

pub returns-then-length-out : goal.returns-then-length-out
unfolding text_check
returns-then-length-out c =
    let text = line refused_key (decimal c.args.number) in
    let e = sym (last-stop _ _ _ (lt-leb (length text) (length c.args.out.now) (omega (arith, c.line_length-length.ensures.value, c.if-length-out.true))) refl) in record {
      value = on-refused _ _ _ Err e;
      out_after = kept _ _ _ _ e;
    }

pub put_line-requires : goal.put_line-requires
put_line-requires c = omega (arith, c.line_length-length.ensures.value)

pub returns : goal.returns
unfolding text_check
returns c =
    let text = line refused_key (decimal c.args.number) in
    let n = c.line_length-length.ensures.value in
    let put : c.put_line.new.out.bytes.now ≡ over text c.args.out.now = c.put_line.ensures.bytes ∙ placed-front text c.args.out.now in
    let e = sym (last-pass _ _ _ (le-leb (length text) (length c.args.out.now) (omega (arith, n))) refl) in record {
      value = on-accepted _ _ _ _ e (ap Ok n);
      out_after = on-accepted _ _ _ _ e (search rules ∙ put);
    }
