use Rattle.std.proofs.Common.{rules, ◌≡◌, ◌≤◌, length, take, refl, sym, subst, take_all}
use Rattle.std.specs.Io.KnownBytes.{Consumes}
use Rattle.streams.specs.Records.{MayAnswer, RecordsAnswered}
use Rattle.streams.proofs.Records.{none_yet, one_more, at_end, after_all}
use Rattle.streams.proofs.inner.answer_records.Goals.{else-loop-test, then-loop-test+in_ok-read_full+then-branch}
use Rattle.streams.proofs.inner.answer_records.Goals as goal

pub loop-init : goal.loop-init
loop-init g c = none_yet _ _ _ _

pub loop-preserved : goal.loop-preserved
loop-preserved g c =
    let call = c.read_full.new.list in
    let read = c.in_ok-read_full.field-0 in
    let long : length call ≡ g.row.N = search rules in
    let many : length call ≤ read = search rules in
    let whole : take read call ≡ call = take_all read call many in
    let taken = subst (Consumes _ _) whole c.in_ok-read_full.ensures.bytes in
    one_more _ _ _ _ _ _ _ _ _ call c.answer.new.arg3 c.loop.invariant long (_, _, _, _, refl, refl, c.answer.ensures, refl) taken c.in_ok-write_all.ensures.bytes

pub returns : goal.returns
returns g c =
    let ended = λ (x : g.row.R.Denot). RecordsAnswered (MayAnswer (goal.F-post g) c.args.answer g.row.M) g.row.N (g.R.Read.remaining c.args.input.now) (g.R.Read.remaining x) (g.W.Write.contents c.args.output.now) (g.W.Write.contents c.loop.output) in
    elim c.loop-test.branch [
      | else-loop-test w ↦ record { records = subst ended (sym w.input-is) (after_all _ _ _ _ _ _ _ c.loop.invariant (search rules)) }
      | then-loop-test+in_ok-read_full+then-branch w ↦
          let short : length w.read_full.new.list ≡ g.row.N = search rules in
          record { records = subst ended (sym w.input-is) (at_end _ _ _ _ _ _ _ _ (take w.in_ok-read_full.field-0 w.read_full.new.list) c.loop.invariant w.in_ok-read_full.ensures.bytes (search rules) (w.in_ok-read_full.ensures.full (search rules))) }
    ]
