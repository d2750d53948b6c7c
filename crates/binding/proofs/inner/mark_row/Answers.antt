-- `binding::inner::mark_row` meets its contract. One word is stored: with the row's bit, or as it was. Assumes nothing.
use mathlib.Core.Path.{sym, ap, ◌∙◌}
use mathlib.Core.Bool.{Bool, true, cond}
use mathlib.Core.List.{List}
use Prim.Native.Nat.{ℕ, ◌/◌}
use native.Mathlib.Omega.{arith}
use borrow.Author.Tests.{lt-ltb, le-ltb}
use lib.Bits.{bit_or, or_zero_r}
use lib.ListN.{get_or, set}
use lib.Seq.{set-get_or}
use Rattle.mask.specs.Answers.{with_node}
use Rattle.mask.proofs.Masks.{is-length}
use Rattle.mask.proofs.Stores.{put_in}
use Rattle.binding.proofs.inner.mark_row.Goals.{else-pairs-gt0, then-pairs-gt0}
use Rattle.binding.proofs.inner.mark_row.Goals as goal

pub bounds-paired-r : goal.bounds-paired-r
bounds-paired-r c = omega (arith, is-length _ _ c.requires.0, c.requires.1)

pub bounds-paired-r-2 : goal.bounds-paired-r-2
bounds-paired-r-2 c = omega (arith, is-length _ _ c.requires.0, c.requires.1)

pub returns : goal.returns
returns c =
    let words = c.args.paired.now in
    let marked = with_node c.args.n words c.args.r true in
    let stored : ℕ → List ℕ = λ b. set words (c.args.r / 64) (bit_or (get_or words (c.args.r / 64) 0) b) in
    elim c.if-pairs-gt0.branch [ then-pairs-gt0 w ↦ ap stored w.bit-is ∙ put_in c.args.n words c.requires.0 c.args.r c.requires.1 ∙ sym (ap (λ (t : Bool). cond t marked words) (lt-ltb _ _ w.if-pairs-gt0.true)) | else-pairs-gt0 w ↦ ap stored w.bit-is ∙ ap (λ (x : ℕ). set words (c.args.r / 64) x) (or_zero_r _) ∙ set-get_or words (c.args.r / 64) 0 ∙ sym (ap (λ (t : Bool). cond t marked words) (le-ltb _ _ w.if-pairs-gt0.false)) ]
