-- `pattern::inner::Ranked::number` meets its contract. The members before the word are counted in advance, those in it by its bits. Assumes nothing.
use mathlib.Core.Path.{◌≡◌, sym, ap, ap₂, ◌∙◌}
use Prim.Native.Nat.{ℕ, ◌+◌, ◌*◌, ◌/◌, ◌%◌}
use native.Mathlib.Omega.{arith}
use lib.ListN.{get_or}
use Rattle.base.proofs.Sets.{count-le}
use Rattle.word.specs.Bits.{bit_at}
use Rattle.mask.specs.Mask.{in_mask}
use Rattle.mask.proofs.Masks.{is-length}
use Rattle.pattern.specs.Pattern.{number_of}
use Rattle.pattern.proofs.Rows.{number-at}
use Rattle.pattern.proofs.inner.Ranked.number.Goals as goal

pub bounds-self-w-2 : goal.bounds-self-w-2
bounds-self-w-2 c = omega (arith, is-length _ _ c.args.self.local.region.accepted, c.requires)

pub overflow_add-result : goal.overflow_add-result
overflow_add-result c =
    let w : ℕ = c.args.c / 64 in
    omega (arith, c.args.self.counted w (omega (arith, c.requires)), count-le (64 * w) (in_mask c.args.self.local.region.words.now), c.rank.ensures, count-le (c.args.c % 64) (bit_at (get_or c.args.self.local.region.words.now w 0)), c.requires, c.args.self.local.region.accepted.short)

pub returns : goal.returns
returns c =
    let region = c.args.self.local.region.words.now in
    let w : ℕ = c.args.c / 64 in
    let b : ℕ = c.args.c % 64 in
    let e : 64 * w + b ≡ c.args.c = omega arith in
    ap₂ ◌+◌ (c.args.self.counted w (omega (arith, c.requires))) c.rank.ensures
    ∙ sym (number-at region w b (omega arith)) ∙ ap (number_of (in_mask region)) e
