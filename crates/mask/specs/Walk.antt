-- A walk over a mask's members in rising order.
use Rattle.std.specs.Prelude.{◌≡◌, List, ℕ, Option, ◌+◌, ◌-◌, ◌<◌, MatchOption}
use Rattle.base.specs.Sets.{first_below}
use Rattle.mask.specs.Mask.{in_mask}
use Rattle.mask.specs.declared.inner.Members.{Members}

-- the first member at or after `from`, or the length
abbrev pub next_member_of : ℕ → List ℕ → ℕ → ℕ
next_member_of len words from = from + first_below (len - from) (λ j. in_mask words (from + j))

-- a call of `next` gives the first member at or after the place, which is then one past it, or nothing where none is left
abbrev pub StepsOn : Members → Option ℕ → Members → Type 0
StepsOn s r t =
    (t.mask ≡ s.mask)
    × MatchOption r (next_member_of s.mask.len s.mask.words.now s.at ≡ s.mask.len)
    (λ i. (i ≡ next_member_of s.mask.len s.mask.words.now s.at) × (i < s.mask.len) × (t.at ≡ i + 1))
