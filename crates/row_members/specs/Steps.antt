-- What a step of each iterator gives, and what it leaves.
use Rattle.std.specs.Prelude.{◌≡◌, false, ℕ, ◌+◌, ◌≤◌, ◌<◌, Option, Some, None}
use Rattle.std.specs.Int.Count.{count_trailing_zeros}
use Rattle.bitrow.specs.Bit.{bit, bit_at}
use Rattle.bitrow.specs.Set.{remove, Lowest}
use Rattle.row_members.specs.declared.Members.{Members}
use Rattle.row_members.specs.declared.Bits.{Bits}

-- the lowest number from s.from on, and the numbers above it are left; or there is none
abbrev pub MemberSteps : Members → Option ℕ → Members → Type 0
MemberSteps s None t = (k : ℕ) → s.from ≤ k → k < 256 → bit_at s.row k ≡ false
MemberSteps s (Some c) t = Lowest (bit_at s.row) s.from 256 c × (t.row ≡ s.row) × (t.from ≡ c + 1)

-- the lowest bit, and the word without it is left; or the word is 0
abbrev pub BitSteps : Bits → Option ℕ → Bits → Type 0
BitSteps s None t = s.0 ≡ 0
BitSteps s (Some i) t = (0 < s.0) × (i ≡ count_trailing_zeros 64 s.0) × (bit t.0 ≡ remove i (bit s.0)) × (t.0 < s.0)
