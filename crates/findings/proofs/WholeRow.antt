-- A row is what it has from 0 on.
use mathlib.Core.Path.{◌≡◌, sym, ap, ap₂, ◌∙◌}
use mathlib.Core.Bool.{Bool, true, ◌&&◌, and-true}
use mathlib.Core.List.{List}
use Prim.Native.Nat.{ℕ, ◌<◌}
use native.Mathlib.Omega.{arith}
use Rattle.bitrow.specs.Bit.{bit_at, Row}
use Rattle.bitrow.specs.Set.{under, at_least, meet}
use Rattle.bitrow.proofs.Sets.{meet-at, under-in, at-least-in, bounded-meet-left, bounded-ext}
use Rattle.bitrow.proofs.Rows.{row-bounded}

pub whole-row : (r : List ℕ) → Row r → (i : ℕ) → i ≡ 0 → bit_at r ≡ meet (bit_at r) (meet (at_least i) (under 256))
whole-row r p i z = bounded-ext (row-bounded r p) (bounded-meet-left (row-bounded r p) tail) (λ j h. sym (meet-at (bit_at r) tail j ∙ ap (λ b. bit_at r j && b) (there j h) ∙ and-true (bit_at r j)))
  where
    tail : ℕ → Bool
    tail = meet (at_least i) (under 256)

    there : (j : ℕ) → j < 256 → tail j ≡ true
    there j h = meet-at (at_least i) (under 256) j ∙ ap₂ ◌&&◌ (at-least-in i j (omega arith)) (under-in 256 j h)
