-- The search for the next row, kind after kind.
use mathlib.Core.Path.{◌≡◌}
use mathlib.Core.Logic.{◌⊎◌}
use Prim.Native.Nat.{◌<◌}
use Rattle.findings.specs.declared.Rows.{Rows}
use Rattle.findings.specs.RowSteps.{NoneTo}

-- t is the place s, or the first of a later kind
abbrev pub Onward : Rows → Rows → Type 0
Onward s t = ((t.kind ≡ s.kind) × (t.slot ≡ s.slot) × (t.from ≡ s.from)) ⊎ ((s.kind < t.kind) × (t.slot ≡ 0) × (t.from ≡ 0))

-- the search from the place s on has come to t
pub record Searched (s t : Rows) : Type 0 where
  pub slots : t.slots.now ≡ s.slots.now
  pub onward : Onward s t
  pub none : NoneTo s t.kind t.slot
