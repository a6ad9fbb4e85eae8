-- The slots at which there can be a finding.
use Rattle.std.specs.Prelude.{◌≡◌, Bool, true, List, [], ℕ, get_or}
use Rattle.bitrow.specs.Bit.{bit_at}
use Rattle.container_findings.specs.Rows.{shown_at}

-- those of the kind of this number, where there is a row of them for each
abbrev pub slots_of : List (List ℕ) → ℕ → ℕ → Bool
slots_of slots k = bit_at (get_or slots k [])

-- what a finding of a kind is at is among those of the kind
pub record SlotsOf (m : List ℕ) (slots : List (List ℕ)) : Type 0 where
  pub each : (k a b : ℕ) → shown_at m k a b ≡ true → slots_of slots k a ≡ true
