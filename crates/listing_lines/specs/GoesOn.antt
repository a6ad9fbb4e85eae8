-- Where a listing goes on.
use Rattle.std.specs.Prelude.{◌≡◌, List, ℕ, ◌<◌, length, Option, Some, None}
use Rattle.model.specs.declared.Finding.{Finding}
use Rattle.model.specs.Findings.{Place, moved}
use Rattle.findings.specs.declared.Cursor.{Cursor}
use Rattle.findings.specs.Steps.{cursor_place}

-- n findings after the place p were asked for, and l were found: as many, and it goes on from the last of them; or fewer, and none is left
abbrev pub GoesOn : ℕ → Place → List Finding → Option Cursor → Type 0
GoesOn n p l None = length l < n
GoesOn n p l (Some c) = (length l ≡ n) × (cursor_place c ≡ moved p l)
