-- The answer to a cursor: the next finding and the cursor moved to it, or none.
use Rattle.std.proofs.Math.Option as model
use Rattle.std.specs.Prelude.{ℕ, ◌/◌, ◌%◌, Option, Some, None}
use Rattle.model.specs.declared.Finding.{Finding}
use Rattle.model.specs.Findings.{Place}
use Rattle.findings.specs.declared.Cursor.{Cursor}

abbrev pub place_from : ℕ → ℕ → ℕ → Place
place_from k a b = record { kind = k; a = a; b = b }

-- the place of the finding whose number this is
abbrev pub place_at : ℕ → Place
place_at code = place_from (code / 4294967296) (code / 65536 % 65536) (code % 65536)

-- the place that a cursor stands at
abbrev pub cursor_place : Cursor → Place
cursor_place c = place_from c.kind c.a c.b

-- the cursor at a finding
abbrev pub moved_to : Finding → Cursor
moved_to g = record { kind = g.kind; a = g.a; b = g.b }

-- "gives the first finding after them in the order, or says there is none": the finding is the place to go on from
abbrev pub next_step : model.Option Finding → Option (Finding × Cursor)
next_step model.none = None
next_step (model.some g) = Some (g, moved_to g)

-- "The start is 0 0 0."
abbrev pub start_cursor : Cursor
start_cursor = record { kind = 0; a = 0; b = 0 }
