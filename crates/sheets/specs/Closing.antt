-- What the steps after the input do: one puts the counts, the others the findings, as many as find room.
use Rattle.std.specs.Prelude.{cond, List, [], ℕ, ◌/◌, min, ltb, length}
use Rattle.std.proofs.Math.Option.{Option, none, some}
use Rattle.model.specs.Findings.{Place}
use Rattle.model.specs.Calls.{Answer, ask, counts, list_findings, said}
use Rattle.steps.specs.MemoryStep.{memory_step}
use Rattle.findings.specs.declared.Cursor.{Cursor}
use Rattle.findings.specs.Steps.{cursor_place, start_cursor}
use Rattle.text.specs.Lines.{counts_line, code_lines}
use Rattle.sheets.specs.declared.State.{State}
use Rattle.sheets.specs.declared.State.TheVariants.{Listing, Finished}

-- ---- the counts

abbrev pub after_counts : Option (ℕ × ℕ × ℕ) → List ℕ × State
after_counts none = ([], Finished)
after_counts (some n) = (counts_line n.0 n.1 n.2, Listing start_cursor)

abbrev pub counting : Answer → List ℕ × State
counting a = after_counts (said a).counts

unfoldable pub count_step : List ℕ → List ℕ × State
count_step m = counting (memory_step m (ask counts)).1

-- ---- the findings

-- how many findings a step puts at most, in a buffer of so many bytes: the line of one has at most ten, since its kind has one digit, and
-- its a and b, which are below 256, have at most three
unfoldable pub lines_in : ℕ → ℕ
lines_in room = min 7168 (room / 10)

abbrev pub cursor_to : Place → Cursor
cursor_to p = record { kind = p.kind; a = p.a; b = p.b }

-- the lines of the findings put; fewer than n are the last
abbrev pub listing : ℕ → Answer → List ℕ × State
listing n a = elim (said a).put [ none ↦ ([], Finished) | some x ↦ (code_lines x.0, cond (ltb (length x.0) n) Finished (Listing (cursor_to x.1))) ]

unfoldable pub list_step : List ℕ → ℕ → Cursor → List ℕ × State
list_step m room c = listing (lines_in room) (memory_step m (ask (list_findings (cursor_place c) (lines_in room)))).1
