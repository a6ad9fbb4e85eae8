-- The input that is still to come, and what of a text was written.
use Rattle.std.specs.Prelude.{◌≡◌, Bool, true, false, ℕ, ◌+◌, ◌-◌, ◌≤◌, List, [], take, slice_range, Option, None, Some}
use Rattle.std.specs.Io.KnownBytes.{prepend_known, Appends, IsAtEnd}
use Rattle.streams.specs.declared.Input.{Input}
use Rattle.streams.specs.declared.Input.TheVariants.{Unused, Ended}

abbrev pub ended_in : Input → Bool
ended_in (Unused at end) = false
ended_in Ended = true

-- what was read and is still to be used
abbrev pub piece_of : List ℕ → Input → List ℕ
piece_of bytes (Unused at end) = slice_range bytes at end
piece_of bytes Ended = []

-- how many bytes those are
abbrev pub left_in : Input → ℕ
left_in (Unused at end) = end - at
left_in Ended = 0

-- they stand within a buffer of so many bytes
abbrev pub Within : Input → ℕ → Type 0
Within (Unused at end) room = (at ≤ end) × (end ≤ room)
Within Ended room = Unit {0}

-- what is left where n more were used
abbrev pub after : Input → ℕ → Input
after (Unused at end) n = Unused (at + n) end
after Ended n = Ended

-- what the reader has left, where that is known; nothing, where it was said that the input has ended
abbrev pub unread : Input → Option (List ℕ) → Option (List ℕ)
unread (Unused at end) left = left
unread Ended None = None
unread Ended (Some left) = Some []

-- what was read and is still to be used, and then whatever the reader has left, told that it has ended or not
abbrev pub held : List ℕ → Input → Option (List ℕ) → Option (List ℕ)
held bytes input left = prepend_known (piece_of bytes input) left

-- that the input has ended is told only where the reader has nothing left
abbrev pub TellsEnd : Input → Option (List ℕ) → Type 0
TellsEnd input left = ended_in input ≡ true → IsAtEnd left

-- what was read and is still to be used, and then what the reader has left
abbrev pub to_come : List ℕ → Input → Option (List ℕ) → Option (List ℕ)
to_come bytes input left = prepend_known (piece_of bytes input) (unread input left)

-- known bytes grow by the first bytes of a text, at most n of them
abbrev pub AppendsSome : Option (List ℕ) → Option (List ℕ) → List ℕ → ℕ → Type 0
AppendsSome old new text n = (k : ℕ) × (k ≤ n) × Appends old new (take k text)
