-- What a step does, by the state, and how far it is to the end.
use Rattle.std.specs.Prelude.{◌≡◌, Bool, true, false, List, [], ℕ, ◌+◌, ◌-◌, ◌*◌, ◌<◌, length}
use Rattle.model.specs.Registry.{rebuilt}
use Rattle.formed.specs.Registry.{registry_in, image, well_formed}
use Rattle.findings.specs.declared.Cursor.{Cursor}
use Rattle.sheets.specs.declared.State.{State}
use Rattle.sheets.specs.declared.State.TheVariants.{Taking, Counting, Listing, Finished}
use Rattle.sheets.specs.Left.{Left, left}
use Rattle.sheets.specs.Pieces.{take_step}
use Rattle.sheets.specs.Closing.{count_step, list_step}

abbrev pub told : List ℕ → List ℕ → List ℕ × State → Left
told m k x = left m k x.0 x.1 0

-- m the memory, k the buffer of the started block, p the piece of input, `ended` whether the input ends with it, room the length of
-- the buffer for the text
unfoldable pub report_step : List ℕ → List ℕ → List ℕ → Bool → ℕ → State → Left
report_step m k p ended room (Taking n f) = take_step m k p ended room n f
-- the input has ended: "sets every kept bit by the rules"
report_step m k p ended room Counting = let r = image (rebuilt (registry_in m)) in told r k (count_step r)
report_step m k p ended room (Listing c) = told m k (list_step m room c)
report_step m k p ended room Finished = told m k ([], Finished)

abbrev pub start_state : State
start_state = Taking 0 0

-- What a step asks of the memory: before the first block, which opens, nothing; then that it is well formed.
abbrev pub Ready : State → List ℕ → Type 0
Ready (Taking n f) m = (n ≡ 0 → ⊥) → well_formed m ≡ true
Ready Counting m = well_formed m ≡ true
Ready (Listing c) m = well_formed m ≡ true
Ready Finished m = Unit {0}

abbrev pub finished_in : State → Bool
finished_in (Taking n f) = false
finished_in Counting = false
finished_in (Listing c) = false
finished_in Finished = true

-- ---- how far it is to the end

-- the bytes of the started block
abbrev pub started_in : State → ℕ
started_in (Taking n f) = f
started_in Counting = 0
started_in (Listing c) = 0
started_in Finished = 0

-- how many places there are from a cursor on
abbrev pub places_from : Cursor → ℕ
places_from c = 281474976710656 - (c.kind * 4294967296 + c.a * 65536 + c.b)

-- a number that falls with each step that is lent some input, or that it has ended
abbrev pub ahead : State → ℕ
ahead (Taking n f) = 281474976710658 + (18446744073709551615 - n) * 512 + (512 - f)
ahead Counting = 281474976710657
ahead (Listing c) = places_from c
ahead Finished = 0

-- the piece p has some bytes, or the input has ended
abbrev pub Fed : List ℕ → Bool → Type 0
Fed p ended = ended ≡ false → 0 < length p
