-- The findings of the words that are left are still to be put.
use Prim.Native.Nat.{◌+◌, ◌*◌}
use mathlib.Core.Path.{◌≡◌}
use Rattle.row_listing.proofs.Putting.{PuttingRow}
use Rattle.row_listing.proofs.put_row_numbered.Given as goal

abbrev pub invariant-loop-word : goal.invariant-loop-word
invariant-loop-word l =
    PuttingRow l.initial.list l.number l.a l.word-items l.list l.count l.word-index
    × (l.base ≡ l.number * 4294967296 + l.a * 65536 + l.word-index * 64)
