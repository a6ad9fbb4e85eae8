-- Checks, and what a list of them answers.
use Rattle.std.specs.Prelude.{List, [], ◌∷◌, ℕ, Option, None, Some, Result, Ok, Err, ⊤}
use Rattle.block.specs.declared.Reason.{Reason}
use Rattle.block.specs.declared.Reason.TheVariants.{MemorySize, NotWellFormed, BlockLength, Checksum, Kind, Limit, Range, Order, Unused, BeyondTable, FreeSlot, TableFull, BufferLength, BatchLength}
use Rattle.block.specs.declared.Refusal.{Refusal}

-- The numbers of the refusals: document 01's list, and from 13 on document 02.
abbrev pub reason_number : Reason → ℕ
reason_number MemorySize = 1
reason_number NotWellFormed = 2
reason_number BlockLength = 3
reason_number Checksum = 4
reason_number Kind = 5
reason_number Limit = 6
reason_number Range = 7
reason_number Order = 8
reason_number Unused = 9
reason_number BeyondTable = 10
reason_number FreeSlot = 11
reason_number TableFull = 12
reason_number BufferLength = 13
reason_number BatchLength = 14

-- a refusal that is of no place in a block
abbrev pub lone_refusal : Reason → Refusal
lone_refusal w = record { reason = w; position = 0 }

-- A check that a call meets: the reason of its refusal, and where its condition holds.
pub record Check : Type 0 where
  pub reason : Reason
  pub fault : Option ℕ

abbrev pub check : Reason → Option ℕ → Check
check w f = record { reason = w; fault = f }

-- the refusal for the reason w if there is a fault, else what comes after
abbrev pub refuse : Reason → Option ℕ → Result ⊤ Refusal → Result ⊤ Refusal
refuse w None rest = rest
refuse w (Some p) rest = Err (record { reason = w; position = p })

-- "The first that applies, in this order."
abbrev pub first_refusal : List Check → Result ⊤ Refusal
first_refusal [] = Ok tt
first_refusal (c ∷ cs) = refuse c.reason c.fault (first_refusal cs)

-- What reading gives: a refusal, or what was read.
pub data Read (A : Type 0) : Type 0 where
  refused : Refusal → Read A
  accepted : A → Read A

module _ {A : Type 0} where
  abbrev pub read_unless : Result ⊤ Refusal → A → Read A
  read_unless (Ok t) x = accepted x
  read_unless (Err r) x = refused r

  -- a reading, apart from what was read
  abbrev pub tested_of : Read A → Result ⊤ Refusal
  tested_of (refused r) = Err r
  tested_of (accepted x) = Ok tt
