-- The rows of findings, one after another.
use Rattle.std.specs.Prelude.{◌≡◌, false, ℕ, ◌+◌, ◌*◌, ◌≤◌, ◌<◌, ◌⊎◌, Option, Some, None}
use Rattle.bitrow.specs.Set.{Lowest}
use Rattle.model.specs.Kinds.{kind_number}
use Rattle.finding_rows.specs.Slots.{slots_of}
use Rattle.findings.specs.declared.Row.{Row}
use Rattle.findings.specs.declared.Rows.{Rows}

-- the order of the rows: kind after kind, and slot after slot
abbrev pub row_number : ℕ → ℕ → ℕ
row_number k a = k * 65536 + a

-- from the place s on and before the slot a of kind k there is no row
pub record NoneTo (s : Rows) (k a : ℕ) : Type 0 where
  pub clear : (x y : ℕ) → 0 < x → y < 256 → row_number s.kind s.slot ≤ row_number x y → row_number x y < row_number k a → slots_of s.slots.now x y ≡ false

-- the row of the place s itself
pub record HereIs (s : Rows) (r : Row) : Type 0 where
  pub kind : kind_number r.kind ≡ s.kind
  pub slot : r.slot ≡ s.slot
  pub from : r.from ≡ s.from

-- the first row after the place s: of its kind, or of a later one
pub record LaterIs (s : Rows) (r : Row) : Type 0 where
  pub far : s.kind ≤ kind_number r.kind
  pub past : kind_number r.kind ≡ s.kind → s.slot < r.slot
  pub from : r.from ≡ 0
  pub none : NoneTo s (kind_number r.kind) r.slot

-- the place after the whole row r
pub record After (s : Rows) (r : Row) (t : Rows) : Type 0 where
  pub within : r.slot < 256
  pub slots : t.slots.now ≡ s.slots.now
  pub kind : t.kind ≡ kind_number r.kind
  pub slot : t.slot ≡ r.slot + 1
  pub from : t.from ≡ 0

-- the first row from the place on, and the place after it is left; or there is none
abbrev pub RowSteps : Rows → Option Row → Rows → Type 0
RowSteps s None t = NoneTo s 8 0
RowSteps s (Some r) t = (HereIs s r ⊎ LaterIs s r) × After s r t

-- the first row of the place's own kind
abbrev pub RowOfKind : Rows → Option Row → Type 0
RowOfKind s None = (a : ℕ) → 0 < s.kind → s.slot ≤ a → a < 256 → slots_of s.slots.now s.kind a ≡ false
RowOfKind s (Some r) = (kind_number r.kind ≡ s.kind) × Lowest (slots_of s.slots.now s.kind) s.slot 256 r.slot × (r.slot ≡ s.slot → r.from ≡ s.from) × (s.slot < r.slot → r.from ≡ 0)
